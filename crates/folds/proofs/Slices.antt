-- Laws of loops that write the front of a slice, one store a turn, and of a part that a callee wrote.
use Prim.Native.Nat.{ℕ, ◌+◌, ◌-◌, ◌≤◌, ◌<◌}
use mathlib.Core.Path.{◌≡◌, refl, sym, ap, ap₂, ◌∙◌}
use mathlib.Core.List.{List, [], ◌∷◌, ◌++◌, append-nil}
use native.Mathlib.Numerals.{add-one}
use native.Mathlib.Omega.{arith}
use lib.ListN.{length, set, take, drop, length-set, length-append, length-take, length-drop, take-append-drop}
use lib.Seq.{take-suc-set, append_snoc, drop-set-lt, drop-drop, length-take-le, take_all, take_at}
use Rattle.folds.specs.Fold.{list_to, Wrote, over, Filled, put, part}
use Rattle.folds.proofs.Lists.{length-list_to}

drop_more : (l l₀ : List ℕ) (n : ℕ) → drop n l ≡ drop n l₀ → drop (n + 1) l ≡ drop (n + 1) l₀
drop_more l l₀ n e = sym (drop-drop 1 n l) ∙ ap (drop 1) e ∙ drop-drop 1 n l₀

pub wrote_none : (l all : List ℕ) → Wrote l l 0 all all
wrote_none l all = record { same = refl; upto = omega arith; front = refl; back = refl }

pub wrote_more : {l₀ l rest all : List ℕ} {n x : ℕ} → Wrote l₀ l n (x ∷ rest) all → n < length l → Wrote l₀ (set l n x) (n + 1) rest all
wrote_more {l₀} {l} {rest} {all} {n} {x} w h =
    record {
      same = length-set l n x ∙ w.same;
      upto = simp length-set (omega arith);
      front = rw (add-one, take-suc-set l n x h, append_snoc (take n l) x rest) w.front;
      back = drop-set-lt (n + 1) l n x (omega arith) ∙ drop_more l l₀ n w.back;
    }

pub wrote_turn : {l₀ l rest rest' all : List ℕ} {n x : ℕ} → Wrote l₀ l n rest all → rest ≡ x ∷ rest' → n < length l → Wrote l₀ (set l n x) (n + 1) rest' all
wrote_turn w e h = wrote_more (rw e at w) h

pub wrote_length : {l₀ l all : List ℕ} {n : ℕ} → Wrote l₀ l n [] all → n ≡ length all
wrote_length {l₀} {l} {all} {n} w = sym (length-take-le n l w.upto) ∙ ap length (sym (append-nil (take n l)) ∙ w.front)

pub wrote_end : {l₀ l all : List ℕ} {n : ℕ} → Wrote l₀ l n [] all → l ≡ over all l₀
unfolding over
wrote_end {l₀} {l} {all} {n} w =
    sym (take-append-drop n l) ∙ ap₂ ◌++◌ (sym (append-nil (take n l)) ∙ w.front) (w.back ∙ ap (λ (k : ℕ). drop k l₀) (wrote_length w))

pub wrote_done : {l₀ l rest all : List ℕ} {n : ℕ} → Wrote l₀ l n rest all → rest ≡ [] → (n ≡ length all) × (l ≡ over all l₀)
wrote_done w e = (wrote_length (rw e at w), wrote_end (rw e at w))

pub filled_none : (l : List ℕ) (f : ℕ → ℕ) → Filled l l 0 f
unfolding list_to
filled_none l f = record { same = refl; upto = omega arith; front = refl; back = refl }

pub filled_turn : {l₀ l : List ℕ} {n x : ℕ} {f : ℕ → ℕ} → Filled l₀ l n f → x ≡ f n → n < length l → Filled l₀ (set l n x) (n + 1) f
unfolding list_to
filled_turn {l₀} {l} {n} {x} {f} w e h =
    record {
      same = length-set l n x ∙ w.same;
      upto = simp length-set (omega arith);
      front = rw (add-one, take-suc-set l n x h, w.front, e);
      back = drop-set-lt (n + 1) l n x (omega arith) ∙ drop_more l l₀ n w.back;
    }

pub filled_end : {l₀ l : List ℕ} {n : ℕ} {f : ℕ → ℕ} → Filled l₀ l n f → l ≡ over (list_to n f) l₀
unfolding over
filled_end {l₀} {l} {n} {f} w = rw length-list_to (sym (take-append-drop n l) ∙ ap₂ ◌++◌ w.front w.back)

pub filled_all : {l₀ l : List ℕ} {n : ℕ} {f : ℕ → ℕ} → Filled l₀ l n f → length l ≤ n → l ≡ list_to n f
filled_all {l₀} {l} {n} {f} w h = sym (take_all n l h) ∙ w.front

pub take-over : (all l : List ℕ) (n : ℕ) → length all ≡ n → take n (over all l) ≡ all
unfolding over
take-over all l n h = take_at all (drop (length all) l) n h

pub length_over : (all l : List ℕ) → length all ≤ length l → length (over all l) ≡ length l
unfolding over
length_over all l h = simp (length-append, length-drop) (omega arith)

-- a part of a slice that a callee wrote and gave back, as `put`
pub put_part : (l p q : List ℕ) (a k : ℕ) → q ≡ p → k ≡ length p → take a l ++ (q ++ drop k (drop a l)) ≡ put l a p
unfolding put
put_part l p q a k e h = ap (λ (z : List ℕ). take a l ++ z) (ap₂ ◌++◌ e (drop-drop k a l ∙ ap (λ (j : ℕ). drop (a + j) l) h))

pub length-put : (l : List ℕ) (a : ℕ) (p : List ℕ) → a + length p ≤ length l → length (put l a p) ≡ length l
unfolding put
length-put l a p h = simp (length-append, length-take, length-drop) (omega arith)

pub length_part : (l : List ℕ) (a n : ℕ) → a + n ≤ length l → length (part l a n) ≡ n
unfolding part
length_part l a n h = simp (length-take, length-drop) (omega arith)

-- a list that is as long is written over whole
pub over_whole : (all l : List ℕ) → length all ≡ length l → over all l ≡ all
over_whole all l e =
    let n : length (over all l) ≡ length all = length_over all l (omega arith) ∙ sym e in
    sym (take_all (length all) (over all l) (omega arith)) ∙ take-over all l (length all) refl

-- a slice from a to a + n
pub slice_part : (l : List ℕ) (a n : ℕ) → take (a + n - a) (drop a l) ≡ part l a n
unfolding part
slice_part l a n = let q : a + n - a ≡ n = omega arith in rw q
