-- A part written after what is written already.
use Prim.Native.Nat.{ℕ, suc, ◌+◌, ◌≤◌, ◌<◌}
use mathlib.Core.Path.{◌≡◌, refl, sym, ap, ◌∙◌}
use mathlib.Core.List.{List, [], ◌∷◌, ◌++◌, append_assoc}
use native.Mathlib.Numerals.{add-one}
use native.Mathlib.Omega.{arith}
use lib.ListN.{length, get_or, set, take, drop, take-append-drop, length-append}
use lib.Seq.{drop-cons, set_at, append_snoc, drop-drop, length-take-le, take_at, drop_at, take-suc, take_all}
use Rattle.folds.specs.Fold.{Wrote, put, part}
use Rattle.folds.proofs.Slices.{length-put}

module _ (l p : List ℕ) (a : ℕ) (h : a + length p ≤ length l) where
  front_length : length (take a l ++ p) ≡ a + length p
  front_length = length-append (take a l) p ∙ ap (λ (z : ℕ). z + length p) (length-take-le a l (omega arith))

  split : put l a p ≡ (take a l ++ p) ++ drop (a + length p) l
  unfolding put
  split = sym (append_assoc (take a l) p (drop (a + length p) l))

  pub take_put : take (a + length p) (put l a p) ≡ take a l ++ p
  take_put = ap (take (a + length p)) split ∙ take_at (take a l ++ p) (drop (a + length p) l) (a + length p) front_length

  pub drop-put : drop (a + length p) (put l a p) ≡ drop (a + length p) l
  drop-put = ap (drop (a + length p)) split ∙ drop_at (take a l ++ p) (drop (a + length p) l) (a + length p) front_length

  -- the part that was written, read again
  pub part-put : part (put l a p) a (length p) ≡ p
  unfolding part put
  part-put = ap (take (length p)) (drop_at (take a l) (p ++ drop (a + length p) l) a (length-take-le a l (omega arith))) ∙ take_at p (drop (a + length p) l) (length p) refl

pub wrote_part : {l₀ l rest all : List ℕ} {a : ℕ} (p : List ℕ) → Wrote l₀ l a (p ++ rest) all → a + length p ≤ length l → Wrote l₀ (put l a p) (a + length p) rest all
wrote_part {l₀} {l} {rest} {all} {a} p w h =
    record {
      same = length-put l a p h ∙ w.same;
      upto = rw (length-put l a p h) h;
      front = ap (λ (z : List ℕ). z ++ rest) (take_put l p a h) ∙ append_assoc (take a l) p rest ∙ w.front;
      back = drop-put l p a h ∙ sym (drop-drop (length p) a l) ∙ ap (drop (length p)) w.back ∙ drop-drop (length p) a l₀;
    }

pub put_none : (l : List ℕ) (a : ℕ) → put l a [] ≡ l
unfolding put
put_none l a = let q : a + 0 ≡ a = omega arith in rw q (take-append-drop a l)

-- one more entry after p
pub put_more : (l : List ℕ) (a : ℕ) (p : List ℕ) (x : ℕ) → a + length p < length l → set (put l a p) (a + length p) x ≡ put l a (p ++ (x ∷ []))
unfolding put
put_more l a p x h =
    let n : length (take a l ++ p) ≡ a + length p = length-append (take a l) p ∙ rw (length-take-le a l (omega arith)) in
    let e : drop (a + length p) l ≡ get_or l (a + length p) 0 ∷ drop (suc (a + length p)) l = drop-cons l (a + length p) 0 h in
    let k : a + length (p ++ (x ∷ [])) ≡ suc (a + length p) = simp length-append (omega arith) in
    let s : set ((take a l ++ p) ++ (get_or l (a + length p) 0 ∷ drop (suc (a + length p)) l)) (a + length p) x ≡ (take a l ++ p) ++ (x ∷ drop (suc (a + length p)) l) = set_at (take a l ++ p) _ _ x (a + length p) n in
    rw (e, k, append_snoc p x, ← append_assoc (take a l) p) (s ∙ append_assoc (take a l) p _)

-- one part after another
pub put-put : (l : List ℕ) (a : ℕ) (p q : List ℕ) → a + length p + length q ≤ length l → put (put l a p) (a + length p) q ≡ put l a (p ++ q)
unfolding put
put-put l a p q h =
    let n : length (take a l ++ p) ≡ a + length p = length-append (take a l) p ∙ rw (length-take-le a l (omega arith)) in
    let x : take (a + length p) ((take a l ++ p) ++ drop (a + length p) l) ≡ take a l ++ p = take_at (take a l ++ p) _ (a + length p) n in
    let y : drop (a + length p + length q) ((take a l ++ p) ++ drop (a + length p) l) ≡ drop (a + length p + length q) l =
    sym (drop-drop (length q) (a + length p) ((take a l ++ p) ++ drop (a + length p) l)) ∙ (ap (drop (length q)) (drop_at (take a l ++ p) _ (a + length p) n) ∙ drop-drop (length q) (a + length p) l) in
    let k : a + length (p ++ q) ≡ a + length p + length q = simp length-append (omega arith) in
    rw (← append_assoc (take a l) p (drop (a + length p) l), x, y, k) (simp append_assoc)

-- a loop that copies s to place a, one entry a turn
pub copy_turn : (l₀ l : List ℕ) (a k : ℕ) (s : List ℕ) → l ≡ put l₀ a (take k s) → k < length s → a + length s ≤ length l₀ → set l (a + k) (get_or s k 0) ≡ put l₀ a (take (k + 1) s)
copy_turn l₀ l a k s e h r =
    let n : length (take k s) ≡ k = length-take-le k s (omega arith) in
    let m : set (put l₀ a (take k s)) (a + length (take k s)) (get_or s k 0) ≡ put l₀ a (take k s ++ (get_or s k 0 ∷ [])) = put_more l₀ a (take k s) (get_or s k 0) (rw n (omega arith)) in
    rw (e, add-one k, take-suc s k 0 h) (rw n at m)

pub copy_end : (l₀ l : List ℕ) (a k : ℕ) (s : List ℕ) → l ≡ put l₀ a (take k s) → length s ≤ k → l ≡ put l₀ a s
copy_end l₀ l a k s e h = e ∙ ap (put l₀ a) (take_all k s h)
