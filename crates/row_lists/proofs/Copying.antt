-- A list written into another from place a on, one entry after another.
use Prim.Native.Nat.{ℕ, suc, ◌+◌, ◌≤◌, ◌<◌}
use mathlib.Core.Path.{◌≡◌, sym, ap, ◌∙◌}
use mathlib.Core.List.{List, [], ◌∷◌, ◌++◌, append_assoc}
use native.Mathlib.Numerals.{add-one}
use native.Mathlib.Omega.{arith}
use lib.ListN.{length, get_or, set, take, drop, length-append, take-append-drop}
use lib.Seq.{length-take-le, take-length, take-suc, drop-cons, append_snoc, set_at}

pub copied_none : {A : Type 0} (old src : List A) (a : ℕ) → old ≡ take a old ++ (take 0 src ++ drop (a + 0) old)
copied_none old src a = let z : a + 0 ≡ a = omega arith in rw z (sym (take-append-drop a old))

pub copied_more : {A : Type 0} (old src l : List A) (a i : ℕ) (x : A) → l ≡ take a old ++ (take i src ++ drop (a + i) old) → x ≡ get_or src i x → i < length src → a + length src ≤ length old
    → set l (a + i) x ≡ take a old ++ (take (i + 1) src ++ drop (a + (i + 1)) old)
copied_more old src l a i x e is h r =
    let n : length (take a old ++ take i src) ≡ a + i = length-append (take a old) (take i src) ∙ rw (length-take-le a old (omega arith), length-take-le i src (omega arith)) in
    let d : drop (a + i) old ≡ get_or old (a + i) x ∷ drop (suc (a + i)) old = drop-cons old (a + i) x (omega arith) in
    let k : a + suc i ≡ suc (a + i) = omega arith in
    let t : take (suc i) src ≡ take i src ++ (x ∷ []) = take-suc src i x h ∙ ap (λ (y : _). take i src ++ (y ∷ [])) (sym is) in
    let s : set ((take a old ++ take i src) ++ (get_or old (a + i) x ∷ drop (suc (a + i)) old)) (a + i) x ≡ (take a old ++ take i src) ++ (x ∷ drop (suc (a + i)) old) = set_at (take a old ++ take i src) _ _ x (a + i) n in
    rw (e, add-one i, k, t, d, append_snoc (take i src) x, ← append_assoc (take a old) (take i src)) (s ∙ append_assoc (take a old) (take i src) _)

pub copied_all : {A : Type 0} (old src l : List A) (a i : ℕ) → l ≡ take a old ++ (take i src ++ drop (a + i) old) → i ≡ length src → l ≡ take a old ++ (src ++ drop (a + length src) old)
copied_all old src l a i e n = rw (n, take-length src) at e
