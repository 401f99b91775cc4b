-- Laws of lists by index: `list_to`, a store, zeros, rows of a table.
use Prim.Native.Nat.{ℕ, zero, suc, ◌+◌, ◌-◌, ◌*◌, ◌≤◌, ◌<◌}
use mathlib.Core.Path.{◌≡◌, refl, sym, ◌∙◌}
use mathlib.Core.Logic.{⊎_elim}
use mathlib.Core.List.{List, [], ◌∷◌, ◌++◌}
use native.Mathlib.Nat.{suc-mul, mul-le-mul_right, not-suc-le-zero}
use native.Mathlib.Numerals.{add-one}
use native.Mathlib.Omega.{arith}
use lib.Dec.{eqb}
use lib.ListN.{length, get_or, set, take, drop, length-append, get_or-append, length-replicate}
use lib.Seq.{drop-cons, take-suc, get_or-set_same, get_or-set_other, get_or_at, ext_get_or}
use borrow.Author.Tests.{eq-eqb, ne_eqb}
use Rattle.folds.specs.Fold.{when, list_to, zeros}
use Rattle.folds.proofs.Cases.{either, eq_or_ne, last_or}

pub length-list_to : (n : ℕ) (f : ℕ → ℕ) → length (list_to n f) ≡ n
unfolding list_to
length-list_to zero f = refl
length-list_to (suc n) f = length-append (list_to n f) (f n ∷ []) ∙ rw (length-list_to n f) (omega arith)

pub get_d_list_to : (n : ℕ) (f : ℕ → ℕ) (v : ℕ) → v < n → get_or (list_to n f) v 0 ≡ f v
unfolding list_to
get_d_list_to zero f v l = absurd (not-suc-le-zero l)
get_d_list_to (suc n) f v l =
    ⊎_elim here (λ q. get_or-append (list_to n f) (f n ∷ []) 0 v (rw (length-list_to n f) q) ∙ get_d_list_to n f v q) (last_or l)
  where
    here : v ≡ n → get_or (list_to n f ++ (f n ∷ [])) v 0 ≡ f v
    here e = rw e (get_or_at (list_to n f) (f n) [] 0 n (length-list_to n f))

pub list_to_get_d : (n : ℕ) (l : List ℕ) → n ≤ length l → list_to n (λ k. get_or l k 0) ≡ take n l
unfolding list_to
list_to_get_d zero l h = refl
list_to_get_d (suc n) l h = rw (list_to_get_d n l (omega arith)) (sym (take-suc l n 0 h))

pub list_to_ext : (n : ℕ) (f g : ℕ → ℕ) → ((k : ℕ) → k < n → f k ≡ g k) → list_to n f ≡ list_to n g
unfolding list_to
list_to_ext zero f g h = refl
list_to_ext (suc n) f g h = rw (list_to_ext n f g (λ k l. h k (omega arith)), h n (omega arith))

-- a list whose entries are those of f
pub listed : (d : List ℕ) (n : ℕ) (f : ℕ → ℕ) → length d ≡ n → ((v : ℕ) → v < n → get_or d v 0 ≡ f v) → d ≡ list_to n f
listed d n f e h =
    ext_get_or 0 d (list_to n f) (e ∙ sym (length-list_to n f))
    (λ v l. let q : v < n = rw e at l in h v q ∙ sym (get_d_list_to n f v q))

-- past the end stands 0
pub get_d_past : (l : List ℕ) (i : ℕ) → length l ≤ i → get_or l i 0 ≡ 0
get_d_past [] i h = refl
get_d_past (x ∷ l) zero h = absurd (not-suc-le-zero h)
get_d_past (x ∷ l) (suc i) h = get_d_past l i (omega arith)

pub get_d_zeros : (n v : ℕ) → get_or (zeros n) v 0 ≡ 0
unfolding zeros
get_d_zeros zero v = refl
get_d_zeros (suc n) zero = refl
get_d_zeros (suc n) (suc v) = get_d_zeros n v

pub length-zeros : (n : ℕ) → length (zeros n) ≡ n
unfolding zeros
length-zeros n = length-replicate n _

-- x added, or taken off, at i: seen at each entry
pub set_add : (d : List ℕ) (i x v : ℕ) → i < length d → get_or (set d i (get_or d i 0 + x)) v 0 ≡ get_or d v 0 + when (eqb i v) x
set_add d i x v l = either (eq_or_ne v i) here other
  where
    here : v ≡ i → get_or (set d i (get_or d i 0 + x)) v 0 ≡ get_or d v 0 + when (eqb i v) x
    here e = rw (e, get_or-set_same d i (get_or d i 0 + x) 0 l, eq-eqb i i refl)

    other : (v ≡ i → ⊥) → get_or (set d i (get_or d i 0 + x)) v 0 ≡ get_or d v 0 + when (eqb i v) x
    other n = rw (get_or-set_other d i v (get_or d i 0 + x) 0 n, ne_eqb i v (λ e. n (sym e))) (omega arith)

pub set_sub : (d : List ℕ) (i x v : ℕ) → i < length d → x ≤ get_or d i 0 → get_or (set d i (get_or d i 0 - x)) v 0 + when (eqb i v) x ≡ get_or d v 0
set_sub d i x v l h = either (eq_or_ne v i) here other
  where
    here : v ≡ i → get_or (set d i (get_or d i 0 - x)) v 0 + when (eqb i v) x ≡ get_or d v 0
    here e = rw (e, get_or-set_same d i (get_or d i 0 - x) 0 l, eq-eqb i i refl) (omega arith)

    other : (v ≡ i → ⊥) → get_or (set d i (get_or d i 0 - x)) v 0 + when (eqb i v) x ≡ get_or d v 0
    other n = rw (get_or-set_other d i v (get_or d i 0 - x) 0 n, ne_eqb i v (λ e. n (sym e))) (omega arith)

-- entries at most b: after a store of what is at most b', at most b'
pub set_at_most : (d : List ℕ) (i x b b' : ℕ) → b ≤ b' → x ≤ b' → ((v : ℕ) → get_or d v 0 ≤ b) → (v : ℕ) → get_or (set d i x) v 0 ≤ b'
set_at_most [] i x b b' l g h v = omega (arith, h v)
set_at_most (y ∷ d) zero x b b' l g h zero = g
set_at_most (y ∷ d) zero x b b' l g h (suc v) = omega (arith, h (suc v))
set_at_most (y ∷ d) (suc i) x b b' l g h zero = omega (arith, h 0)
set_at_most (y ∷ d) (suc i) x b b' l g h (suc v) = set_at_most d i x b b' l g (λ k. h (suc k)) v

-- places in a table of k rows of n
pub row_in : (r k n : ℕ) → r < k → r * n + n ≤ k * n
row_in r k n l = omega (arith, suc-mul r n, mul-le-mul_right n l)

-- a list from place i on, at the code's i + 1
pub left_cons : {A : Type 0} (t : List A) (i : ℕ) (d : A) → i < length t → drop i t ≡ get_or t i d ∷ drop (i + 1) t
left_cons t i d h = rw (add-one, drop-cons t i d)
