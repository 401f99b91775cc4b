-- Laws of bounded sums and counts, at the code's i + 1.
use Prim.Native.Nat.{ℕ, zero, suc, ◌+◌, ◌*◌, ◌≤◌, ◌<◌}
use mathlib.Core.Path.{◌≡◌, refl, sym, ap₂}
use mathlib.Core.Bool.{Bool, true, false, ◌||◌}
use mathlib.Core.Logic.{⊎_elim}
use native.Mathlib.Nat.{suc-mul, not-suc-le-zero, eq-or-lt_of_le}
use native.Mathlib.Numerals.{add-one}
use native.Mathlib.Omega.{arith}
use lib.Dec.{eqb}
use borrow.Author.Tests.{eq-eqb, ne_eqb}
use Rattle.folds.specs.Fold.{when, sum_to, count_to}
use Rattle.folds.proofs.Cases.{last_or, when_le, when_more, either}

pub sum_to_zero : (f : ℕ → ℕ) → sum_to 0 f ≡ 0
unfolding sum_to
sum_to_zero f = refl

pub sum_to_step : (i : ℕ) (f : ℕ → ℕ) → sum_to (i + 1) f ≡ sum_to i f + f i
unfolding sum_to
sum_to_step i f = rw add-one

-- a loop `while i < n { s += f(i); i += 1; }`: a turn, and the end
pub sum_to_turn : {s x i : ℕ} (f : ℕ → ℕ) → s ≡ sum_to i f → x ≡ f i → s + x ≡ sum_to (i + 1) f
sum_to_turn {s} {x} {i} f e h = omega (arith, sum_to_step i f)

pub sum_to_end : {s i n : ℕ} (f : ℕ → ℕ) → i ≤ n → n ≤ i → s ≡ sum_to i f → s ≡ sum_to n f
sum_to_end {s} {i} {n} f l g e = let q : i ≡ n = omega arith in cc

-- bounds
pub sum_to_le : (n b : ℕ) (f : ℕ → ℕ) → ((k : ℕ) → f k ≤ b) → sum_to n f ≤ n * b
unfolding sum_to
sum_to_le zero b f h = omega arith
sum_to_le (suc n) b f h = omega (arith, suc-mul n b, sum_to_le n b f h, h n)

pub sum_to_less : (f : ℕ → ℕ) (j n : ℕ) → j ≤ n → sum_to j f ≤ sum_to n f
unfolding sum_to
sum_to_less f j zero l = let q : j ≡ 0 = omega arith in rw q (omega arith)
sum_to_less f j (suc n) l = ⊎_elim (λ q. rw q (omega arith)) (λ q. omega (arith, sum_to_less f j n (omega arith))) (eq-or-lt_of_le l)

pub sum_to_mono : (n : ℕ) (f g : ℕ → ℕ) → ((k : ℕ) → k < n → f k ≤ g k) → sum_to n f ≤ sum_to n g
unfolding sum_to
sum_to_mono zero f g h = omega arith
sum_to_mono (suc n) f g h = omega (arith, sum_to_mono n f g (λ k l. h k (omega arith)), h n (omega arith))

-- a term is at most the sum
pub sum_to_member : (n : ℕ) (f : ℕ → ℕ) (k : ℕ) → k < n → f k ≤ sum_to n f
sum_to_member n f k l = omega (arith, sum_to_less f (k + 1) n (omega arith), sum_to_step k f)

-- equal terms, sums of sums, terms that are 0
pub sum_to_ext : (n : ℕ) (f g : ℕ → ℕ) → ((k : ℕ) → k < n → f k ≡ g k) → sum_to n f ≡ sum_to n g
unfolding sum_to
sum_to_ext zero f g h = refl
sum_to_ext (suc n) f g h = ap₂ ◌+◌ (sum_to_ext n f g (λ k l. h k (omega arith))) (h n (omega arith))

pub sum_to_add : (n : ℕ) (f g : ℕ → ℕ) → sum_to n (λ k. f k + g k) ≡ sum_to n f + sum_to n g
unfolding sum_to
sum_to_add zero f g = refl
sum_to_add (suc n) f g = omega (arith, sum_to_add n f g)

pub sum_to_none : (n : ℕ) (f : ℕ → ℕ) → ((k : ℕ) → k < n → f k ≡ 0) → sum_to n f ≡ 0
unfolding sum_to
sum_to_none zero f h = refl
sum_to_none (suc n) f h = omega (arith, sum_to_none n f (λ k l. h k (omega arith)), h n (omega arith))

pub sum_to_skip : (f : ℕ → ℕ) (j h : ℕ) → j ≤ h → ((i : ℕ) → j ≤ i → i < h → f i ≡ 0) → sum_to h f ≡ sum_to j f
unfolding sum_to
sum_to_skip f j zero l z = let q : j ≡ 0 = omega arith in rw q
sum_to_skip f j (suc h) l z =
    ⊎_elim (λ q. rw q) (λ q. omega (arith, sum_to_skip f j h (omega arith) (λ i li gi. z i li (omega arith)), z h (omega arith) (omega arith))) (eq-or-lt_of_le l)

-- a test that does not depend on the index goes out of the sum
pub sum_to-when : (n : ℕ) (t : Bool) (f : ℕ → ℕ) → sum_to n (λ k. when t (f k)) ≡ when t (sum_to n f)
sum_to-when n true f = refl
sum_to-when n false f = sum_to_none n _ (λ k l. refl)

-- the one term that counts
pub sum_to_only : (n : ℕ) (k : ℕ) (f : ℕ → ℕ) → k < n → sum_to n (λ i. when (eqb k i) (f i)) ≡ f k
unfolding sum_to
sum_to_only zero k f l = absurd (not-suc-le-zero l)
sum_to_only (suc n) k f l =
    either (last_or l)
    (λ e. let z = sum_to_none n (λ i. when (eqb k i) (f i)) (λ i h. rw (ne_eqb k i (λ q. omega arith))) in rw (z, eq-eqb k n e, ← e) (omega arith))
    (λ h. rw (sum_to_only n k f h, ne_eqb k n (λ q. omega arith)) (omega arith))

-- sums in either order
pub sum_to_swap : (n m : ℕ) (f : ℕ → ℕ → ℕ) → sum_to n (λ i. sum_to m (λ j. f i j)) ≡ sum_to m (λ j. sum_to n (λ i. f i j))
unfolding sum_to
sum_to_swap zero m f = sym (sum_to_none m _ (λ k l. refl))
sum_to_swap (suc n) m f = rw (sum_to_swap n m f) (sym (sum_to_add m (λ j. sum_to n (λ i. f i j)) (f n)))

-- counts
pub count_to_le : (n : ℕ) (p : ℕ → Bool) → count_to n p ≤ n
unfolding count_to sum_to
count_to_le zero p = omega arith
count_to_le (suc n) p = omega (arith, count_to_le n p, when_le (p n) 1)

pub count_to_all : (n : ℕ) (p : ℕ → Bool) → ((k : ℕ) → k < n → p k ≡ true) → count_to n p ≡ n
unfolding count_to sum_to
count_to_all zero p h = refl
count_to_all (suc n) p h = rw (count_to_all n p (λ k l. h k (omega arith)), h n (omega arith)) (omega arith)

pub count_to_zero : (n : ℕ) (p : ℕ → Bool) → ((k : ℕ) → k < n → p k ≡ false) → count_to n p ≡ 0
unfolding count_to
count_to_zero n p h = sum_to_none n _ (λ k l. rw (h k l))

pub count_to_ext : (n : ℕ) (p q : ℕ → Bool) → ((k : ℕ) → k < n → p k ≡ q k) → count_to n p ≡ count_to n q
unfolding count_to
count_to_ext n p q h = sum_to_ext n _ _ (λ k l. rw (h k l))

pub count_to_step : (i : ℕ) (p : ℕ → Bool) → count_to (i + 1) p ≡ count_to i p + when (p i) 1
unfolding count_to
count_to_step i p = sum_to_step i _

-- below a, but for one that is counted at a
pub count_to_up : (a b : ℕ) (p : ℕ → Bool) → a < b → p a ≡ true → count_to a p < count_to b p
unfolding count_to sum_to
count_to_up a zero p h t = omega arith
count_to_up a (suc b) p h t =
    either (last_or h) (λ e. rw (← e, t) (omega arith)) (λ l. omega (arith, count_to_up a b p l t))

-- what p counts q counts, and v as well
pub count_to_grows : (n : ℕ) (p q : ℕ → Bool) (v : ℕ) → v < n → ((k : ℕ) → p k ≡ true → q k ≡ true) → p v ≡ false → q v ≡ true → count_to n p < count_to n q
unfolding count_to sum_to
count_to_grows zero p q v l h a b = absurd (not-suc-le-zero l)
count_to_grows (suc n) p q v l h a b =
    either (last_or l)
    (λ e. let x : p n ≡ false = rw (← e) a in let y : q n ≡ true = rw (← e) b in let m = sum_to_mono n (λ k. when (p k) 1) (λ k. when (q k) 1) (λ k _. when_more (p k) (q k) 1 (h k)) in rw (x, y) (omega arith))
    (λ g. omega (arith, count_to_grows n p q v g h a b, when_more (p n) (q n) 1 (h n)))

-- p, and v as well
unfoldable pub with : (ℕ → Bool) → ℕ → ℕ → Bool
with p v x = eqb x v || p x

pub with_other : (p : ℕ → Bool) (v x : ℕ) → (x ≡ v → ⊥) → with p v x ≡ p x
unfolding with
with_other p v x h = rw (ne_eqb x v h)

pub with_same : (p : ℕ → Bool) (v : ℕ) → with p v v ≡ true
unfolding with
with_same p v = rw (eq-eqb v v refl)

count_above : (n : ℕ) (p : ℕ → Bool) (v : ℕ) → n ≤ v → count_to n (with p v) ≡ count_to n p
unfolding count_to sum_to
count_above zero p v h = refl
count_above (suc n) p v h = rw (count_above n p v (omega arith), with_other p v n (λ e. omega arith))

pub count_to_with : (n : ℕ) (p : ℕ → Bool) (v : ℕ) → v < n → p v ≡ false → count_to n (with p v) ≡ suc (count_to n p)
unfolding count_to sum_to
count_to_with zero p v h f = absurd (not-suc-le-zero h)
count_to_with (suc n) p v h f =
    either (last_or h) (λ e. let q : p n ≡ false = rw (← e) f in rw (e, count_above n p n (omega arith), with_same p n, q) (omega arith))
    (λ l. rw (count_to_with n p v l f, with_other p v n (λ e. omega arith)) (omega arith))
