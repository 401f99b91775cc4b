-- Laws of counts: the one that is counted as the c-th, and counts that are equal.
use Prim.Native.Nat.{ℕ, zero, suc, ◌+◌, ◌≤◌, ◌<◌}
use mathlib.Core.Path.{◌≡◌}
use mathlib.Core.Bool.{Bool, true, false}
use native.Mathlib.Omega.{arith}
use lib.Dec.{ltb}
use borrow.Author.Tests.{ltb-true, ltb-false}
use Rattle.folds.specs.Fold.{when, sum_to, count_to}
use Rattle.folds.proofs.Cases.{by}
use Rattle.folds.proofs.Sums.{sum_to_none, sum_to_skip, sum_to_less, count_to_up}

pub count_to_less : (j n : ℕ) (p : ℕ → Bool) → j ≤ n → count_to j p ≤ count_to n p
unfolding count_to
count_to_less j n p l = sum_to_less _ j n l

-- a number below the count is the count at one that is counted
pub count_onto : (n : ℕ) (p : ℕ → Bool) (c : ℕ) → c < count_to n p → (w : ℕ) × (w < n) × (p w ≡ true) × (count_to w p ≡ c)
unfolding count_to sum_to
count_onto zero p c l = absurd (omega arith)
count_onto (suc n) p c l =
    by (ltb c (count_to n p))
    (λ t. let (w, h, e, q) = count_onto n p c (ltb-true c (count_to n p) t) in (w, omega arith, e, q))
    (λ t. by (p n) (λ e. let m = rw e at l in (n, omega arith, e, omega (arith, ltb-false c (count_to n p) t)))
    (λ e. let m = rw e at l in absurd (omega (arith, ltb-false c (count_to n p) t))))

-- two that are counted have different counts
pub count_inj : (a b : ℕ) (p : ℕ → Bool) → p a ≡ true → p b ≡ true → count_to a p ≡ count_to b p → a ≡ b
count_inj a b p s t e =
    by (ltb a b) (λ l. omega (arith, count_to_up a b p (ltb-true a b l) s))
    (λ l. by (ltb b a) (λ g. omega (arith, count_to_up b a p (ltb-true b a g) t)) (λ g. omega (arith, ltb-false a b l, ltb-false b a g)))

-- the counts come in the order of what is counted
pub count_order : (a b : ℕ) (p : ℕ → Bool) → count_to a p < count_to b p → a < b
count_order a b p h = by (ltb a b) (λ l. ltb-true a b l) (λ l. absurd (omega (arith, count_to_less b a p (ltb-false a b l))))

-- none below a, then n in a row
pub count_run : (p : ℕ → Bool) (a n : ℕ) → ((q : ℕ) → q < a → p q ≡ false) → ((q : ℕ) → a ≤ q → q < a + n → p q ≡ true) → count_to (a + n) p ≡ n
unfolding count_to sum_to
count_run p a zero h g = let z : a + 0 ≡ a = omega arith in rw z (sum_to_none a _ (λ k l. rw (h k l)))
count_run p a (suc n) h g =
    let z : a + suc n ≡ suc (a + n) = omega arith in
    rw (z, g (a + n) (omega arith) (omega arith)) (omega (arith, count_run p a n h (λ q x y. g q x (omega arith))))

-- none from a on
pub count_past : (p : ℕ → Bool) (a n : ℕ) → a ≤ n → ((q : ℕ) → a ≤ q → q < n → p q ≡ false) → count_to n p ≡ count_to a p
unfolding count_to
count_past p a n h g = sum_to_skip (λ k. when (p k) 1) a n h (λ k x y. rw (g k x y))
