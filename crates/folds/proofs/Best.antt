-- The lowest of the largest of the numbers below n that have p.
use Prim.Native.Nat.{ℕ, zero, suc, ◌≤◌, ◌<◌}
use mathlib.Core.Path.{◌≡◌, refl, sym, ◌∙◌}
use mathlib.Core.Bool.{Bool, true, false, ◌&&◌, ◌||◌}
use mathlib.Core.Logic.{◌⊎◌, inl, inr}
use native.Mathlib.Nat.{not-suc-le-zero}
use native.Mathlib.Omega.{arith}
use lib.Dec.{eqb}
use borrow.Author.Tests.{eq-eqb, ne_eqb}
use Rattle.folds.specs.Fold.{turns, best_to}
use Rattle.folds.proofs.Cases.{no_bool, by, both, either, last_or}
use Rattle.folds.proofs.Loops.{turns_zero, turns_skip}

pub record Best (n : ℕ) (p : ℕ → Bool) (less : ℕ → ℕ → Bool) (r : ℕ) : Type 0 where
  pub below : r < n
  pub has : p r ≡ true
  pub largest : (u : ℕ) → u < n → p u ≡ true → less r u ≡ false
  pub lowest : (u : ℕ) → u < r → p u ≡ true → less u r ≡ true

module _ (p : ℕ → Bool) (less : ℕ → ℕ → Bool) (s : ℕ) where
  -- numbers from i on that do not have p
  pub best_skip : (i n : ℕ) → i ≤ n → ((u : ℕ) → i ≤ u → u < n → p u ≡ false) → best_to n p less s ≡ best_to i p less s
  unfolding best_to
  best_skip i n l z = turns_skip _ s i n l (λ u a b t. rw (z u a b))

  pub best_none : (n : ℕ) → ((u : ℕ) → u < n → p u ≡ false) → s ≡ best_to n p less s
  unfolding best_to
  best_none n z = turns_zero _ s ∙ sym (best_skip 0 n (omega arith) (λ u a. z u))

  -- it is s, or one that has p
  pub best_one : (n : ℕ) → (best_to n p less s ≡ s) ⊎ ((best_to n p less s < n) × (p (best_to n p less s) ≡ true))
  unfolding best_to turns
  best_one zero = inl refl
  best_one (suc n) =
      by (p n && (eqb (best_to n p less s) s || less (best_to n p less s) n)) (λ e. rw e (inr (omega arith, (both (p n) _ e).0)))
      (λ e. rw e (either (best_one n) inl (λ (l, q). inr (omega arith, q))))

  pub best_below_lem : (n m : ℕ) → n ≤ m → s < m → best_to n p less s < m
  best_below_lem n m l h = either (best_one n) (λ e. rw e h) (λ (b, _). omega arith)

-- equal tests of the numbers below m, s among them
pub best_alike : (p q : ℕ → Bool) (less more : ℕ → ℕ → Bool) (s m n : ℕ) → s < m → n ≤ m → ((u : ℕ) → u < n → p u ≡ q u) → ((a b : ℕ) → a < m → b < m → less a b ≡ more a b)
    → best_to n p less s ≡ best_to n q more s
unfolding best_to turns
best_alike p q less more s m zero h l e f = refl
best_alike p q less more s m (suc n) h l e f =
    rw (best_alike p q less more s m n h (omega arith) (λ u g. e u (omega arith)) f, e n (omega arith), f (best_to n q more s) n (best_below_lem q more s n m (omega arith) h) (omega arith))

-- by any `less` that puts b before c where b is not after a, which is before c
module _ (p : ℕ → Bool) (less : ℕ → ℕ → Bool) (s : ℕ) (out : p s ≡ false) (self : (a : ℕ) → less a a ≡ false)
    (mix : (a b c : ℕ) → less a b ≡ false → less a c ≡ true → (less b c ≡ true) × (less c b ≡ false)) where
  pub best_to_lem : (n : ℕ) → ((best_to n p less s ≡ s) × ((u : ℕ) → u < n → p u ≡ false)) ⊎ Best n p less (best_to n p less s)
  unfolding best_to turns
  best_to_lem zero = inl (refl, λ u l. absurd (not-suc-le-zero l))
  best_to_lem (suc n) =
      either (best_to_lem n)
      (λ (e, z). by (p n)
      (λ q. rw (q, eq-eqb b s e)
      (inr (record {
        below = omega arith;
        has = q;
        largest = λ u l x. either (last_or l) (λ e. rw e (self n)) (λ m. absurd (no_bool (sym (z u m) ∙ x)));
        lowest = λ u l x. absurd (no_bool (sym (z u l) ∙ x));
      })))
      (λ q. rw q (inl (e, λ u l. either (last_or l) (λ e. rw e q) (z u)))))
      (λ w. by (p n)
      (λ q. rw (q, ne_eqb b s (λ e. no_bool (sym out ∙ rw (← e) w.has)))
      (by (less b n)
      (λ y. rw y
      (inr (record {
        below = omega arith;
        has = q;
        largest = λ u l x. either (last_or l) (λ e. rw e (self n)) (λ m. (mix b u n (w.largest u m x) y).1);
        lowest = λ u l x. (mix b u n (w.largest u l x) y).0;
      })))
      (λ y. rw y
      (inr (record {
        below = omega (arith, w.below);
        has = w.has;
        largest = λ u l x. either (last_or l) (λ e. rw e y) (λ m. w.largest u m x);
        lowest = w.lowest;
      })))))
      (λ q. rw q
      (inr (record {
        below = omega (arith, w.below);
        has = w.has;
        largest = λ u l x. either (last_or l) (λ e. absurd (no_bool (sym q ∙ rw (← e) x))) (λ m. w.largest u m x);
        lowest = w.lowest;
      }))))
    where
      b : ℕ
      b = best_to n p less s
