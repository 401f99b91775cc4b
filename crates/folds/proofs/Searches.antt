-- Laws of bounded searches and maxima, at the code's i + 1.
use Prim.Native.Nat.{ℕ, zero, suc, ◌+◌, ◌≤◌, ◌<◌, max}
use mathlib.Core.Path.{◌≡◌, refl, sym, subst, ◌∙◌}
use mathlib.Core.Bool.{Bool, true, false, not, ◌||◌}
use mathlib.Core.Logic.{⊎_elim, ◌⊎◌, inl, inr}
use native.Mathlib.Nat.{not-suc-le-zero, eq-or-lt_of_le}
use native.Mathlib.Numerals.{add-one}
use native.Mathlib.Omega.{arith}
use lib.Dec.{ltb, eqb}
use borrow.Author.Tests.{eqb-true, eqb-false, ltb-true, ltb-false, eq-eqb, ne_eqb, lt-ltb, le-ltb}
use Rattle.folds.specs.Fold.{pick, when, sum_to, count_to, max_to, first_to, any_to, all_to}
use Rattle.folds.proofs.Cases.{no_bool, by, either, eq_or_ne, last_or, not_no, one_of, or_l, or_r, same_test}
use Rattle.folds.proofs.Sums.{sum_to_member, sum_to_none}

pub first_to_zero : (p : ℕ → Bool) → first_to 0 p ≡ 0
unfolding first_to
first_to_zero p = refl

-- none below i and not at i: none below i + 1
pub first_to_more : (i : ℕ) (p : ℕ → Bool) → first_to i p ≡ i → p i ≡ false → first_to (i + 1) p ≡ i + 1
unfolding first_to
first_to_more i p e h = rw add-one (rw (e, eq-eqb i i refl, h))

-- none below i, and p at i: i is the first below any n past it
pub first_to_found : (n i : ℕ) (p : ℕ → Bool) → first_to i p ≡ i → p i ≡ true → i < n → first_to n p ≡ i
unfolding first_to
first_to_found zero i p e h l = absurd (not-suc-le-zero l)
first_to_found (suc n) i p e h l = ⊎_elim here (past (first_to_found n i p e h)) (last_or l)
  where
    here : i ≡ n → first_to (suc n) p ≡ i
    here q = rw (← q) (rw (e, eq-eqb i i refl, h))

    past : (i < n → first_to n p ≡ i) → i < n → first_to (suc n) p ≡ i
    past ih q = rw (ih q) (rw (ne_eqb i n (λ z. omega arith)))

-- a loop `while i < n { if p(i) { return i; } i += 1; } i`, with the invariant `first_to i p ≡ i`: found, and the end
pub first_to_at : (n i : ℕ) (p : ℕ → Bool) → first_to i p ≡ i → p i ≡ true → i < n → i ≡ first_to n p
first_to_at n i p e h l = sym (first_to_found n i p e h l)

pub first_to_end : (n i : ℕ) (p : ℕ → Bool) → first_to i p ≡ i → i ≤ n → n ≤ i → i ≡ first_to n p
first_to_end n i p e l g = let q : i ≡ n = omega arith in cc

-- what it is
pub first_to_le : (n : ℕ) (p : ℕ → Bool) → first_to n p ≤ n
unfolding first_to
first_to_le zero p = omega arith
first_to_le (suc n) p = go (eqb (first_to n p) n) (p n) (first_to_le n p)
  where
    go : (t u : Bool) → first_to n p ≤ n → pick t (pick u n (suc n)) (first_to n p) ≤ suc n
    go true true h = omega arith
    go true false h = omega arith
    go false u h = omega arith

pub first_to_hit : (n : ℕ) (p : ℕ → Bool) → first_to n p < n → p (first_to n p) ≡ true
unfolding first_to
first_to_hit zero p l = absurd (not-suc-le-zero l)
first_to_hit (suc n) p l = go (first_to_hit n p) (eqb (first_to n p) n) (p n) refl refl l
  where
    go : (first_to n p < n → p (first_to n p) ≡ true) → (t u : Bool) → eqb (first_to n p) n ≡ t → p n ≡ u
        → pick t (pick u n (suc n)) (first_to n p) < suc n → p (pick t (pick u n (suc n)) (first_to n p)) ≡ true
    go ih true true e h l = h
    go ih true false e h l = absurd (omega arith)
    go ih false u e h l = ih (omega (arith, first_to_le n p, eqb-false (first_to n p) n e))

pub first_to_below : (n : ℕ) (p : ℕ → Bool) (k : ℕ) → k < first_to n p → p k ≡ false
unfolding first_to
first_to_below zero p k l = absurd (not-suc-le-zero l)
first_to_below (suc n) p k l = go (first_to_below n p k) (eqb (first_to n p) n) (p n) refl refl l
  where
    go : (k < first_to n p → p k ≡ false) → (t u : Bool) → eqb (first_to n p) n ≡ t → p n ≡ u
        → k < pick t (pick u n (suc n)) (first_to n p) → p k ≡ false
    go ih true true e h l = ih (omega (arith, eqb-true (first_to n p) n e))
    go ih true false e h l = either (last_or l) (λ q. rw q h) (λ q. ih (omega (arith, eqb-true (first_to n p) n e)))
    go ih false u e h l = ih l

-- at most any that passes
pub first_to_least : (n : ℕ) (p : ℕ → Bool) (k : ℕ) → p k ≡ true → first_to n p ≤ k
first_to_least n p k t =
    by (ltb k (first_to n p)) (λ e. absurd (no_bool (sym (first_to_below n p k (ltb-true k (first_to n p) e)) ∙ t)))
    (λ e. ltb-false k (first_to n p) e)

pub first_to_none : (n : ℕ) (p : ℕ → Bool) → first_to n p ≡ n → (k : ℕ) → k < n → p k ≡ false
first_to_none n p e k l = first_to_below n p k (omega arith)

pub first_to_all : (n : ℕ) (p : ℕ → Bool) → ((k : ℕ) → k < n → p k ≡ false) → first_to n p ≡ n
first_to_all n p h =
    either (eq_or_ne (first_to n p) n) (λ e. e)
    (λ e. let l : first_to n p < n = omega (arith, first_to_le n p) in absurd (no_bool (sym (h (first_to n p) l) ∙ first_to_hit n p l)))

pub first_to_ext : (n : ℕ) (p q : ℕ → Bool) → ((k : ℕ) → k < n → p k ≡ q k) → first_to n p ≡ first_to n q
unfolding first_to
first_to_ext zero p q h = refl
first_to_ext (suc n) p q h = rw (first_to_ext n p q (λ k l. h k (omega arith)), h n (omega arith))

-- numbers that fail do not count
pub first_to_skip : (p : ℕ → Bool) (j h : ℕ) → j ≤ h → ((i : ℕ) → j ≤ i → i < h → p i ≡ false) → first_to j p ≡ j → first_to h p ≡ h
unfolding first_to
first_to_skip p j zero l z e = refl
first_to_skip p j (suc h) l z e =
    ⊎_elim (λ q. subst (λ (x : ℕ). first_to x p ≡ x) q e)
    (λ q. rw (first_to_skip p j h (omega arith) (λ i li gi. z i li (omega arith)) e, eq-eqb h h refl, z h (omega arith) (omega arith)))
    (eq-or-lt_of_le l)

-- the same loop, for a bool
pub any_to_at : (n i : ℕ) (p : ℕ → Bool) → first_to i p ≡ i → p i ≡ true → i < n → true ≡ any_to n p
unfolding any_to
any_to_at n i p e h l = rw (first_to_found n i p e h l) (sym (lt-ltb _ _ l))

pub any_to_end : (n i : ℕ) (p : ℕ → Bool) → first_to i p ≡ i → i ≤ n → n ≤ i → false ≡ any_to n p
unfolding any_to
any_to_end n i p e l g = rw (← first_to_end n i p e l g) (sym (le-ltb _ _ g))

-- the bounded tests say what they should
pub any_i : (n : ℕ) (p : ℕ → Bool) (k : ℕ) → k < n → p k ≡ true → any_to n p ≡ true
unfolding any_to
any_i n p k l t =
    by (ltb (first_to n p) n) (λ e. e)
    (λ e. absurd (no_bool (sym (first_to_below n p k (omega (arith, ltb-false (first_to n p) n e))) ∙ t)))

pub any_e : (n : ℕ) (p : ℕ → Bool) → any_to n p ≡ true → (k : ℕ) × (k < n) × (p k ≡ true)
unfolding any_to
any_e n p t = let l = ltb-true (first_to n p) n t in (first_to n p, l, first_to_hit n p l)

pub any_none : (n : ℕ) (p : ℕ → Bool) → any_to n p ≡ false → (k : ℕ) → k < n → p k ≡ false
unfolding any_to
any_none n p e k l = first_to_below n p k (omega (arith, ltb-false (first_to n p) n e))

pub any_ext : (n : ℕ) (p q : ℕ → Bool) → ((k : ℕ) → k < n → p k ≡ q k) → any_to n p ≡ any_to n q
unfolding any_to
any_ext n p q h = rw (first_to_ext n p q h)

pub any_step : (i : ℕ) (p : ℕ → Bool) → any_to (i + 1) p ≡ (any_to i p || p i)
any_step i p =
    same_test _ _
    (λ t. let (k, l, e) = any_e (i + 1) p t in either (eq_or_ne k i) (λ q. or_r (any_to i p) (p i) (rw q at e)) (λ n. or_l (any_to i p) (p i) (any_i i p k (omega arith) e)))
    (λ t. either (one_of (any_to i p) (p i) t) (λ a. let (k, l, e) = any_e i p a in any_i (i + 1) p k (omega arith) e) (λ e. any_i (i + 1) p i (omega arith) e))

pub any_zero : (p : ℕ → Bool) → any_to 0 p ≡ false
unfolding any_to first_to
any_zero p = refl

pub all_i : (n : ℕ) (p : ℕ → Bool) → ((k : ℕ) → k < n → p k ≡ true) → all_to n p ≡ true
unfolding all_to
all_i n p t = eq-eqb _ _ (first_to_all n (λ k. not (p k)) (λ k l. rw (t k l)))

pub all_e : (n : ℕ) (p : ℕ → Bool) → all_to n p ≡ true → (k : ℕ) → k < n → p k ≡ true
unfolding all_to
all_e n p t k l = not_no (p k) (first_to_none n (λ i. not (p i)) (eqb-true _ _ t) k l)

-- a count is 0 where nothing is counted
pub count_none : (n : ℕ) (p : ℕ → Bool) → eqb (count_to n p) 0 ≡ not (any_to n p)
unfolding count_to
count_none n p =
    by (any_to n p)
    (λ t. let (k, l, e) = any_e n p t in
    let m : when (p k) 1 ≤ sum_to n (λ i. when (p i) 1) = sum_to_member n (λ i. when (p i) 1) k l in
    rw t (ne_eqb (sum_to n (λ i. when (p i) 1)) 0 (λ z. let w = rw e at m in omega arith)))
    (λ t. rw t (eq-eqb (sum_to n (λ i. when (p i) 1)) 0 (sum_to_none n _ (λ k l. rw (any_none n p t k l)))))

-- the largest
pub max_ge : (n : ℕ) (f : ℕ → ℕ) (k : ℕ) → k < n → f k ≤ max_to n f
unfolding max_to
max_ge zero f k h = absurd (not-suc-le-zero h)
max_ge (suc n) f k h = ⊎_elim (λ e. rw e (omega arith)) (λ l. let r = max_ge n f k l in omega arith) (last_or h)

-- it is 0, or f of some number below n
pub max_at : (n : ℕ) (f : ℕ → ℕ) → (max_to n f ≡ 0) ⊎ ((k : ℕ) × (k < n) × (max_to n f ≡ f k))
unfolding max_to
max_at zero f = inl refl
max_at (suc n) f = go (max_at n f) (eq_or_ne (max (max_to n f) (f n)) (f n))
  where
    go : (max_to n f ≡ 0) ⊎ ((k : ℕ) × (k < n) × (max_to n f ≡ f k)) → (max (max_to n f) (f n) ≡ f n) ⊎ (max (max_to n f) (f n) ≡ f n → ⊥)
        → (max (max_to n f) (f n) ≡ 0) ⊎ ((k : ℕ) × (k < suc n) × (max (max_to n f) (f n) ≡ f k))
    go r (inl e) = inr (n, omega arith, e)
    go (inl z) (inr ne) = inl (omega arith)
    go (inr w) (inr ne) = inr (w.0, omega arith, omega arith)

pub max_le : (n b : ℕ) (f : ℕ → ℕ) → ((k : ℕ) → k < n → f k ≤ b) → max_to n f ≤ b
max_le n b f h = either (max_at n f) (λ z. omega arith) (λ w. omega (arith, h w.0 w.1))

pub max_ext : (n : ℕ) (f g : ℕ → ℕ) → ((k : ℕ) → k < n → f k ≡ g k) → max_to n f ≡ max_to n g
unfolding max_to
max_ext zero f g h = refl
max_ext (suc n) f g h = rw (max_ext n f g (λ k l. h k (omega arith)), h n (omega arith))
