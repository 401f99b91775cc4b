-- A search whose result is a number where there is one: what is found stands below the bound.
use Rattle.std.proofs.Common.{◌≡◌, ℕ, ◌<◌, ◌≤◌, Bool, true, sym, arith, ltb, lt-ltb, le-ltb, ltb-true, ltb-false}
use Rattle.std.specs.Prelude.{Some, None}
use Rattle.std.proofs.lemmas.Option.{none-some, cond_some}
use Rattle.folds.specs.Fold.{if_below, first_to}
use Rattle.folds.proofs.Cases.{by}
use Rattle.folds.proofs.Searches.{first_to_at, first_to_end}

pub below_some : {n i x : ℕ} → i ≡ x → i < n → Some i ≡ if_below n x
below_some {n} {i} e l = rw (← e, lt-ltb i n l)

pub below_none : {n x : ℕ} → n ≤ x → None ≡ if_below n x
below_none {n} {x} l = rw (le-ltb x n l)

-- a search from 0 up: found at i, or not below n
pub found_at : {n i : ℕ} (p : ℕ → Bool) → first_to i p ≡ i → p i ≡ true → i < n → Some i ≡ if_below n (first_to n p)
found_at {n} {i} p e t l = below_some (first_to_at n i p e t l) l

pub found_none : {n i : ℕ} (p : ℕ → Bool) → first_to i p ≡ i → i ≤ n → n ≤ i → None ≡ if_below n (first_to n p)
found_none {n} {i} p e l h = below_none (omega (arith, first_to_end n i p e l h))

-- what a result says
pub is_below : {n x i : ℕ} → if_below n x ≡ Some i → (i ≡ x) × (x < n)
is_below {n} {x} {i} e =
    by (ltb x n)
    (λ t. let q : Some x ≡ Some i = rw t at e in (sym (cond_some true x i q).1, ltb-true x n t))
    (λ t. let q : None ≡ Some i = rw t at e in absurd (none-some i q))

pub not_below : {n x : ℕ} → if_below n x ≡ None → n ≤ x
not_below {n} {x} e =
    by (ltb x n)
    (λ t. let q : Some x ≡ None = rw t at e in absurd (none-some x (sym q)))
    (λ t. ltb-false x n t)
