-- Divisions of the positions 0 to g - 1 into intervals: all of them in list order, and the one wanted.
use Rattle.std.specs.Prelude.{ℕ, zero, suc, ◌<◌, ◌≡◌, Bool, true, ◌&&◌, ◌⊎◌, List, [], ◌∷◌, ◌++◌, map, ltb, leb, length}
use Rattle.folds.specs.Fold.{pick, when, sum_to}

-- A division is given by the starts of its intervals after the first, which starts at y (document 01: run starts).
-- Each interval up to g is non-empty:
abbrev pub Rising : ℕ → ℕ → List ℕ → Type 0
Rising g y [] = y < g
Rising g y (x ∷ d) = (y < x) × Rising g x d

-- each interval passes the test `ok` of its start and its end: from y to the first start, .., from the last start to g
unfoldable pub fits : ℕ → (ℕ → ℕ → Bool) → ℕ → List ℕ → Bool
fits g ok y [] = ok y g
fits g ok y (x ∷ d) = ok y x && fits g ok x d

-- document 01: exactly k unbroken runs, each non-empty and within the limit
pub record Feasible (g : ℕ) (ok : ℕ → ℕ → Bool) (k : ℕ) (d : List ℕ) : Type 0 where
  pub rising : Rising g 0 d
  pub count : suc (length d) ≡ k
  pub passes : fits g ok 0 d ≡ true

-- the interval in which position p lies (document 01: run i is stage i)
unfoldable pub interval_of : List ℕ → ℕ → ℕ
interval_of [] p = 0
interval_of (x ∷ d) p = pick (ltb p x) 0 (suc (interval_of d p))

-- the sum of c v over those v below n whose position p v is one of y to x - 1
unfoldable pub between : ℕ → (ℕ → ℕ) → (ℕ → ℕ) → ℕ → ℕ → ℕ
between n p c y x = sum_to n (λ v. when (leb y (p v) && ltb (p v) x) (c v))

-- d is e, or comes before it, compared number by number
abbrev pub NotAfter : List ℕ → List ℕ → Type 0
NotAfter [] e = Unit {0}
NotAfter (x ∷ d) [] = ⊥
NotAfter (x ∷ d) (y ∷ e) = (x < y) ⊎ ((x ≡ y) × NotAfter d e)

-- f 0 ++ .. ++ f (n - 1)
unfoldable pub joined : {A : Type 0} → ℕ → (ℕ → List A) → List A
joined zero f = []
joined (suc n) f = joined n f ++ f n

-- l if the test holds
abbrev pub gate : {A : Type 0} → Bool → List A → List A
gate t l = pick t l []

-- all lists of j starts that rise from y and stay below g, in list order
unfoldable pub starts_from : ℕ → ℕ → ℕ → List (List ℕ)
starts_from g zero y = gate (ltb y g) ([] ∷ [])
starts_from g (suc j) y = joined g (λ x. gate (ltb y x) (map (λ d. x ∷ d) (starts_from g j x)))

-- all divisions into k non-empty intervals, in list order
unfoldable pub divisions : ℕ → ℕ → List (List ℕ)
divisions g zero = []
divisions g (suc j) = starts_from g j 0

-- nothing, or a cut with what has it
pub data Pick (A : Type 0) : Type 0 where
  none : Pick A
  some : ℕ → A → Pick A

-- the first, unless the second cuts less
abbrev pub better : {A : Type 0} → Pick A → Pick A → Pick A
better none q = q
better (some c l) none = some c l
better (some c l) (some d m) = pick (ltb d c) (some d m) (some c l)

-- p if the test holds
abbrev pub given : {A : Type 0} → Bool → Pick A → Pick A
given t p = pick t p none

-- document 01: of the divisions that pass the least cut; among equals, the first
unfoldable pub least : (List ℕ → Bool) → (List ℕ → ℕ) → List (List ℕ) → Pick (List ℕ)
least pass cut [] = none
least pass cut (d ∷ ds) = better (given (pass d) (some (cut d) d)) (least pass cut ds)
