-- Walks along edges, cycles and paths, for any relation E between numbers.
use Rattle.std.specs.Prelude.{ℕ, suc}

-- a way along edges, of one edge or more
pub data Walk (E : ℕ → ℕ → Type 0) : ℕ → ℕ → Type 0 where
  one : {a b : ℕ} → E a b → Walk E a b
  more : {a b c : ℕ} → Walk E a b → E b c → Walk E a c

-- a way that comes back to where it set out (document 01: a loop)
unfoldable pub Cycle : (ℕ → ℕ → Type 0) → Type 0
Cycle E = (a : ℕ) × Walk E a a

unfoldable pub Acyclic : (ℕ → ℕ → Type 0) → Type 0
Acyclic E = Cycle E → ⊥

-- a path of k edges that ends at v
pub data Path (E : ℕ → ℕ → Type 0) : ℕ → ℕ → Type 0 where
  here : {v : ℕ} → Path E 0 v
  step : {k u v : ℕ} → Path E k u → E u v → Path E (suc k) v
