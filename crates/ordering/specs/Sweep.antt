-- Levels raised along edges.
use Rattle.std.specs.Prelude.{ℕ, ◌≤◌, ◌<◌, ◌≡◌, ◌⊎◌, List, eqb, ltb, length, get_or, set}
use Rattle.folds.specs.Fold.{pick}
use Rattle.graph.specs.Graph.{Arcs, Edge}

-- b's entry raised to x where it is lower, unless b is u
unfoldable pub raised_of : List ℕ → ℕ → ℕ → ℕ → List ℕ
raised_of levels u b x = pick (eqb b u) levels (pick (ltb (get_or levels b 0) x) (set levels b x) levels)

-- the edges below j that leave u have raised what they go to, up to x; nothing was lowered, and nothing else was raised
pub record Raised (A : Arcs) (u x j : ℕ) (levels₀ levels : List ℕ) : Type 0 where
  pub tall : length levels ≡ 512
  pub keeps : (v : ℕ) → get_or levels₀ v 0 ≤ get_or levels v 0
  pub counts : (i : ℕ) → i < j → A.from i ≡ u → (A.to i ≡ u → ⊥) → x ≤ get_or levels (A.to i) 0
  pub only : (v : ℕ) → (get_or levels v 0 ≡ get_or levels₀ v 0) ⊎ (Edge A u v × (get_or levels v 0 ≡ x))
