-- Positions of vertices, and the order that gives them.
use Rattle.std.specs.Prelude.{ℕ, ◌≤◌, ◌<◌, ◌≡◌, List, length, get_or}
use Rattle.graph.specs.Graph.{Graph, vertices, edges, via, RowOf}
use Rattle.division_scan.specs.Scan.{leaving_by}

-- positions: a row in which no position is empty and every edge goes forward
pub record PositionsOf (G : Graph) (g : ℕ) (places : List ℕ) : Type 0 where
  pub row : RowOf G places g
  pub onto : (p : ℕ) → p < g → (v : ℕ) × (v < vertices G) × (get_or places v 0 ≡ p)
  pub forward : (j : ℕ) → j < edges G → via places G.starts j ≤ via places G.ends j

-- what leaves the interval of positions y to x - 1
abbrev pub leaving_of : Graph → List ℕ → ℕ → ℕ → ℕ
leaving_of G places = leaving_by places G.starts G.ends G.widths

-- the first g entries are below 512, each once
pub record Once (g : ℕ) (order : List ℕ) : Type 0 where
  pub long : g ≤ length order
  pub low : (i : ℕ) → i < g → get_or order i 0 < 512
  pub once : (i j : ℕ) → i < g → j < g → get_or order i 0 ≡ get_or order j 0 → i ≡ j

-- for each of the first g entries, its place
pub record Inverse (g : ℕ) (order at : List ℕ) : Type 0 where
  pub tall : length at ≡ 512
  pub is : (i : ℕ) → i < g → get_or at (get_or order i 0) 0 ≡ i
