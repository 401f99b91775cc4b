-- The rows of a hierarchy, whoever made them: what the layers above joining may know of them.
use Rattle.std.specs.Prelude.{ℕ, suc, ◌*◌, ◌<◌, ◌≤◌, ◌≡◌, List, length, get_or}
use Rattle.folds.specs.Fold.{max_to, part}
use Rattle.graph.specs.Walk.{Acyclic}
use Rattle.graph.specs.Graph.{Graph, vertices, seen, Edge, identity, RowOf}

-- how many clusters a row has: groups are numbered from 0
unfoldable pub clusters : List ℕ → ℕ
clusters row = max_to (length row) (λ v. suc (get_or row v 0))

-- document 01: each rung is one row of the ladder, n entries long: row r of the rows that lie end to end
abbrev pub rows_in : List ℕ → ℕ → ℕ → List ℕ
rows_in rows n r = part rows (r * n) n

-- one row of a hierarchy: each vertex has a cluster, no cluster is empty, and they form no cycle
pub record Layer (G : Graph) (row : List ℕ) : Type 0 where
  pub row_of : RowOf G row (clusters row)
  pub onto : (c : ℕ) → c < clusters row → (v : ℕ) × (v < vertices G) × (get_or row v 0 ≡ c)
  pub acyclic : Acyclic (Edge (seen G row))

-- document 01: the ladder's rows 0 to top, the kept rungs
pub record Hierarchy (G : Graph) (rows : ℕ → List ℕ) (top : ℕ) : Type 0 where
  -- rung 0 is the blocks
  pub bottom : rows 0 ≡ identity (vertices G)
  pub layer : (r : ℕ) → r ≤ top → Layer G (rows r)
  -- what a row joins, the row above joins
  pub refines : (r : ℕ) → r < top → (a b : ℕ) → a < vertices G → b < vertices G → get_or (rows r) a 0 ≡ get_or (rows r) b 0 → get_or (rows (suc r)) a 0 ≡ get_or (rows (suc r)) b 0
