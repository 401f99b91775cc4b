-- The graph of a rung as an object of its own: clusters with costs, joined by edges of summed width.
use Rattle.std.specs.Prelude.{ℕ, not, List, eqb, get_or}
use Rattle.folds.specs.Fold.{when, sum_to}
use Rattle.graph.specs.Graph.{Graph, seen, width_of, part_cost}

-- document 01: a rung's groups, their costs, and the width of the one wire from each to each other, 0 where there is none
pub record RowGraph : Type 0 where
  pub clusters : ℕ
  pub cost : ℕ → ℕ
  pub width : ℕ → ℕ → ℕ

unfoldable pub row_graph : Graph → List ℕ → ℕ → RowGraph
row_graph G row g = record { clusters = g; cost = part_cost G.costs row; width = width_of (seen G row) G.widths }

-- the cut and the cost of a part, worked on the clusters, for a table over them
unfoldable pub graph_cut : RowGraph → List ℕ → ℕ
graph_cut R table =
    sum_to R.clusters (λ a. sum_to R.clusters (λ b. when (not (eqb (get_or table a 0) (get_or table b 0))) (R.width a b)))

unfoldable pub graph_cost : RowGraph → List ℕ → ℕ → ℕ
graph_cost R table u = sum_to R.clusters (λ a. when (eqb (get_or table a 0) u) (R.cost a))
