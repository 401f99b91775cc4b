-- Sums of the vertices' costs by a key: the cluster of a row, or the part of a table.
use Rattle.std.specs.Prelude.{ℕ, ◌≤◌, ◌<◌, ◌≡◌, List, length, get_or}
use Rattle.folds.specs.Fold.{sum_to}
use Rattle.graph.specs.Graph.{cost_in}

-- a key below g for each of at most 512 costs
pub record Keyed (keys costs : List ℕ) (g : ℕ) : Type 0 where
  pub same : length keys ≡ length costs
  pub few : length costs ≤ 512
  pub low : (v : ℕ) → v < length costs → get_or keys v 0 < g

-- the summed costs by key, of the first m
pub record Totals (keys costs : List ℕ) (g m : ℕ) (sums : List ℕ) : Type 0 where
  pub long : length sums ≡ g
  pub is : (u : ℕ) → u < g → get_or sums u 0 ≡ sum_to m (cost_in costs keys u)
