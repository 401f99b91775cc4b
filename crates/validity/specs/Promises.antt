-- What checks 1 to 6 leave known of the lists, for the checks that follow them.
use Rattle.std.specs.Prelude.{ℕ, ◌≤◌, ◌<◌, ◌≡◌, List, length, get_or}
use Rattle.folds.specs.Fold.{over, zeros}
use Rattle.graph.specs.Graph.{identity, arcs, joining}
use Rattle.graph.specs.Links.{Linked, leave}
use Rattle.topology.specs.Order.{order_of}
use Rattle.topology.specs.Level.{levels_of}
use Rattle.validity.specs.Cause.{Verdict, Passed}

-- at most 512 vertices, and each of at most 1024 edges has its two ends among them
pub record Fits (n : ℕ) (starts ends : List ℕ) : Type 0 where
  pub few : n ≤ 512
  pub many : length starts ≤ 1024
  pub same : length ends ≡ length starts
  pub start_in : (j : ℕ) → j < length starts → get_or starts j 0 < n
  pub end_in : (j : ℕ) → j < length starts → get_or ends j 0 < n

-- where the checks pass, the topological order of the n vertices stands in the front of the list, their levels are known, and the edges are linked by
-- their starts
pub record OrderLeft (r : Verdict) (n : ℕ) (starts ends old new levelled head next : List ℕ) : Type 0 where
  pub order : r ≡ Passed → new ≡ over (order_of (arcs (identity n) starts ends) n) old
  pub levels : r ≡ Passed → levelled ≡ over (levels_of (arcs (identity n) starts ends) n) (zeros 512)
  pub linked : r ≡ Passed → Linked (leave (joining starts ends)) (length starts) head next
