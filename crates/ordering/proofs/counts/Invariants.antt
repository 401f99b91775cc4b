-- each count is that of the first j edges
use Rattle.ordering.specs.Counts.{left}
use Rattle.graph.specs.Lent.{arcs_in}
use Rattle.folds.specs.Fold.{sum_to, zeros}
use lib.ListN.{length, get_or}
use mathlib.Core.Path.{◌≡◌}
use Prim.Native.Nat.{ℕ, ◌<◌}
use Rattle.ordering.proofs.counts.Given as goal

abbrev pub invariant-loop-j : goal.invariant-loop-j
invariant-loop-j l = (length l.count ≡ 512) × ((v : ℕ) → v < 512 → get_or l.count v 0 ≡ sum_to l.j (left (arcs_in l.edges) (zeros 512) v))
