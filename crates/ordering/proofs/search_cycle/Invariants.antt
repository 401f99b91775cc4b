-- none below v lies on a cycle
use Rattle.topology.specs.Reach.{on_cycle}
use Rattle.graph.specs.Lent.{arcs_in}
use Rattle.folds.specs.Fold.{first_to}
use mathlib.Core.Path.{◌≡◌}
use Rattle.ordering.proofs.search_cycle.Given as goal

abbrev pub invariant-loop-v : goal.invariant-loop-v
invariant-loop-v l = (first_to l.v (on_cycle (arcs_in l.clusters.links.edges) l.clusters.g) ≡ l.v)
