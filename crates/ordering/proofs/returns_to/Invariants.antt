-- what the edges of v and of the first i in the queue go to is marked
use Rattle.ordering.proofs.Searching.{Searched}
use Rattle.graph.specs.Lent.{arcs_in}
use Prim.Native.Nat.{◌-◌}
use Rattle.ordering.proofs.returns_to.Given as goal

abbrev pub invariant-loop-i : goal.invariant-loop-i
invariant-loop-i l = Searched (arcs_in l.clusters.links.edges) l.v l.i l.reached.marks l.reached.queue l.reached.count

abbrev pub decreases-loop-i : goal.decreases-loop-i
decreases-loop-i l = 512 - l.i
