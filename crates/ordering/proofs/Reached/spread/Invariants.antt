-- what the edges of u below j go to is marked; the links lead past none of them
use Rattle.ordering.specs.Search.{Spread}
use Rattle.graph.specs.Lent.{arcs_in}
use Rattle.graph.specs.Links.{leave}
use Rattle.graph.proofs.Links.{On}
use lib.ListN.{length}
use Prim.Native.Nat.{◌-◌}
use Rattle.ordering.proofs.Reached.spread.Given as goal

abbrev pub invariant-loop-j : goal.invariant-loop-j
invariant-loop-j l = On (leave (arcs_in l.links.edges)) (length l.links.edges.starts.now) l.u l.j × Spread (arcs_in l.links.edges) l.v l.u l.j l.initial.self.marks l.initial.self.queue l.initial.self.count l.self.marks l.self.queue l.self.count

abbrev pub decreases-loop-j : goal.decreases-loop-j
decreases-loop-j l = length l.links.edges.starts.now - l.j
