-- the edges of u below j no longer count, and have raised what they go to; the links lead past none of them
use Rattle.ordering.specs.Counts.{Released}
use Rattle.ordering.specs.Sweep.{Raised}
use Rattle.graph.proofs.Links.{On}
use Rattle.graph.specs.Lent.{arcs_in}
use Rattle.graph.specs.Links.{leave}
use lib.ListN.{length}
use Prim.Native.Nat.{◌-◌}
use Rattle.ordering.proofs.Waits.release.Given as goal

abbrev pub invariant-loop-j : goal.invariant-loop-j
invariant-loop-j l = On (leave (arcs_in l.links.edges)) (length l.links.edges.starts.now) l.u l.j × Released (arcs_in l.links.edges) l.u l.j l.clusters.g l.initial.self.count l.initial.self.ready.words l.self.count l.self.ready.words × Raised (arcs_in l.links.edges) l.u l.x l.j l.initial.levels l.levels

abbrev pub decreases-loop-j : goal.decreases-loop-j
decreases-loop-j l = length l.links.edges.starts.now - l.j
