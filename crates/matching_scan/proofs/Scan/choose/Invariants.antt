-- best is the widest offer of the edges of u before j, and the lowest cluster that makes it
use lib.ListN.{length}
use mathlib.Core.Path.{◌≡◌}
use Prim.Native.Nat.{◌-◌}
use Rattle.matching_scan.specs.State.{Widest, offer_of}
use Rattle.graph.proofs.Links.{On}
use Rattle.graph.specs.Links.{leave}
use Rattle.graph.specs.Lent.{arcs_in}
use Rattle.matching_scan.proofs.Scan.choose.Given as goal

abbrev pub invariant-loop-j : goal.invariant-loop-j
invariant-loop-j l = (l.m ≡ length l.self.links.edges.starts.now) × On (leave (arcs_in l.self.links.edges)) l.m l.u l.j × Widest (arcs_in l.self.links.edges) (offer_of (arcs_in l.self.links.edges) l.self.widths.now l.self.levels.now l.taken.mates.now l.taken.blocked.now l.self.costs.now l.self.bound l.u) l.u l.j l.best.width l.best.to

abbrev pub decreases-loop-j : goal.decreases-loop-j
decreases-loop-j l = l.m - l.j
