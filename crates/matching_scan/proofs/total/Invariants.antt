-- sum is the width of the edges before j that leave u
use lib.ListN.{length}
use mathlib.Core.Path.{◌≡◌}
use Prim.Native.Nat.{◌-◌}
use Rattle.matching_scan.specs.State.{leaves}
use Rattle.graph.proofs.Links.{On}
use Rattle.graph.specs.Links.{leave}
use Rattle.graph.specs.Lent.{arcs_in}
use Rattle.folds.specs.Fold.{sum_to}
use Rattle.matching_scan.proofs.total.Given as goal

abbrev pub invariant-loop-j : goal.invariant-loop-j
invariant-loop-j l = (l.m ≡ length l.links.edges.starts.now) × On (leave (arcs_in l.links.edges)) l.m l.u l.j × (l.sum ≡ sum_to l.j (leaves (arcs_in l.links.edges) l.widths l.u))

abbrev pub decreases-loop-j : goal.decreases-loop-j
decreases-loop-j l = l.m - l.j
