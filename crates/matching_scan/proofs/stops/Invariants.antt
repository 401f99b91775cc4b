-- no edge of u before j goes to the end of a pair on the next level
use Rattle.graph.specs.Lent.{arcs_in}
use Rattle.graph.specs.Links.{leave}
use Rattle.graph.proofs.Links.{On}
use Rattle.folds.specs.Fold.{first_to}
use Rattle.matching_scan.specs.State.{halts_at}
use Prim.Native.Nat.{◌-◌}
use mathlib.Core.Path.{◌≡◌}
use lib.ListN.{length}
use Rattle.matching_scan.proofs.stops.Given as goal

abbrev pub invariant-loop-j : goal.invariant-loop-j
invariant-loop-j l = (l.m ≡ length l.links.edges.starts.now) × On (leave (arcs_in l.links.edges)) l.m l.u l.j × (first_to l.j (halts_at (arcs_in l.links.edges) l.levels l.tos l.u) ≡ l.j)

abbrev pub decreases-loop-j : goal.decreases-loop-j
decreases-loop-j l = l.m - l.j
