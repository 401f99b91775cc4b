-- Along the edges of u up to j: the first to each end wrote one joined edge with the summed width, and took the sum away.
use lib.ListN.{length}
use mathlib.Core.Path.{◌≡◌}
use Prim.Native.Nat.{◌-◌}
use Rattle.joined_edges.specs.Joining.{Writing}
use Rattle.graph.proofs.Links.{On}
use Rattle.graph.specs.Links.{leave}
use Rattle.joined_edges.specs.Lent.{arcs_in}
use Rattle.joined_edges.proofs.emit.Given as goal

abbrev pub invariant-loop-j : goal.invariant-loop-j
invariant-loop-j l = (l.m ≡ length l.edges.starts.now) × On (leave (arcs_in l.edges)) l.m l.u l.j × Writing (arcs_in l.edges) l.edges.widths.now l.g l.u l.j l.joined.count l.sums l.joined.froms l.joined.tos l.joined.widths

abbrev pub decreases-loop-j : goal.decreases-loop-j
decreases-loop-j l = l.m - l.j
