-- The widths of the edges of u up to j are in the sums of their ends.
use lib.ListN.{length}
use mathlib.Core.Path.{◌≡◌}
use Prim.Native.Nat.{◌-◌}
use Rattle.joined_edges.specs.Joining.{Widths}
use Rattle.graph.proofs.Links.{On}
use Rattle.graph.specs.Links.{leave}
use Rattle.joined_edges.specs.Lent.{arcs_in}
use Rattle.joined_edges.proofs.add_widths.Given as goal

abbrev pub invariant-loop-j : goal.invariant-loop-j
invariant-loop-j l = (l.m ≡ length l.edges.starts.now) × On (leave (arcs_in l.edges)) l.m l.u l.j × Widths (arcs_in l.edges) l.edges.widths.now l.u l.j l.sums

abbrev pub decreases-loop-j : goal.decreases-loop-j
decreases-loop-j l = l.m - l.j
