-- so far the edges of u before j have blocked what they go to on the next level
use Rattle.graph.specs.Lent.{arcs_in}
use Rattle.graph.specs.Links.{leave}
use Rattle.graph.proofs.Links.{On}
use Rattle.matching_scan.specs.State.{Blocking}
use Prim.Native.Nat.{◌-◌}
use mathlib.Core.Path.{◌≡◌}
use lib.ListN.{length}
use Rattle.matching_scan.proofs.block.Given as goal

abbrev pub invariant-loop-j : goal.invariant-loop-j
invariant-loop-j l = (l.m ≡ length l.links.edges.starts.now) × On (leave (arcs_in l.links.edges)) l.m l.u l.j × Blocking (arcs_in l.links.edges) l.levels l.u l.j l.initial.blocked l.blocked

abbrev pub decreases-loop-j : goal.decreases-loop-j
decreases-loop-j l = l.m - l.j
