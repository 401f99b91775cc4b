-- The walk stands at an edge of h; the widths of those before it have been added.
use Rattle.neighbours.specs.Visit.{Added}
use Rattle.graph.proofs.Links.{On}
use lib.ListN.{length, get_or}
use mathlib.Core.Path.{◌≡◌}
use Prim.Native.Nat.{◌-◌}
use Rattle.neighbours.proofs.add_widths.Given as goal

abbrev pub invariant-loop-j : goal.invariant-loop-j
invariant-loop-j l = (l.m ≡ length l.side.near.now) × On (λ i. get_or l.side.near.now i 0) l.m l.h l.j × Added l.side.near.now l.side.far.now l.widths l.table.parts l.h l.j l.initial.toward l.toward

abbrev pub decreases-loop-j : goal.decreases-loop-j
decreases-loop-j l = l.m - l.j
