-- The walk stands at an edge of h; those before it have marked their far ends.
use Rattle.neighbours.specs.Known.{Staled}
use Rattle.graph.proofs.Links.{On}
use lib.ListN.{length, get_or}
use mathlib.Core.Path.{◌≡◌}
use Prim.Native.Nat.{◌-◌}
use Rattle.neighbours.proofs.mark_far.Given as goal

abbrev pub invariant-loop-j : goal.invariant-loop-j
invariant-loop-j l = (l.m ≡ length l.side.near.now) × On (λ i. get_or l.side.near.now i 0) l.m l.h l.j × Staled l.side.near.now l.side.far.now l.numbers l.first l.last l.h l.j l.initial.marks l.marks

abbrev pub decreases-loop-j : goal.decreases-loop-j
decreases-loop-j l = l.m - l.j
