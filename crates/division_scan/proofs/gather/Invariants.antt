-- the edges of y's list before j have come in
use Prim.Native.Nat.{◌-◌}
use mathlib.Core.Path.{◌≡◌}
use lib.ListN.{length, get_or}
use Rattle.graph.proofs.Links.{On}
use Rattle.division_scan.specs.Scan.{Gathered}
use Rattle.division_scan.proofs.gather.Given as goal

abbrev pub invariant-loop-j : goal.invariant-loop-j
invariant-loop-j l =
    (l.m ≡ length l.e.starts.now) × On (λ i. get_or l.e.starts.now i 0) l.m (get_or l.e.order.now l.y 0) l.j
    × Gathered l.e.places.now l.e.starts.now l.e.ends.now l.e.widths.now l.y l.j l.initial.into l.into l.sum

abbrev pub decreases-loop-j : goal.decreases-loop-j
decreases-loop-j l = l.m - l.j
