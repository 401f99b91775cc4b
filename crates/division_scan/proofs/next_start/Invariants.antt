-- out leaves the interval of y up to x - 1, what came in is gathered, and no position below x is a start
use Prim.Native.Nat.{◌+◌, ◌*◌, ◌-◌}
use mathlib.Core.Path.{◌≡◌}
use lib.ListN.{get_or}
use Rattle.division_scan.specs.Placed.{leaving_in}
use Rattle.division_scan.specs.Scan.{Brought}
use Rattle.division_scan.proofs.Follows.{Passed}
use Rattle.division_scan.proofs.next_start.Given as goal

abbrev pub invariant-loop-x : goal.invariant-loop-x
invariant-loop-x l =
    (l.goal ≡ get_or l.cut (l.y * 17 + (l.j + 1)) 0) × (l.out ≡ leaving_in l.e l.y (l.x - 1)) × Brought l.e.places.now l.e.starts.now l.e.ends.now l.e.widths.now l.y (l.x - 1) l.into
    × Passed (leaving_in l.e) l.cut l.j l.y (l.x - 1)
