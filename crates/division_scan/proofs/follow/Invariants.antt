-- i starts are written, and y is the last of them
use Prim.Native.Nat.{◌-◌, ◌≤◌}
use lib.ListN.{length}
use Rattle.folds.specs.Fold.{Wrote}
use Rattle.division_table.specs.Promises.{starts_by}
use Rattle.division_scan.specs.Placed.{leaving_in, starts_in}
use Rattle.division_scan.proofs.follow.Given as goal

abbrev pub invariant-loop-i : goal.invariant-loop-i
invariant-loop-i l =
    (l.y ≤ length l.e.places.now) × Wrote l.initial.first l.first l.i (starts_by (length l.e.places.now) (leaving_in l.e) l.cut (l.n - l.i) l.y) (starts_in l.e l.cut l.n)
