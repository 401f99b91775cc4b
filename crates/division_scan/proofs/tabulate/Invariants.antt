-- from y on, what leaves and comes in and the cuts are known, and all costs `rest`
use mathlib.Core.Path.{◌≡◌}
use Rattle.division_table.specs.Promises.{span, within, LeastFrom}
use Rattle.division_scan.specs.Placed.{leaving_in}
use Rattle.division_scan.specs.Scan.{Flows}
use Rattle.division_scan.proofs.tabulate.Given as goal

abbrev pub invariant-loop-y : goal.invariant-loop-y
invariant-loop-y l =
    let m = l.limits in
    (l.rest ≡ span m.cost.now l.y m.g) × Flows l.e.places.now l.e.starts.now l.e.ends.now l.e.widths.now m.g l.y l.away l.into
    × LeastFrom l.n m.g (within m.cost.now m.bound) (leaving_in l.e) m.before.now l.y l.cut
