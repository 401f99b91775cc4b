-- the lanes have the offers of the starts below e, and none is above `most`
use Prim.Native.Nat.{◌-◌}
use Rattle.division_table.specs.Promises.{Topped}
use Rattle.division_table.specs.Weighed.{EndOf}
use Rattle.division_table.specs.Promises.{Lanes}
use Rattle.division_table.proofs.reach.Given as goal

abbrev pub invariant-loop-e : goal.invariant-loop-e
invariant-loop-e g l = EndOf l.w l.e × Lanes l.w.bound l.w.y l.from g.row.N l.e.x l.w.cost.now l.w.away.now l.w.into.now l.cut l.best × Topped g.row.N l.best l.most

abbrev pub decreases-loop-e : goal.decreases-loop-e
decreases-loop-e g l = l.w.g - l.e.x
