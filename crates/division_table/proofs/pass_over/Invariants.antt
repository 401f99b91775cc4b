-- the ends below e are passed over
use Prim.Native.Nat.{◌-◌}
use Rattle.division_table.specs.Weighed.{EndOf, PassedOver}
use Rattle.division_table.proofs.pass_over.Given as goal

abbrev pub invariant-loop-e : goal.invariant-loop-e
invariant-loop-e g l = EndOf l.w l.e × PassedOver l.w l.most l.initial.e.x l.e.x

abbrev pub decreases-loop-e : goal.decreases-loop-e
decreases-loop-e g l = l.w.g - l.e.x
