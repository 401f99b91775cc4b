-- the lanes below j have taken the offer
use Rattle.division_table.specs.Promises.{Relaxed}
use Rattle.division_table.proofs.relax.Given as goal

abbrev pub invariant-loop-j : goal.invariant-loop-j
invariant-loop-j g l = Relaxed l.at l.w l.cut l.j l.initial.best l.best
