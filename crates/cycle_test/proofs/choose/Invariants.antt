-- of the first j edges, the numbers of those to a marked cluster are in the front
use Rattle.cycle_test.specs.Thin.{Picking}
use Rattle.cycle_test.proofs.choose.Given as goal

abbrev pub invariant-loop-j : goal.invariant-loop-j
invariant-loop-j l = Picking l.left l.ends l.j l.picked l.t
