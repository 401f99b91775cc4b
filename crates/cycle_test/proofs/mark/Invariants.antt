-- what the first j edges leave is marked
use Rattle.cycle_test.specs.Thin.{Marked}
use Rattle.cycle_test.proofs.mark.Given as goal

abbrev pub invariant-loop-a : goal.invariant-loop-a
invariant-loop-a l = Marked l.starts l.a-index l.left
