-- the first i entries have their places
use Rattle.initial.specs.Positions.{Inverse}
use Rattle.initial.proofs.invert.Given as goal

abbrev pub invariant-loop-i : goal.invariant-loop-i
invariant-loop-i l = Inverse l.i l.order l.at
