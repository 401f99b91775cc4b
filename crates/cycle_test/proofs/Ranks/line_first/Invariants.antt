-- no more lists than clusters
use Rattle.std.proofs.Common.{◌≤◌}
use Rattle.cycle_test.proofs.Ranks.line_first.Given as goal

abbrev pub invariant-loop-i : goal.invariant-loop-i
invariant-loop-i l = l.t ≤ l.i
