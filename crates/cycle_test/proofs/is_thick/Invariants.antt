-- no more are kept than tried, and no edge is tried twice
use Rattle.std.proofs.Common.{◌-◌, ◌≤◌, length}
use Rattle.cycle_test.proofs.is_thick.Given as goal

abbrev pub invariant-loop-j : goal.invariant-loop-j
invariant-loop-j l = (l.kept ≤ l.tried) × (l.tried ≤ l.j) × (l.tried ≤ length l.ends)

abbrev pub decreases-loop-j : goal.decreases-loop-j
decreases-loop-j l = length l.ends - l.j
