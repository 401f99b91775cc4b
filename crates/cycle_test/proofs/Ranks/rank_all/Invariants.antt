-- the queue holds no more than it has room for
use Rattle.std.proofs.Common.{◌≡◌, ◌-◌, ◌≤◌, length}
use Rattle.cycle_test.proofs.Ranks.rank_all.Given as goal

abbrev pub invariant-loop-n : goal.invariant-loop-n
invariant-loop-n l = (l.n ≤ 512) × (l.size ≤ 512) × (length l.self.cells ≡ 512)

abbrev pub decreases-loop-n : goal.decreases-loop-n
decreases-loop-n l = 512 - l.n
