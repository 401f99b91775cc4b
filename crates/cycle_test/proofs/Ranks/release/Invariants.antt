-- the queue has room; the lists lead on
use Rattle.std.proofs.Common.{◌≡◌, ◌-◌, ◌≤◌, length}
use Rattle.cycle_test.proofs.Ranks.release.Given as goal

abbrev pub invariant-loop-j : goal.invariant-loop-j
invariant-loop-j l = (l.size ≤ 512) × (length l.self.cells ≡ 512)

abbrev pub decreases-loop-j : goal.decreases-loop-j
decreases-loop-j l = length l.arcs - l.j
