-- where the r edges that are left form no cycle, none do
use Rattle.cycle_test.specs.Thin.{Rest}
use Rattle.std.proofs.Common.{◌≤◌}
use Rattle.cycle_test.proofs.Sieve.thin_all.Given as goal

abbrev pub invariant-loop-self : goal.invariant-loop-self
invariant-loop-self l = (l.self.count ≤ l.before) × (l.before ≤ 1024) × Rest l.marked.edges.starts.now l.marked.edges.ends.now l.self.from l.self.to l.self.count

abbrev pub decreases-loop-self : goal.decreases-loop-self
decreases-loop-self l = l.before
