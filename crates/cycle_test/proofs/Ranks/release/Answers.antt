use Rattle.std.proofs.Common.{arith}
use Rattle.cycle_test.proofs.Ranks.release.Goals as goal

pub loop-j-smaller : goal.loop-j-smaller
loop-j-smaller c = omega (arith, c.next_of-j.ensures, c.requires.onward.later c.loop-j.j c.loop-j-test.true)
