use Rattle.cycle_test.proofs.Thins.{thinned, rest_next}
use Rattle.std.proofs.Common.{arith}
use Rattle.cycle_test.proofs.Sieve.thin_all.Goals as goal

pub loop-self-init : goal.loop-self-init
loop-self-init c = (c.sift.ensures.few, c.args.marked.edges.ended.from.few, record { held = c.sift.ensures.held; free = thinned c.args.marked.marked c.sift.ensures })

pub thin-requires : goal.thin-requires
thin-requires c = c.loop-self.invariant.2.held

pub loop-self-smaller : goal.loop-self-smaller
loop-self-smaller c = omega (arith, c.loop-self-test.true)

pub loop-self-preserved : goal.loop-self-preserved
loop-self-preserved c = (c.thin.ensures.few, omega (arith, c.loop-self.invariant.0, c.loop-self.invariant.1), rest_next c.loop-self.invariant.2 c.thin.ensures)

pub returns : goal.returns
returns c = c.loop-self.invariant.2
