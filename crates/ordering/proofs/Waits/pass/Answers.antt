-- one edge fewer is waited for at b, which opens where it was the last
use Rattle.ordering.proofs.Opens.{pass_none, pass_high, pass_low}
use native.Mathlib.Omega.{arith}
use Rattle.ordering.proofs.Waits.pass.Goals as goal

pub returns-then-u-b : goal.returns-then-u-b
returns-then-u-b c = search pass_none

pub overflow_sub-x : goal.overflow_sub-x
overflow_sub-x c = omega (arith, c.requires.nonzero c.if-u-b.false)

pub returns-then-b-g : goal.returns-then-b-g
returns-then-b-g c = pass_low _ _ _ _ _ c.requires.b_bound (omega arith) c.if-u-b.false (c.requires.nonzero c.if-u-b.false) _ c.if-b-g.true c.admit.ensures

pub returns-else-b-g : goal.returns-else-b-g
returns-else-b-g c = pass_high _ _ _ _ _ c.requires.b_bound (omega arith) c.if-u-b.false (c.requires.nonzero c.if-u-b.false) c.if-b-g.false
