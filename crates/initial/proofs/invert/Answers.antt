use native.Mathlib.Omega.{arith}
use mathlib.Core.Path.{◌≡◌}
use Rattle.initial.proofs.Arranges.{inverse_none, inverse_turn}
use Rattle.initial.proofs.invert.Goals as goal

pub loop-i-init : goal.loop-i-init
loop-i-init c = inverse_none (omega arith)

pub bounds-order-i : goal.bounds-order-i
bounds-order-i c = omega (arith, c.requires.once.long)

pub loop-i-preserved : goal.loop-i-preserved
loop-i-preserved c = inverse_turn c.requires.once c.loop-i-test.true c.from.ensures c.loop-i.invariant

pub returns : goal.returns
returns c = let e : c.loop-i.i ≡ c.args.g = omega arith in rw e at c.loop-i.invariant
