use Rattle.ordering.proofs.Free.{aside_first, aside_turn}
use Rattle.std.proofs.Common.{◌≡◌, length, arith}
use Rattle.ordering.proofs.set_aside.Goals as goal

pub loop-v-init : goal.loop-v-init
loop-v-init c = aside_first (omega arith)

pub bounds-aside-from : goal.bounds-aside-from
bounds-aside-from c = omega (arith, c.from.ensures, c.requires c.loop-v.v-index (omega arith))

pub loop-v-preserved : goal.loop-v-preserved
loop-v-preserved c = aside_turn c.from.ensures c.loop-v.invariant

pub returns : goal.returns
returns c = let q : c.loop-v.v-index ≡ length c.args.order.now = omega arith in rw q at c.loop-v.invariant
