use Rattle.graph.proofs.Totals.{totals_none, totals_turn, totals_room}
use Rattle.std.proofs.Common.{◌<◌, length, refl, arith}
use Rattle.graph.proofs.sum_costs.Goals as goal

pub loop-v-init : goal.loop-v-init
loop-v-init c = totals_none _ _ _ refl c.requires.by_index

pub overflow_add-sums : goal.overflow_add-sums
overflow_add-sums c =
    let k : c.from-in-loop-v.result < length c.args.sums.now = rw c.from-in-loop-v.ensures (c.requires.keyed.low _ c.loop-v-test.true) in
    omega (
      arith,
      totals_room _ _ _ c.loop-v.invariant (omega (arith, c.requires.keyed.few)) (λ v. omega (arith, c.type_inv.costs v)) _ k,
      c.from.ensures,
      c.type_inv.costs c.loop-v.v,
    )

pub loop-v-preserved : goal.loop-v-preserved
loop-v-preserved c = totals_turn _ _ _ c.loop-v.invariant c.requires.keyed c.loop-v-test.true c.from-in-loop-v.ensures c.from.ensures
