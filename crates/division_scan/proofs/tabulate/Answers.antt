use native.Mathlib.Omega.{arith}
use mathlib.Core.Path.{◌≡◌, sym}
use Rattle.folds.specs.Fold.{zeros}
use Rattle.division_table.proofs.Sweeps.{done_none}
use Rattle.division_table.proofs.Spans.{span_none}
use Rattle.division_scan.proofs.Flows.{flows_none, flows_room, rest_next, rest_room, turn_flows, turn_weights, turn_done, tabled_end}
use Rattle.division_scan.proofs.tabulate.Goals as goal

pub loop-y-init : goal.loop-y-init
unfolding zeros
loop-y-init c =
    let P = rw (← c.requires.g_bound.0) at c.args.e.positioned in
    (sym (span_none _ _), flows_none P _ (omega arith), done_none c.requires.table c.requires.blank)

pub gather-requires-clause-into_room : goal.gather-requires-clause-into_room
gather-requires-clause-into_room c = let P = rw (← c.requires.g_bound.0) at c.args.e.positioned in flows_room P c.loop-y.invariant.1

pub overflow_add-rest : goal.overflow_add-rest
overflow_add-rest c = omega (arith, rest_room c.args.limits.costs c.loop-y-test.true c.loop-y.auto.y c.loop-y.invariant.0)

pub invariant_of-w : goal.invariant_of-w
invariant_of-w c =
    let P = rw (← c.requires.g_bound.0) at c.args.e.positioned in
    record {
      sums = turn_weights P _ _ _ _ _ _ _ _ _ c.loop-y-test.true c.loop-y.auto.y (omega (arith, c.args.e.few)) c.args.limits.costs c.loop-y.invariant.1 c.gather.ensures c.requires.g_bound.1 c.loop-y.invariant.0 c.loop-y.invariant.2;
      below = (omega arith, omega (arith, c.args.e.few));
    }

pub sweep-requires-clause-table : goal.sweep-requires-clause-table
sweep-requires-clause-table c = c.loop-y.invariant.2.table

pub loop-y-preserved : goal.loop-y-preserved
loop-y-preserved c =
    let P = rw (← c.requires.g_bound.0) at c.args.e.positioned in (
      rest_next _ c.loop-y-test.true c.loop-y.auto.y c.loop-y.invariant.0,
      turn_flows P _ _ _ _ _ _ _ _ _ c.loop-y-test.true c.loop-y.auto.y (omega (arith, c.args.e.few)) c.args.limits.costs c.loop-y.invariant.1 c.gather.ensures c.requires.g_bound.1 c.loop-y.invariant.0 c.loop-y.invariant.2,
      turn_done P _ _ _ _ _ _ _ _ _ c.loop-y-test.true c.loop-y.auto.y (omega (arith, c.args.e.few)) c.args.limits.costs c.loop-y.invariant.1 c.gather.ensures c.requires.g_bound.1 c.loop-y.invariant.0 c.loop-y.invariant.2
          c.args.limits.before_each c.args.limits.from_each c.from-before.ensures c.from-after.ensures c.sweep.ensures,
    )

pub returns : goal.returns
returns c =
    let e : c.loop-y.y ≡ 0 = omega arith in
    rw (← c.requires.g_bound.0) (rw e at (tabled_end c.loop-y.invariant.1 c.args.limits.before_each c.loop-y.invariant.2))
