use native.Mathlib.Omega.{arith}
use mathlib.Core.Path.{refl}
use Rattle.division_table.proofs.Tables.{span_start, out_first}
use Rattle.division_table.proofs.first_end.Goals as goal

pub overflow_sub-result : goal.overflow_sub-result
overflow_sub-result c = out_first c.args.w.sums c.args.w.below.0

pub returns : goal.returns
returns c =
    let w = c.args.w in (
      record {
        past = omega arith;
        inside = omega arith;
        loads = omega (arith, span_start w.cost.now w.y);
        outs = omega (arith, out_first w.sums w.below.0, span_start w.away.now w.y, span_start w.into.now w.y);
      },
      refl,
    )
