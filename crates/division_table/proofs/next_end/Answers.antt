use native.Mathlib.Omega.{arith}
use mathlib.Core.Path.{refl}
use Rattle.division_table.proofs.Tables.{load_next, out_next}
use Rattle.division_table.proofs.next_end.Goals as goal

pub overflow_add-result-2 : goal.overflow_add-result-2
overflow_add-result-2 c = let E = c.requires.0 in omega (arith, (load_next c.args.w.sums _ _ E.past c.requires.1 E.loads).1)

pub overflow_add-result-3 : goal.overflow_add-result-3
overflow_add-result-3 c = let E = c.requires.0 in omega (arith, (out_next c.args.w.sums _ _ E.past c.requires.1 E.outs).1)

pub overflow_sub-result : goal.overflow_sub-result
overflow_sub-result c = let E = c.requires.0 in (out_next c.args.w.sums _ _ E.past c.requires.1 E.outs).2

pub returns : goal.returns
returns c =
    let E = c.requires.0 in (
      record {
        past = omega (arith, E.past);
        inside = omega arith;
        loads = (load_next c.args.w.sums _ _ E.past c.requires.1 E.loads).0;
        outs = (out_next c.args.w.sums _ _ E.past c.requires.1 E.outs).3;
      },
      refl,
    )
