-- the offer of e is not below `most`
use native.Mathlib.Omega.{arith}
use Rattle.folds.proofs.Cases.{either, eq_or_ne}
use Rattle.division_table.proofs.pass_over.Goals as goal

pub loop-e-preserved : goal.loop-e-preserved
loop-e-preserved g c =
    let E = c.loop-e.invariant.0 in
    let P = c.loop-e.invariant.1 in
    let next = c.next_end-e.ensures in (
      next.0,
      record {
        upto = omega (arith, P.upto, next.1);
        each = λ z a b.
            either (eq_or_ne z c.loop-e.e.x)
            (λ q. rw q (omega (arith, E.loads), omega (arith, E.outs)))
            (λ q. P.each z a (omega (arith, next.1)));
      },
    )
