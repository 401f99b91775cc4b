use Rattle.std.proofs.Common.{◌%◌, get_or, arith, eqb-true, leb-false}
use Rattle.cycle_test.proofs.Guesses.{ranks_free}
use Rattle.folds.proofs.Cases.{either, eq_or_ne, bit_few, bit_none}
use Rattle.cycle_test.proofs.rises_by.Goals as goal

pub loop-j-init : goal.loop-j-init
loop-j-init c = (omega arith, λ _ i l. absurd (omega arith))

pub overflow_add-sum : goal.overflow_add-sum
overflow_add-sum c = omega (arith, c.from-sum.ensures, bit_few, c.loop-j.invariant.0, c.args.edges.ended.from.few)

pub loop-j-preserved : goal.loop-j-preserved
loop-j-preserved c = (
  omega (arith, c.from-sum.ensures, bit_few, c.loop-j.invariant.0),
  λ z i h.
      either (eq_or_ne i c.loop-j.j)
      (λ q. rw (q, ← c.end_at-a.ensures.is, ← c.end_at-b.ensures.is) (leb-false _ _ (bit_none _ (omega (arith, c.from-sum.ensures)))))
      (λ n. c.loop-j.invariant.1 (omega arith) i (omega arith)),
)

pub returns : goal.returns
returns c = λ t. ranks_free c.args.edges.starts.now c.args.edges.ends.now (λ v. get_or c.args.cells.now v 0 % 65536) (λ i h. c.loop-j.invariant.1 (eqb-true c.loop-j.sum 0 t) i (omega (arith)))
