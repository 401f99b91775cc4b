use Rattle.ordering.proofs.Within.{tried_none, tried_turn, classes_free}
use Rattle.folds.proofs.Cases.{bit_few}
use lib.ListN.{length}
use native.Mathlib.Omega.{arith}
use mathlib.Core.Path.{◌≡◌}
use Rattle.ordering.proofs.lowest_within.Goals as goal

pub loop-j-init : goal.loop-j-init
loop-j-init c = (omega arith, tried_none _ _ _)

pub overflow_add-sum : goal.overflow_add-sum
overflow_add-sum c = omega (arith, c.from-sum.ensures, bit_few, c.loop-j.invariant.1.few, c.args.edges.ended.from.few)

pub loop-j-preserved : goal.loop-j-preserved
loop-j-preserved c = (omega (arith, c.least_start-low.ensures.0), tried_turn _ _ c.end_at-a.ensures.is c.end_at-b.ensures.is c.from-sum.ensures c.least_start-low.ensures c.loop-j.invariant.1)

pub returns-then-sum-eq0 : goal.returns-then-sum-eq0
returns-then-sum-eq0 c = let q : c.loop-j.j ≡ length c.args.edges.starts.now = omega arith in (c.loop-j.invariant.0, classes_free _ _ _ (rw q at c.loop-j.invariant.1) c.if-sum-eq0.true)

pub returns-else-sum-eq0 : goal.returns-else-sum-eq0
returns-else-sum-eq0 c = (omega arith, λ v l. absurd (omega arith))
