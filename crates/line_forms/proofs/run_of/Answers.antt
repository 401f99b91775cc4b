-- A line a turn.
use Rattle.std.proofs.Common.{arith}
use Rattle.line_forms.proofs.Lines.{left_start, left_passed, left_ended, left_whole}
use Rattle.line_forms.proofs.run_of.Goals as goal

pub loop-n-init : goal.loop-n-init
loop-n-init g c = λ say read t r p. left_start r _ _

pub returns-in_default : goal.returns-in_default
returns-in_default g c = λ say read t r p. left_ended r (c.loop-n.invariant say read t r p) _ (p _ _ _ (omega arith) c.line.ensures) c.in_default.is

pub loop-n-preserved : goal.loop-n-preserved
loop-n-preserved g c = λ say read t r p. left_passed r (c.loop-n.invariant say read t r p) _ _ (omega arith) (p _ _ _ (omega arith) c.line.ensures) c.in-Some.is

pub returns : goal.returns
returns g c = λ say read t r p. left_whole r (c.loop-n.invariant say read t r p) (omega arith)
