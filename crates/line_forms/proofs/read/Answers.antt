-- The fields one after another, then the end of the line.
use Rattle.std.proofs.Common.{arith, ◌∙◌}
use Rattle.decimal.proofs.Reading.{within}
use Rattle.line_forms.proofs.Steps.{got_start, got_stop, got_turn, got_open, got_all}
use Rattle.line_forms.proofs.read.Goals as goal

pub loop-k-init : goal.loop-k-init
loop-k-init g c = got_start _ _ _ _ _

pub returns-in_err-v : goal.returns-in_err-v
returns-in_err-v g c = c.from_residual.ensures ∙ got_stop _ _ _ _ _ _ _ _ c.loop-k.invariant _ c.loop-k-test.true c.index-fields-k.is c.in_err-v.ensures

pub loop-k-preserved : goal.loop-k-preserved
loop-k-preserved g c = got_turn _ _ _ _ _ _ _ _ c.loop-k.invariant _ c.loop-k-test.true c.index-fields-k.is _ _ c.in_ok-v.ensures (omega (arith, c.requires))

pub returns-then-not-starts : goal.returns-then-not-starts
returns-then-not-starts g c = got_open _ _ _ _ _ _ _ _ c.loop-k.invariant c.loop-k-test.false _ c.starts.ensures c.if-not-starts.true

pub overflow_add-result : goal.overflow_add-result
overflow_add-result g c = omega (arith, within c.args.end.now c.args.text.now _ _ c.starts.ensures c.if-not-starts.false)

pub returns : goal.returns
returns g c = got_all _ _ _ _ _ _ _ _ c.loop-k.invariant c.loop-k-test.false _ c.starts.ensures (omega (arith, c.requires)) c.if-not-starts.false
