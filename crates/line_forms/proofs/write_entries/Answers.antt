-- An entry a turn.
use Rattle.std.proofs.Common.{arith, ◌≤◌}
use Rattle.line_forms.proofs.Lines.{entered_start, entered_stop, entered_turn, entered_end}
use Rattle.line_forms.proofs.write_entries.Goals as goal

pub loop-n-init : goal.loop-n-init
loop-n-init g c = λ say read t k r p h. entered_start r _ _ _ _ h

pub returns-in_default : goal.returns-in_default
returns-in_default g c = λ say read t k r p h. entered_stop r (c.loop-n.invariant say read t k r p h) _ (p _ _ _ (omega arith) c.entry.ensures) c.in_default.is

pub overflow_cast-list : goal.overflow_cast-list
overflow_cast-list g c = let h : c.in-Some.v ≤ 65535 = c.requires.low _ _ _ _ c.in-Some.ensures in omega arith

pub loop-n-preserved : goal.loop-n-preserved
loop-n-preserved g c = λ say read t k r p h. entered_turn r (c.loop-n.invariant say read t k r p h) _ _ _ (omega arith) (p _ _ _ (omega arith) c.entry.ensures) c.in-Some.is

pub returns : goal.returns
returns g c = λ say read t k r p h. entered_end r (c.loop-n.invariant say read t k r p h) (omega arith)
