use Rattle.std.proofs.Common.{sym, ◌∙◌}
use Rattle.folds.proofs.Searches.{first_to_zero, first_to_more}
use Rattle.validity.proofs.Checks.{none_first, first_some, first_none}
use Rattle.validity.proofs.first_fault.Goals as goal

pub returns-then-count_faults-eq0 : goal.returns-then-count_faults-eq0
returns-then-count_faults-eq0 g c p t = none_first _ _ (c.count_faults.ensures p (λ j r l e. t j r l e)) c.if-count_faults-eq0.true

pub loop-j-init : goal.loop-j-init
loop-j-init g c p t = first_to_zero p

pub returns-then-fault : goal.returns-then-fault
returns-then-fault g c p t = first_some _ _ p (c.loop-j.invariant p t) (sym (t _ _ c.loop-j-test.true c.fault.ensures) ∙ c.if-fault.true) c.loop-j-test.true

pub loop-j-preserved : goal.loop-j-preserved
loop-j-preserved g c p t = first_to_more _ p (c.loop-j.invariant p t) (sym (t _ _ c.loop-j-test.true c.fault.ensures) ∙ c.if-fault.false)

pub returns : goal.returns
returns g c p t = first_none _ _ p (c.loop-j.invariant p t) c.loop-j.auto.j-end c.loop-j-test.false
