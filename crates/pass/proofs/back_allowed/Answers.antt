-- The two numbers let it be asked, or the answer is no.
use Rattle.pass.specs.Work.{back_allowed}
use Rattle.folds.proofs.Cases.{cases, no_bool}
use borrow.Author.Tests.{le-ltb}
use mathlib.Core.Path.{sym, ◌∙◌}
use Rattle.pass.proofs.back_allowed.Goals as goal
use Rattle.pass.proofs.back_allowed.Goals.{then-visit-gt0, else-visit-gt0}

pub returns-then-visit : goal.returns-then-visit
unfolding back_allowed
returns-then-visit c =
    elim c.if-visit-gt0.branch [ then-visit-gt0 w ↦ search (cases, sym w.value-is ∙ c.if-visit.true) | else-visit-gt0 w ↦ absurd (no_bool (sym (le-ltb _ _ w.if-visit-gt0.false) ∙ sym w.value-is ∙ c.if-visit.true)) ]

pub returns-else-visit : goal.returns-else-visit
unfolding back_allowed
returns-else-visit c = elim c.if-visit-gt0.branch [ then-visit-gt0 w ↦ search (cases, sym w.value-is ∙ c.if-visit.false) | else-visit-gt0 w ↦ search (cases, w.if-visit-gt0.false) ]
