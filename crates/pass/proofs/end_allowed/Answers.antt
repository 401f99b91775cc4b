-- The first half of the test holds, or the second decides.
use Rattle.pass.specs.Work.{ahead_allowed}
use Rattle.folds.proofs.Cases.{cases, no_bool}
use borrow.Author.Tests.{le-ltb}
use mathlib.Core.Path.{sym, ◌∙◌}
use Rattle.pass.proofs.end_allowed.Goals as goal
use Rattle.pass.proofs.end_allowed.Goals.{then-visit, else-visit}

pub returns-then-visit-2 : goal.returns-then-visit-2
unfolding ahead_allowed
returns-then-visit-2 c = let b = sym c.back_allowed.ensures ∙ c.if-back_allowed.false in
    elim c.if-visit.branch [ then-visit w ↦ search (cases, b, sym w.value-is ∙ c.if-visit-2.true) | else-visit w ↦ absurd (no_bool (sym (le-ltb _ _ w.if-visit.false) ∙ sym w.value-is ∙ c.if-visit-2.true)) ]

pub returns-else-visit-2 : goal.returns-else-visit-2
unfolding ahead_allowed
returns-else-visit-2 c = let b = sym c.back_allowed.ensures ∙ c.if-back_allowed.false in
    elim c.if-visit.branch [ then-visit w ↦ search (cases, b, sym w.value-is ∙ c.if-visit-2.false) | else-visit w ↦ search (cases, b, w.if-visit.false) ]
