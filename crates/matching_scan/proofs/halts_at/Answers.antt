-- the three tests of `halts`, one after another
use Rattle.matching_scan.specs.State.{halts}
use Rattle.folds.proofs.Cases.{cases, no_bool}
use borrow.Author.Tests.{eq-eqb, ne_eqb}
use mathlib.Core.Path.{sym, ◌∙◌}
use Rattle.matching_scan.proofs.halts_at.Goals as goal
use Rattle.matching_scan.proofs.halts_at.Goals.{then-b-u, else-b-u}

pub returns-then-tos-b-ne0 : goal.returns-then-tos-b-ne0
unfolding halts
returns-then-tos-b-ne0 c =
    elim c.if-b-u.branch [ then-b-u w ↦ let t = sym w.value-is ∙ c.if-tos-b-ne0.true in rw (← c.end_at-b.ensures.is, ne_eqb _ _ w.if-b-u.true, t) c.is_next.ensures | else-b-u w ↦ let t = sym w.value-is ∙ c.if-tos-b-ne0.true in absurd (no_bool (rw (eq-eqb _ _ w.if-b-u.false) at t)) ]

pub returns-else-tos-b-ne0 : goal.returns-else-tos-b-ne0
unfolding halts
returns-else-tos-b-ne0 c =
    elim c.if-b-u.branch [ then-b-u w ↦ let t = sym w.value-is ∙ c.if-tos-b-ne0.false in rw (← c.end_at-b.ensures.is, ne_eqb _ _ w.if-b-u.true, t) c.if-tos-b-ne0.false | else-b-u w ↦ rw (← c.end_at-b.ensures.is) (search (cases, w.if-b-u.false)) ]
