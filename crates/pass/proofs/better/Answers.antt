-- All tests of `better_of` hold, or one of them fails.
use Rattle.pass.specs.Work.{better_of}
use Rattle.folds.proofs.Cases.{cases}
use mathlib.Core.Path.{sym, ◌∙◌}
use Rattle.pass.proofs.better.Goals as goal
use Rattle.pass.proofs.better.Goals.{else-visit-t-via-then-visit-t+then-beats+then-gains+else-lets, else-visit-t-via-then-visit-t+then-beats+else-gains, else-visit-t-via-then-visit-t+else-beats, else-visit-t-via-else-visit-t}

pub returns-then-lets-clause-value : goal.returns-then-lets-clause-value
unfolding better_of
returns-then-lets-clause-value c =
    search (cases, sym c.beats.ensures ∙ c.if-beats.true, sym c.gains.ensures ∙ c.if-gains.true, sym c.lets.ensures ∙ c.if-lets.true)

pub returns-else-visit-t-clause-value : goal.returns-else-visit-t-clause-value
unfolding better_of
returns-else-visit-t-clause-value c = elim c.else-visit-t.branch [
  | else-visit-t-via-then-visit-t+then-beats+then-gains+else-lets w ↦ search (cases, sym w.beats.ensures ∙ w.if-beats.true, sym w.gains.ensures ∙ w.if-gains.true, sym w.lets.ensures ∙ w.if-lets.false)
  | else-visit-t-via-then-visit-t+then-beats+else-gains w ↦ search (cases, sym w.beats.ensures ∙ w.if-beats.true, sym w.gains.ensures ∙ w.if-gains.false)
  | else-visit-t-via-then-visit-t+else-beats w ↦ search (cases, sym w.beats.ensures ∙ w.if-beats.false)
  | else-visit-t-via-else-visit-t w ↦ search (cases, w.if-visit-t.false)
]
