-- The fields one after another, then the end of the line.
use mathlib.Core.Logic.{⊎_elim}
use Rattle.std.proofs.Common.{rules}
use Rattle.line_forms.proofs.Steps.{laid_start, laid_room, laid_turn, laid_close, laid_end, none_fields, none_numbers}
use Rattle.line_forms.proofs.put.Goals as goal

pub loop-f-init : goal.loop-f-init
loop-f-init c = laid_start _ _ _ _ _ _ _ (search rules) (search rules) c.requires

pub put-i-requires : goal.put-i-requires
put-i-requires c = laid_room _ _ _ _ _ _ c.loop-f.invariant c.in-Some.ensures.steps.0 c.in-Some.ensures.steps.1

pub loop-f-preserved : goal.loop-f-preserved
loop-f-preserved c = laid_turn _ _ _ _ _ _ c.loop-f.invariant c.in-Some.ensures.steps.0 c.in-Some.ensures.steps.1 c.put-i.ensures

pub copy-requires : goal.copy-requires
copy-requires c = laid_close _ _ c.loop-f.invariant (⊎_elim (λ x. none_fields _ _ _ x.1.0) (λ x. none_numbers _ _ _ x.1.0) c.in-None.ensures.steps)

pub returns : goal.returns
returns c = laid_end _ _ c.loop-f.invariant (⊎_elim (λ x. none_fields _ _ _ x.1.0) (λ x. none_numbers _ _ _ x.1.0) c.in-None.ensures.steps) c.copy.ensures
