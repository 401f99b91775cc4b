-- A field a turn, then the end.
use mathlib.Core.Logic.{⊎_elim}
use Rattle.std.proofs.Common.{arith}
use Rattle.line_forms.proofs.Steps.{needs_next, needs_least, needs_no_fields, needs_no_numbers}
use Rattle.line_forms.proofs.needs.Goals as goal

pub overflow_add-sum-in-loop-f : goal.overflow_add-sum-in-loop-f
overflow_add-sum-in-loop-f c =
    omega (arith, c.requires, c.loop-f.invariant, c.width.ensures.is, needs_next c.args.end.now _ _ _ _ _ _ c.in-Some.ensures.steps.0 c.in-Some.ensures.steps.1, needs_least c.next.new.self.a.rest.now c.args.end.now c.next.new.self.b.rest.now)

pub loop-f-preserved : goal.loop-f-preserved
loop-f-preserved c =
    omega (arith, c.loop-f.invariant, c.width.ensures.is, needs_next c.args.end.now _ _ _ _ _ _ c.in-Some.ensures.steps.0 c.in-Some.ensures.steps.1)

pub returns : goal.returns
returns c =
    omega (
      arith,
      c.loop-f.invariant,
      (⊎_elim (λ x. needs_no_fields c.args.end.now _ c.loop-f.f-iterator.b.rest.now x.1.0) (λ x. needs_no_numbers c.args.end.now c.loop-f.f-iterator.a.rest.now _ x.1.0) c.in-None.ensures.steps),
    )
