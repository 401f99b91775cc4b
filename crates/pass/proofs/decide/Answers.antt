-- With no end allowed the cluster stays or evens out; else the choice is among the ends, by the widths that the walks summed.
use Rattle.pass.proofs.Work.{held_low, held_high, aims_held, aims_even, ends_gain, aims_ends}
use mathlib.Core.Path.{sym, ◌∙◌}
use Rattle.pass.proofs.decide.Goals as goal

pub returns-then-visit-own : goal.returns-then-visit-own
returns-then-visit-own c = aims_held _ _ _ _ _ _ _ c.args.visit.now.inside.0 c.requires.around (sym c.end_allowed-open.ensures ∙ c.if-not-open.true) (held_low c.requires.around (sym c.if-visit-own.true))

pub returns-then-own-visit : goal.returns-then-own-visit
returns-then-own-visit c = aims_held _ _ _ _ _ _ _ c.args.visit.now.inside.0 c.requires.around (sym c.end_allowed-open.ensures ∙ c.if-not-open.true) (held_high c.requires.around c.if-own-visit.true)

pub returns-then-not-open : goal.returns-then-not-open
returns-then-not-open c = aims_even _ _ _ _ _ _ _ c.args.visit.now.inside.0 c.requires.around (sym c.end_allowed-open.ensures ∙ c.if-not-open.true) c.args.visit.now.inside.1 (λ e. c.if-visit-own.false (sym e)) c.if-own-visit.false _ c.first_even.ensures c.unwrap_or-part.ensures

pub overflow_sub-result : goal.overflow_sub-result
overflow_sub-result c = ends_gain _ _ _ c.args.visit.now.inside.0 c.args.visit.now.inside.1 c.requires.around (sym c.end_allowed-open.ensures ∙ c.if-not-open.false) c.pulls.ensures c.ends-t.ensures.value c.ends-t.ensures.upper_bound

pub returns : goal.returns
returns c = aims_ends _ _ _ c.args.visit.now.inside.0 c.args.visit.now.inside.1 c.requires.around (sym c.end_allowed-open.ensures ∙ c.if-not-open.false) c.pulls.ensures c.ends-t.ensures.value c.ends-t.ensures.upper_bound
