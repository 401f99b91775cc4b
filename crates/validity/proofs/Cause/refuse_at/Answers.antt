-- The place of the first fault is refused, where there is one.
use Rattle.std.proofs.Common.{refl, sym, ◌∙◌}
use Rattle.validity.specs.Cause.{Passed}
use Rattle.validity.proofs.Checks.{at_some, at_none}
use Rattle.validity.proofs.Cause.refuse_at.Goals as goal

pub returns-in-Some : goal.returns-in-Some
returns-in-Some c n i e = rw c.at.ensures (at_some c.args.self i n Passed (sym c.in-Some.is ∙ e))

pub returns-in-None : goal.returns-in-None
returns-in-None c n i e = at_none c.args.self i n (sym c.in-None.is ∙ e) refl
