-- The test is check 6's of an edge.
use Rattle.std.proofs.Common.{rules}
use Rattle.validity.specs.Check.{bad_ends}
use Rattle.validity.proofs.bad_end.Goals as goal

pub returns : goal.returns
unfolding bad_ends
returns c = c.first_fault.ensures _ (λ j r l e. search rules)
