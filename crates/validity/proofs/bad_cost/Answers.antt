-- The test is check 5's of a vertex.
use Rattle.std.proofs.Common.{rules}
use Rattle.validity.specs.Check.{bad_cost}
use Rattle.validity.proofs.bad_cost.Goals as goal

pub returns : goal.returns
unfolding bad_cost
returns c = c.first_fault.ensures (bad_cost c.args.costs.now c.args.bound) (λ j r l e. search rules)
