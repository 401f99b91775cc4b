use Rattle.topology.specs.Reach.{lowest_on_cycle}
use Rattle.folds.proofs.Searches.{first_to_zero, first_to_more}
use Rattle.folds.proofs.Found.{found_at, found_none}
use native.Mathlib.Omega.{arith}
use mathlib.Core.Path.{sym, ◌∙◌}
use Rattle.ordering.proofs.search_cycle.Goals as goal

pub loop-v-init : goal.loop-v-init
unfolding lowest_on_cycle
loop-v-init c = first_to_zero _

pub returns-then-is_on_cycle : goal.returns-then-is_on_cycle
unfolding lowest_on_cycle
returns-then-is_on_cycle c = found_at _ c.loop-v.invariant (sym c.is_on_cycle.ensures ∙ c.if-is_on_cycle.true) (omega arith)

pub loop-v-preserved : goal.loop-v-preserved
unfolding lowest_on_cycle
loop-v-preserved c = first_to_more _ _ c.loop-v.invariant (sym c.is_on_cycle.ensures ∙ c.if-is_on_cycle.false)

pub returns : goal.returns
unfolding lowest_on_cycle
returns c = found_none _ c.loop-v.invariant (omega arith) (omega arith)
