-- what lies below the guess is on no cycle, so the guess is the lowest if it lies on one
use Rattle.std.proofs.Common.{sym, ◌∙◌}
use Rattle.folds.proofs.Searches.{first_to_all}
use Rattle.folds.proofs.Found.{found_at}
use Rattle.topology.specs.Reach.{lowest_on_cycle}
use Rattle.ordering.proofs.search_guessed.Goals as goal

pub returns-then-returns_to : goal.returns-then-returns_to
unfolding lowest_on_cycle
returns-then-returns_to c = found_at _ (first_to_all _ _ c.guess_lowest-low.ensures.1) (sym c.returns_to.ensures ∙ c.if-returns_to.true) c.if-low-clusters.true
