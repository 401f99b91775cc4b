-- put where nothing is waited for, else left
use Rattle.folds.proofs.Cases.{cases}
use Rattle.ordering.proofs.admit.Goals as goal

pub returns-then-c-eq0 : goal.returns-then-c-eq0
returns-then-c-eq0 c = search cases

pub returns-else-c-eq0 : goal.returns-else-c-eq0
returns-else-c-eq0 c = search cases
