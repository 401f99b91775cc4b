-- Each branch is one of the two cases.
use Rattle.folds.proofs.Cases.{cases}
use Rattle.cycle_test.proofs.cell_or_rank.Goals as goal

pub returns-then-cell-eq0 : goal.returns-then-cell-eq0
returns-then-cell-eq0 c = search cases

pub returns-else-cell-eq0 : goal.returns-else-cell-eq0
returns-else-cell-eq0 c = search cases
