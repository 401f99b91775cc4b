-- the first v entries are the intervals of their positions
use lib.ListN.{get_or}
use Rattle.folds.specs.Fold.{Filled}
use Rattle.division_table.specs.Division.{interval_of}
use Rattle.initial.proofs.label.Given as goal

abbrev pub invariant-loop-v : goal.invariant-loop-v
invariant-loop-v l = Filled l.initial.table l.table l.v (λ v. interval_of l.starts (get_or l.places v 0))
