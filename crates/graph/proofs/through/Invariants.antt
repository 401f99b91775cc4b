-- The first v entries are those of their clusters.
use lib.ListN.{get_or}
use Rattle.folds.specs.Fold.{Filled}
use Rattle.graph.proofs.through.Given as goal

abbrev pub invariant-loop-v : goal.invariant-loop-v
invariant-loop-v l = Filled l.initial.out l.out l.v (λ v. get_or l.table (get_or l.row v 0) 0)
