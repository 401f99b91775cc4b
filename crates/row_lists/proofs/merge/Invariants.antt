-- The weights of the clusters below c are added to those of their new ones.
use Rattle.row_lists.specs.Carry.{Merged}
use Rattle.row_lists.proofs.merge.Given as goal

abbrev pub invariant-loop-c : goal.invariant-loop-c
invariant-loop-c l = Merged l.names.map.now l.old l.c l.weights
