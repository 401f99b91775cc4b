-- the pool has those below i that wait for nothing
use Rattle.ordering.specs.Counts.{open_at}
use Rattle.pool.specs.Pool.{Kept}
use Rattle.folds.specs.Fold.{zeros}
use Rattle.ordering.proofs.gather.Given as goal

abbrev pub invariant-loop-i : goal.invariant-loop-i
invariant-loop-i l = Kept (open_at l.i (zeros 512) l.count) l.ready.words
