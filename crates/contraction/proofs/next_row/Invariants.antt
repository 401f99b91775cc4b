-- The vertices below v have their new clusters, numbered in the order in which they first come.
use Prim.Native.Nat.{ℕ}
use lib.ListN.{get_or}
use Rattle.folds.specs.Fold.{Filled}
use Rattle.contraction.specs.Promises.{mate_in}
use Rattle.contraction.proofs.Next.{number}
use Rattle.contraction.proofs.Naming.{Numbering, Mapped}
use Rattle.contraction.proofs.next_row.Given as goal

abbrev pub invariant-loop-v : goal.invariant-loop-v
invariant-loop-v l = Numbering l.row (mate_in l.mates) l.v l.names l.count × Filled l.initial.out l.out l.v (λ (w : ℕ). number l.row (mate_in l.mates) (get_or l.row w 0)) × Mapped l.row (number l.row (mate_in l.mates)) l.v l.map
