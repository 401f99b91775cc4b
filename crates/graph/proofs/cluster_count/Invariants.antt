-- The count is one more than the highest cluster below v.
use Rattle.folds.specs.Fold.{max_to}
use Prim.Native.Nat.{suc}
use mathlib.Core.Path.{◌≡◌}
use lib.ListN.{get_or}
use Rattle.graph.proofs.cluster_count.Given as goal

abbrev pub invariant-loop-c : goal.invariant-loop-c
invariant-loop-c l = l.count ≡ max_to l.c-index (λ i. suc (get_or l.row i 0))
