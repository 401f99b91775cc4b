-- The entries below v are their own numbers.
use Rattle.folds.specs.Fold.{Filled}
use Prim.Native.Nat.{ℕ}
use Rattle.graph.proofs.number_entries.Given as goal

abbrev pub invariant-loop-v : goal.invariant-loop-v
invariant-loop-v l = Filled l.initial.row l.row l.v (λ (j : ℕ). j)
