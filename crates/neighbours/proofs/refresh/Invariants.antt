-- The lowest part, and one more than the highest.
use Prim.Native.Nat.{◌+◌, min, max}
use Rattle.neighbours.proofs.refresh.Given as goal

abbrev pub ghost-fold_far : goal.ghost-fold_far
ghost-fold_far a = min

abbrev pub ghost-fold_far-2 : goal.ghost-fold_far-2
ghost-fold_far-2 a = λ s p. max s (p + 1)
