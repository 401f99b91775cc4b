-- The sum counts the numbers below j that have a fault.
use Rattle.std.proofs.Common.{◌≡◌, ℕ, Bool, ◌≤◌}
use Rattle.folds.specs.Fold.{count_to}
use Rattle.validity.specs.Faults.{Tells}
use Rattle.validity.proofs.count_faults.Given as goal

abbrev pub invariant-loop-j : goal.invariant-loop-j
invariant-loop-j g l = record { low : l.sum ≤ l.j; counts : (p : ℕ → Bool) → Tells (goal.F-post g l.fault) l.n p → l.sum ≡ count_to l.j p }
