-- No number below j has a fault: the search stands at j.
use Rattle.std.proofs.Common.{◌≡◌, ℕ, Bool}
use Rattle.folds.specs.Fold.{first_to}
use Rattle.validity.specs.Faults.{Tells}
use Rattle.validity.proofs.first_fault.Given as goal

abbrev pub invariant-loop-j : goal.invariant-loop-j
invariant-loop-j g l = (p : ℕ → Bool) → Tells (goal.F-post g l.fault) l.n p → first_to l.j p ≡ l.j
