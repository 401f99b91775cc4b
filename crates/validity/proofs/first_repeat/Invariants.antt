-- The bits of the edges tried are set, and none of these repeats an earlier one; so the next is one that the search tries.
use mathlib.Core.Bool.{true}
use mathlib.Core.Path.{◌≡◌}
use lib.ListN.{length}
use Rattle.folds.specs.Fold.{first_to}
use Rattle.validity.specs.Check.{repeats}
use Rattle.cycle_test.specs.Thin.{Marked}
use Rattle.validity.specs.Words.{BitsSet}
use Rattle.validity.proofs.first_repeat.Given as goal

abbrev pub invariant-loop-j : goal.invariant-loop-j
invariant-loop-j g l = record {
  same : length l.seen ≡ g.row.N;
  bits : BitsSet l.starts l.ends l.stride l.j l.seen;
  none : first_to l.j (repeats l.starts l.ends) ≡ l.j;
  marked : l.wanted ≡ true → Marked l.starts l.j l.left;
}
