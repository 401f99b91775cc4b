-- The marks of the first c clusters.
use Rattle.neighbours.specs.Known.{Opened}
use mathlib.Core.Path.{◌≡◌}
use Rattle.neighbours.proofs.mark_open.Given as goal

abbrev pub invariant-loop-c : goal.invariant-loop-c
invariant-loop-c l = Opened l.table.parts l.numbers.low l.numbers.high l.k l.c l.numbers.marks × (l.numbers.low ≡ l.fn.numbers.low) × (l.numbers.high ≡ l.fn.numbers.high)
