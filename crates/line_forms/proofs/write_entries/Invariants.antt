-- Invariant: of whatever reader is followed, n entries have been written, and the lines from i on say what is still to be written.
use Rattle.std.proofs.Common.{ℕ, List, ◌≤◌, length, drop}
use mathlib.Core.Option.{Option}
use Rattle.line_forms.specs.Lines.{lines_of, leading}
use Rattle.line_forms.specs.Read.{Got}
use Rattle.line_forms.specs.Run.{Reads, Tells}
use Rattle.line_forms.proofs.Lines.{Entered}
use Rattle.line_forms.proofs.write_entries.Given as goal

abbrev pub invariant-loop-n : goal.invariant-loop-n
invariant-loop-n g l =
    (say : ℕ → List ℕ → Option (List ℕ)) (read : ℕ → ℕ → Got) (t : List ℕ) (c : ℕ) → Reads say read t → Tells (goal.F-post g l.entry) c read
    → length (leading say 0 l.most (lines_of (drop l.at t))) ≤ length l.initial.list → Entered say t l.most l.at c l.initial.list l.list l.n l.i
