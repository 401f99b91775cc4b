-- Invariant: of whatever reader is followed, n lines say something, and what the lines from i on say is what is still to be counted.
use Rattle.std.proofs.Common.{ℕ, List}
use mathlib.Core.Option.{Option}
use Rattle.line_forms.specs.Read.{Got}
use Rattle.line_forms.specs.Run.{Reads, Passes}
use Rattle.line_forms.proofs.Lines.{Left}
use Rattle.line_forms.proofs.run_of.Given as goal

abbrev pub invariant-loop-n : goal.invariant-loop-n
invariant-loop-n g l =
    (say : ℕ → List ℕ → Option (List ℕ)) (read : ℕ → ℕ → Got) (t : List ℕ) → Reads say read t → Passes (goal.F-post g l.line) read → Left say t l.most l.at l.n l.i
