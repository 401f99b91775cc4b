-- Invariant: the first k numbers have been read, and the fields from k on are still to be read from i on.
use Rattle.line_forms.specs.Lent.{fields_in}
use Rattle.line_forms.proofs.Steps.{Got_to}
use Rattle.line_forms.proofs.read.Given as goal

abbrev pub invariant-loop-k : goal.invariant-loop-k
invariant-loop-k g l = Got_to (fields_in l.fields) l.end l.text l.at g.row.N l.i l.k l.numbers
