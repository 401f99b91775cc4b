-- Invariant: of each list the first n entries are written, and what is still to be written is what the lines from i on say.
use Rattle.line_forms.specs.Lines.{of_form}
use Rattle.line_forms.proofs.Lines.{Entered}
use Rattle.kit_lines.specs.Forms.{wire_form}
use Rattle.kit_text.proofs.write_wires.Given as goal

abbrev pub invariant-loop-n : goal.invariant-loop-n
invariant-loop-n l = record {
  starts : Entered (of_form wire_form) l.text 1024 l.at 0 l.initial.starts l.starts l.n l.i;
  ends : Entered (of_form wire_form) l.text 1024 l.at 1 l.initial.ends l.ends l.n l.i;
  widths : Entered (of_form wire_form) l.text 1024 l.at 2 l.initial.widths l.widths l.n l.i;
}
