-- The line is read by the form's words.
use Rattle.std.proofs.Common.{refl, ◌∙◌}
use Rattle.line_forms.specs.Read.{read_form}
use Rattle.kit_lines.proofs.block_line.Goals as goal

pub returns : goal.returns
unfolding read_form
returns c = c.read.ensures ∙ rw c.block_fields.ensures refl
