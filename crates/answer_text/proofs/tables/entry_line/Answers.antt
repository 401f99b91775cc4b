-- The line is read by the form's words.
use Rattle.std.proofs.Common.{refl, ◌∙◌}
use Rattle.line_forms.specs.Read.{read_form}
use Rattle.answer_text.proofs.tables.entry_line.Goals as goal

pub returns : goal.returns
unfolding read_form
returns c = c.read.ensures ∙ rw c.block_entry_fields.ensures refl
