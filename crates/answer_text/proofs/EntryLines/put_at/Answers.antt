-- What the line's form says, at the entry as a number.
use Rattle.line_forms.specs.Form.{printed}
use Rattle.answer_text.proofs.EntryLines.put_at.Goals as goal

pub put-requires : goal.put-requires
unfolding printed
put-requires c = rw (c.entry_fields.ensures, c.from.ensures) c.requires

pub returns : goal.returns
unfolding printed
returns c = rw (c.entry_fields.ensures, c.from.ensures) at c.put.ensures
