-- What the line's form says, at the entry as a number.
use Rattle.std.proofs.Common.{arith, refl, ◌∙◌}
use Rattle.line_forms.specs.Form.{needs}
use Rattle.answer_text.proofs.Buffer.{entry_needs}
use Rattle.answer_text.proofs.EntryLines.length_at.Goals as goal

pub needs-requires : goal.needs-requires
unfolding needs
needs-requires c = rw c.entry_fields.ensures (entry_needs c.args.self.word.now _ _ c.args.self.short (omega arith) (omega arith))

pub returns : goal.returns
unfolding needs
returns c = c.needs.ensures ∙ rw (c.entry_fields.ensures, c.from.ensures) refl
