-- The parts are the second numbers of the entries' lines.
use Rattle.std.proofs.Common.{rules}
use Rattle.line_forms.proofs.Rows.{entry_most_numbered}
use Rattle.answer_text.specs.Forms.{entry_form, block_word}
use Rattle.answer_text.specs.Tables.{entry_rows}
use Rattle.answer_text.proofs.Saved.{entry_clear, entry_reads}
use Rattle.answer_text.proofs.tables.write_parts.Goals as goal

pub write_entries-requires-clause-low : goal.write_entries-requires-clause-low
write_entries-requires-clause-low c = λ n i v j p. entry_most_numbered (entry_form block_word) entry_clear c.args.text.now n i 1 v j (search rules)

pub returns : goal.returns
unfolding entry_rows
returns c = c.write_entries.ensures _ _ _ 1 (entry_reads _) (λ n i r l p. search rules) c.requires
