-- The lines that the reader of an entry passes.
use Rattle.std.proofs.Common.{rules}
use Rattle.answer_text.proofs.Saved.{entry_reads}
use Rattle.answer_text.proofs.tables.entry_lines.Goals as goal

pub returns : goal.returns
returns c = c.run_of.ensures _ _ _ (entry_reads _) (λ n i r l p. search rules)
