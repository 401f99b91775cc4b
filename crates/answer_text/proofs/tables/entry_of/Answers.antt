-- A line of the form whose first number is the entry's own.
use Rattle.std.proofs.Common.{sym}
use Rattle.answer_text.proofs.Saved.{entry_missed, entry_other, entry_found}
use Rattle.answer_text.proofs.tables.entry_of.Goals as goal

pub returns-in_err-line : goal.returns-in_err-line
returns-in_err-line c = rw c.from_residual.ensures (entry_missed _ _ _ (sym c.in_err-line.ensures))

pub returns-then-line-n : goal.returns-then-line-n
returns-then-line-n c = entry_other _ _ _ (sym c.in_ok-line.ensures) c.if-line-n.true

pub returns : goal.returns
returns c = entry_found _ _ _ (sym c.in_ok-line.ensures) c.if-line-n.false
