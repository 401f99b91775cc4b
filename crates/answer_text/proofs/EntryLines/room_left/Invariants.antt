-- Invariant: the lines before line n take what is no longer left.
use Rattle.std.proofs.Common.{◌+◌, ◌≡◌}
use Rattle.line_forms.specs.Form.{needs_all}
use Rattle.answer_text.specs.Forms.{entry_form}
use Rattle.answer_text.proofs.Entries.{rows_from}
use Rattle.answer_text.proofs.EntryLines.room_left.Given as goal

abbrev pub invariant-loop-n : goal.invariant-loop-n
invariant-loop-n l = l.size + needs_all (entry_form l.self.word.now) (rows_from (entry_form l.self.word.now) l.self.entries.now l.n) ≡ l.left + needs_all (entry_form l.self.word.now) (rows_from (entry_form l.self.word.now) l.self.entries.now 0)
