-- Invariant: the lines before line n are written, and i is the place past them.
use Rattle.answer_text.specs.Forms.{entry_form}
use Rattle.answer_text.proofs.Entries.{Putting}
use Rattle.answer_text.proofs.EntryLines.put.Given as goal

abbrev pub invariant-loop-n : goal.invariant-loop-n
invariant-loop-n l = Putting (entry_form l.self.word.now) l.self.entries.now l.initial.buf l.at l.buf l.i l.n
