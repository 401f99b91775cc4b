use Rattle.std.proofs.Common.{arith}
use Rattle.answer_text.specs.Forms.{entry_form}
use Rattle.answer_text.proofs.Entries.{needs_step, needs_end}
use Rattle.answer_text.proofs.EntryLines.room_left.Goals as goal

pub returns-then-left-need : goal.returns-then-left-need
returns-then-left-need c = omega (arith, c.loop-n.invariant, needs_step (entry_form c.args.self.word.now) c.args.self.entries.now c.loop-n.n c.loop-n-test.true, c.length_at-need.ensures)

pub loop-n-preserved : goal.loop-n-preserved
loop-n-preserved c = omega (arith, c.loop-n.invariant, needs_step (entry_form c.args.self.word.now) c.args.self.entries.now c.loop-n.n c.loop-n-test.true, c.length_at-need.ensures)

pub returns : goal.returns
returns c = omega (arith, c.loop-n.invariant, needs_end (entry_form c.args.self.word.now) c.args.self.entries.now c.loop-n.n c.loop-n-test.false)
