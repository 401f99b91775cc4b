use Rattle.answer_text.proofs.Entries.{putting_start, putting_room, putting_turn, putting_end}
use Rattle.answer_text.proofs.EntryLines.put.Goals as goal

pub loop-n-init : goal.loop-n-init
loop-n-init c = putting_start _ _ _ _

pub put_at-i-requires : goal.put_at-i-requires
put_at-i-requires c = putting_room _ _ c.loop-n.invariant c.requires c.loop-n-test.true

pub loop-n-preserved : goal.loop-n-preserved
loop-n-preserved c = putting_turn _ _ c.loop-n.invariant c.requires c.loop-n-test.true c.put_at-i.ensures

pub returns : goal.returns
returns c = putting_end _ _ c.loop-n.invariant c.requires c.loop-n-test.false
