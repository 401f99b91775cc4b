-- The head line alone is too long, or the entries do not fit what it leaves.
use Rattle.answer_text.proofs.Buffer.{head_over, room_none}
use Rattle.answer_text.proofs.EntryLines.is_over.Goals as goal

pub returns-then-size-head : goal.returns-then-size-head
returns-then-size-head c = head_over _ _ _ c.if-size-head.true

pub returns : goal.returns
returns c = room_none _ _ _ _ _ c.if-size-head.false c.room_left.ensures c.is_none.ensures
