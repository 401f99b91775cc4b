-- an unmarked one other than u is marked and queued, and the queue has room for it
use Rattle.ordering.proofs.Searching.{entered_same, entered_old, entered_new, queue_room}
use Rattle.std.proofs.Common.{arith}
use Rattle.ordering.proofs.Reached.enter.Goals as goal

pub returns-then-b-u : goal.returns-then-b-u
returns-then-b-u c = search entered_same

pub returns-then-self-b : goal.returns-then-self-b
returns-then-self-b c = search entered_old

pub offset_bounds-self-self : goal.offset_bounds-self-self
offset_bounds-self-self c = omega (arith, queue_room c.requires.queued c.requires.b_bound c.if-self-b.false)

pub bounds-self-self : goal.bounds-self-self
bounds-self-self c = omega (arith, queue_room c.requires.queued c.requires.b_bound c.if-self-b.false)

pub overflow_add-self : goal.overflow_add-self
overflow_add-self c = omega (arith, queue_room c.requires.queued c.requires.b_bound c.if-self-b.false)

pub returns : goal.returns
returns c = search entered_new
