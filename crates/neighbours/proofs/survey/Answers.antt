-- The numbers by all edges, and the marks by the numbers.
use Rattle.neighbours.proofs.Known.{known_new}
use Rattle.neighbours.proofs.survey.Goals as goal

pub returns : goal.returns
returns c = let (l, h) = c.mark_open.ensures.same in known_new {g = c.args.g} (rw (l, h) c.sweep.ensures) (rw (l, h) c.mark_open.ensures.opened)
