use Rattle.neighbours.proofs.Known.{swept_none, swept_turn}
use Rattle.neighbours.proofs.sweep.Goals as goal

pub loop-j-init : goal.loop-j-init
loop-j-init c = swept_none _ _ _ _

pub loop-j-preserved : goal.loop-j-preserved
loop-j-preserved c = rw (c.min.ensures, c.max.ensures) (swept_turn _ _ _ _ _ _ c.end_at-a.ensures.is c.end_at-b.ensures.is c.loop-j.invariant)
