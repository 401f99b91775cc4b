use Rattle.neighbours.proofs.Known.{opened_none}
use mathlib.Core.Path.{refl}
use Rattle.neighbours.proofs.mark_open.Goals as goal

pub loop-c-init : goal.loop-c-init
loop-c-init c = (opened_none _ _ _ _, refl, refl)
