use Rattle.cycle_test.proofs.Thins.{marked_none, marked_next, marked_end}
use Rattle.std.proofs.Common.{refl, arith}
use Rattle.cycle_test.proofs.mark.Goals as goal

pub loop-a-init : goal.loop-a-init
loop-a-init c = marked_none _ refl

pub bounds-left-from : goal.bounds-left-from
bounds-left-from c = rw c.from.ensures (c.requires.low _ (omega arith))

pub loop-a-preserved : goal.loop-a-preserved
loop-a-preserved c = marked_next _ c.from.ensures (rw c.from.ensures (c.requires.low _ (omega arith))) c.loop-a.invariant

pub returns : goal.returns
returns c = marked_end _ (omega arith) c.loop-a.invariant
