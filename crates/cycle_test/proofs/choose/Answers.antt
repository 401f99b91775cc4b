use Rattle.cycle_test.proofs.Thins.{picking_none, picking_next, picking_end}
use Rattle.std.proofs.Common.{◌<◌, arith}
use Rattle.folds.proofs.Cases.{bit_few}
use Rattle.cycle_test.proofs.choose.Goals as goal

pub loop-j-init : goal.loop-j-init
loop-j-init c = picking_none _ _ (omega arith)

pub overflow_cast-picked : goal.overflow_cast-picked
overflow_cast-picked c = omega (arith, c.requires.few)

pub offset_bounds-picked-t : goal.offset_bounds-picked-t
offset_bounds-picked-t c = omega (arith, c.requires.few, c.loop-j.invariant.few)

pub bounds-picked-t : goal.bounds-picked-t
bounds-picked-t c = omega (arith, c.requires.few, c.loop-j.invariant.few)

pub overflow_add-t : goal.overflow_add-t
overflow_add-t c = omega (arith, c.requires.few, c.loop-j.invariant.few, c.from-t.ensures, bit_few)

pub loop-j-preserved : goal.loop-j-preserved
loop-j-preserved c =
    let few : c.loop-j.j < 1024 = omega (arith, c.requires.few) in
    picking_next _ _ few c.end_at-b.ensures.is c.from-t.ensures c.loop-j.invariant

pub returns : goal.returns
returns c = picking_end _ _ (omega arith) (omega arith) c.loop-j.invariant
