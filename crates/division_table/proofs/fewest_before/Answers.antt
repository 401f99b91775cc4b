use native.Mathlib.Omega.{arith}
use Rattle.folds.proofs.Cases.{either}
use Rattle.division_table.proofs.Fills.{below_first, below_room, below_turn}
use Rattle.division_table.proofs.fewest_before.Goals as goal

pub loop-x-init : goal.loop-x-init
loop-x-init c = (omega arith, below_first _ _ c.args.before.now (omega arith) (omega arith))

pub take-requires : goal.take-requires
take-requires c = (omega arith, omega (arith, c.requires.1, below_room c.loop-x.invariant.1 c.loop-x-test.true))

pub loop-x-preserved : goal.loop-x-preserved
loop-x-preserved c = (either c.take.ensures (λ a. omega (arith, a.2)) (λ a. omega (arith, a.2)), below_turn c.loop-x.invariant.1 (omega arith) c.take.ensures)
