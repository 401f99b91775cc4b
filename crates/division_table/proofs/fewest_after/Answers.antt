use Prim.Native.Nat.{◌+◌, ◌-◌}
use mathlib.Core.Path.{◌≡◌}
use native.Mathlib.Omega.{arith}
use Rattle.folds.proofs.Cases.{either}
use Rattle.division_table.proofs.Fills.{from_none, from_room, from_turn}
use Rattle.division_table.proofs.fewest_after.Goals as goal

pub loop-y-init : goal.loop-y-init
loop-y-init c = (omega arith, from_none _ _ _ (omega arith))

pub take-requires : goal.take-requires
take-requires c = let q : c.loop-y.y ≡ (c.loop-y.y - 1) + 1 = omega arith in (omega arith, omega (arith, c.requires.1, from_room (c.loop-y.y - 1) (rw q at c.loop-y.invariant.1)))

pub loop-y-preserved : goal.loop-y-preserved
loop-y-preserved c =
    let q : c.loop-y.y ≡ (c.loop-y.y - 1) + 1 = omega arith in
    let P = rw q at c.loop-y.invariant.1 in
    (either c.take.ensures (λ a. omega (arith, a.2)) (λ a. omega (arith, a.2)), from_turn (c.loop-y.y - 1) P c.requires.0 c.take.ensures)
