use mathlib.Core.Path.{◌≡◌, sym}
use native.Mathlib.Omega.{arith}
use Prim.Native.Nat.{◌+◌}
use Rattle.folds.proofs.Parts.{put_none, copy_turn, copy_end}
use Rattle.row_lists.proofs.widen.Goals as goal

pub loop-i-init : goal.loop-i-init
loop-i-init c = sym (put_none _ _)

pub loop-i-preserved : goal.loop-i-preserved
loop-i-preserved c = let z : 0 + c.loop-i.i ≡ c.loop-i.i = omega arith in rw c.from.ensures (rw z at (copy_turn _ c.loop-i.dst 0 c.loop-i.i _ c.loop-i.invariant c.loop-i-test.true (omega (arith, c.requires))))

pub returns-clause-after : goal.returns-clause-after
returns-clause-after c = copy_end _ _ _ c.loop-i.i _ c.loop-i.invariant c.loop-i-test.false
