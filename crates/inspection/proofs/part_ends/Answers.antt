use Rattle.folds.proofs.Slices.{filled_none, filled_turn}
use lib.ListN.{length}
use native.Mathlib.Omega.{arith}
use mathlib.Core.Path.{◌≡◌}
use Rattle.inspection.proofs.part_ends.Goals as goal

pub loop-j-init : goal.loop-j-init
loop-j-init c = (omega arith, filled_none _ _)

pub loop-j-preserved : goal.loop-j-preserved
loop-j-preserved c = (omega arith, filled_turn c.loop-j.invariant.1 c.cluster.ensures.is (omega (arith, c.loop-j.invariant.1.same)))

pub returns : goal.returns
returns c = let q : c.loop-j.j ≡ length c.args.ends.now = omega arith in rw q at c.loop-j.invariant.1
