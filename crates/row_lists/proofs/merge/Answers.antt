use native.Mathlib.Omega.{arith}
use mathlib.Core.Path.{◌≡◌}
use Rattle.row_lists.proofs.Merging.{merged_none, merged_turn, merged_room}
use Rattle.folds.specs.Fold.{zeros}
use Rattle.row_lists.proofs.merge.Goals as goal

pub loop-c-init : goal.loop-c-init
unfolding zeros
loop-c-init c = merged_none _ _

pub overflow_add-weights : goal.overflow_add-weights
unfolding zeros
overflow_add-weights c = omega (arith, merged_room c.from-d.result c.loop-c.invariant c.loop-c-test.true c.requires)

pub loop-c-preserved : goal.loop-c-preserved
unfolding zeros
loop-c-preserved c = merged_turn c.loop-c.invariant c.from-d.ensures (omega (arith, c.from-d.ensures, c.args.names.maps.below _ c.loop-c-test.true, c.args.names.maps.low))

pub returns : goal.returns
unfolding zeros
returns c = let e : c.loop-c.c ≡ c.args.names.before = omega arith in rw e at c.loop-c.invariant
