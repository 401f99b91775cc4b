use Rattle.graph.specs.Graph.{identity}
use Rattle.folds.proofs.Slices.{filled_none, filled_turn, filled_all}
use mathlib.Core.Path.{◌≡◌, refl}
use native.Mathlib.Omega.{arith}
use lib.ListN.{length}
use Rattle.graph.proofs.number_entries.Goals as goal

pub loop-v-init : goal.loop-v-init
unfolding identity
loop-v-init c = filled_none _ _

pub loop-v-preserved : goal.loop-v-preserved
unfolding identity
loop-v-preserved c = filled_turn c.loop-v.invariant refl (omega arith)

pub returns : goal.returns
unfolding identity
returns c = let e : c.loop-v.v ≡ length c.args.row.now = omega arith in rw e at (filled_all c.loop-v.invariant (omega arith))
