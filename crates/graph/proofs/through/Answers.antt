use Rattle.std.proofs.Common.{◌≡◌, length, get_or, ap, arith}
use Rattle.folds.proofs.Slices.{filled_none, filled_turn, filled_end}
use Rattle.graph.specs.Graph.{through}
use Rattle.graph.proofs.through.Goals as goal

pub loop-v-init : goal.loop-v-init
loop-v-init c = filled_none _ _

pub loop-v-preserved : goal.loop-v-preserved
loop-v-preserved c = filled_turn c.loop-v.invariant (ap (λ (x : _). get_or c.args.table.now x 0) c.from.ensures) (omega (arith, c.requires.table_len, c.loop-v.invariant.same))

pub returns : goal.returns
unfolding through
returns c = let e : c.loop-v.v ≡ length c.args.row.now = omega arith in filled_end (rw e at c.loop-v.invariant)
