use Rattle.graph.proofs.Totals.{count_none, count_turn}
use Rattle.graph.specs.Rows.{clusters}
use Rattle.std.proofs.Common.{◌≡◌, length, arith}
use Rattle.graph.proofs.cluster_count.Goals as goal

pub loop-c-init : goal.loop-c-init
loop-c-init c = count_none _

pub loop-c-preserved : goal.loop-c-preserved
loop-c-preserved c = count_turn _ _ c.loop-c.invariant c.from.ensures c.max-count.ensures

pub returns : goal.returns
unfolding clusters
returns c = let q : c.loop-c.c-index ≡ length c.args.row.now = omega arith in rw q at c.loop-c.invariant
