use Rattle.graph.specs.Graph.{cut}
use Rattle.folds.proofs.Sums.{sum_to_zero, sum_to_turn, sum_to_end}
use Rattle.std.proofs.Common.{arith, sym}
use Rattle.graph.proofs.cut_of.Goals as goal

pub loop-j-init : goal.loop-j-init
loop-j-init c = (omega arith, sym (sum_to_zero _))

pub loop-j-preserved : goal.loop-j-preserved
loop-j-preserved c = (omega (arith, c.loop-j.invariant.0, c.crossing-sum.ensures.low), sum_to_turn _ c.loop-j.invariant.1 c.crossing-sum.ensures.is)

pub returns : goal.returns
unfolding cut
returns c = sum_to_end _ (omega arith) (omega arith) c.loop-j.invariant.1
