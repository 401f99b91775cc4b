-- The costs of the vertices below v are in the sums of their keys.
use Rattle.graph.specs.Totals.{Totals}
use lib.ListN.{length}
use Rattle.graph.proofs.sum_costs.Given as goal

abbrev pub invariant-loop-v : goal.invariant-loop-v
invariant-loop-v l = Totals l.keys l.costs (length l.initial.sums) l.v l.sums
