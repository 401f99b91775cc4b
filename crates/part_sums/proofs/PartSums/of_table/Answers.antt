-- The sums of the costs by part.
use Rattle.graph.proofs.Totals.{totals_cost}
use mathlib.Core.Path.{refl}
use Rattle.part_sums.proofs.PartSums.of_table.Goals as goal

pub returns : goal.returns
returns c = record { counts = refl; long = c.sum_costs.ensures.long; is = totals_cost _ _ c.sum_costs.ensures }
