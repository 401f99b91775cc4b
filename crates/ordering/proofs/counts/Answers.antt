use Rattle.ordering.proofs.Waiting.{left_le, left_is}
use Rattle.ordering.specs.Counts.{left}
use Rattle.folds.proofs.Sums.{sum_to_zero, sum_to_turn, sum_to_le}
use Rattle.folds.proofs.Lists.{set_add}
use Rattle.graph.specs.Lent.{arcs_in}
use Rattle.std.proofs.Common.{not, eqb}
use Rattle.folds.proofs.Cases.{bit_few}
use Rattle.folds.specs.Fold.{zeros}
use lib.ListN.{length, length-set, get_or-replicate}
use native.Mathlib.Omega.{arith}
use mathlib.Core.Path.{◌≡◌, refl, sym, ◌∙◌}
use Rattle.ordering.proofs.counts.Goals as goal

pub loop-j-init : goal.loop-j-init
loop-j-init c = (refl, λ v l. get_or-replicate 512 v 0 0 l ∙ sym (sum_to_zero _))

pub overflow_add-count : goal.overflow_add-count
overflow_add-count c = omega (arith, c.from.ensures, bit_few (not (eqb c.end_at-a.result c.end_at-b.result)), c.loop-j.invariant.1 c.end_at-b.result c.end_at-b.ensures.low, c.args.edges.ended.from.few, sum_to_le c.loop-j.j 1 (left (arcs_in c.args.edges) (zeros 512) c.end_at-b.result) (left_le _ _ _))

pub loop-j-preserved : goal.loop-j-preserved
loop-j-preserved c = (length-set c.loop-j.count _ _ ∙ c.loop-j.invariant.0, λ v lv. set_add c.loop-j.count c.end_at-b.result _ v (omega (arith, c.loop-j.invariant.0, c.end_at-b.ensures.low)) ∙ sum_to_turn (left _ (zeros 512) v) (c.loop-j.invariant.1 v lv) (left_is _ v _ c.end_at-a.ensures.is c.end_at-b.ensures.is c.from.ensures))

pub returns : goal.returns
returns c = let q : c.loop-j.j ≡ length c.args.edges.starts.now = omega arith in record { tall = c.loop-j.invariant.0; is = rw q at c.loop-j.invariant.1 }
