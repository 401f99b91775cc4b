use Prim.Native.Nat.{◌<◌}
use mathlib.Core.Path.{◌∙◌}
use lib.Seq.{length-take-le, get_or-take}
use native.Mathlib.Omega.{arith}
use Rattle.matching.proofs.Steps.{one_if, rounding_none, rounding_turn, rounding_end, order_low, round_context, ready_joining}
use Rattle.folds.specs.Fold.{zeros}
use Rattle.graph.specs.Graph.{identity}
use Rattle.matching.proofs.round.Goals as goal

pub loop-u-init : goal.loop-u-init
unfolding zeros identity
loop-u-init c = rounding_none _ _ _ _ _ _ (round_context c.requires.round_ready c.requires.cluster_costs.0 c.requires.levels_value) (ready_joining c.requires.round_ready) c.number_entries.ensures

pub visit-requires : goal.visit-requires
unfolding zeros
visit-requires c = let n = length-take-le c.args.g c.args.order.now (omega (arith, c.requires.in_order.long)) in let lt : c.loop-u.u-index < c.args.g = omega (arith, n, c.loop-u-test.true) in (order_low _ _ _ _ _ 0 (round_context c.requires.round_ready c.requires.cluster_costs.0 c.requires.levels_value) (ready_joining c.requires.round_ready) c.requires.in_order lt (c.from.ensures ∙ get_or-take c.args.g c.args.order.now c.loop-u.u-index 0 lt), c.requires.cluster_costs.1)

pub loop-u-preserved : goal.loop-u-preserved
unfolding zeros
loop-u-preserved c = let n = length-take-le c.args.g c.args.order.now (omega (arith, c.requires.in_order.long)) in let lt : c.loop-u.u-index < c.args.g = omega (arith, n, c.loop-u-test.true) in rounding_turn _ _ _ _ _ _ (round_context c.requires.round_ready c.requires.cluster_costs.0 c.requires.levels_value) (ready_joining c.requires.round_ready) c.requires.in_order lt (c.from.ensures ∙ get_or-take c.args.g c.args.order.now c.loop-u.u-index 0 lt) c.loop-u.invariant (rw (one_if _ c.from-count.ensures) at c.visit.ensures)

pub returns : goal.returns
unfolding zeros
returns c = let n = length-take-le c.args.g c.args.order.now (omega (arith, c.requires.in_order.long)) in rounding_end _ _ _ _ _ _ (round_context c.requires.round_ready c.requires.cluster_costs.0 c.requires.levels_value) (ready_joining c.requires.round_ready) (omega (arith, n)) (omega (arith, n)) c.loop-u.invariant
