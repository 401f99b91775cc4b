use native.Mathlib.Omega.{arith}
use mathlib.Core.Path.{refl}
use Rattle.joined_edges.proofs.Joins.{sums_room, widths_none, widths_turn}
use Rattle.graph.proofs.Links.{walk_on, walk_next, on_end}
use Rattle.joined_edges.proofs.add_widths.Goals as goal

pub loop-j-init : goal.loop-j-init
loop-j-init c = (refl, rw c.from-j.ensures (walk_on c.args.links.linked _ c.requires.u_bound), rw c.from-j.ensures (widths_none _ _ _ c.args.links.linked c.requires.u_bound c.requires.sums_value))

pub overflow_add-sums : goal.overflow_add-sums
overflow_add-sums c = omega (arith, sums_room _ _ _ c.loop-j.invariant.2 c.cluster-b.ensures.low (omega (arith, c.args.links.edges.measured, c.loop-j.invariant.0, c.loop-j-test.true)) c.args.links.edges.narrow)

pub loop-j-preserved : goal.loop-j-preserved
loop-j-preserved c = (refl, rw c.from-j-in-loop-j.ensures (walk_next c.args.links.linked _ _ c.loop-j.invariant.1 c.loop-j-test.true), rw c.from-j-in-loop-j.ensures (widths_turn _ _ _ c.args.links.linked c.requires.u_bound c.loop-j.invariant.1 c.loop-j-test.true c.cluster-b.ensures.is c.cluster-b.ensures.low c.loop-j.invariant.2))

pub returns : goal.returns
returns c = rw (on_end c.loop-j.invariant.1 c.loop-j-test.false) at c.loop-j.invariant.2
