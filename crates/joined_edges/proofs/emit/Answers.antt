use mathlib.Core.Path.{refl}
use Rattle.joined_edges.proofs.Joins.{writing_none, writing_room, writing_turn, writing_end}
use Rattle.graph.proofs.Links.{walk_on, walk_next}
use Rattle.joined_edges.proofs.emit.Goals as goal

pub loop-j-init : goal.loop-j-init
loop-j-init c = (refl, rw c.from-j.ensures (walk_on c.args.links.linked _ c.requires.u_bound.0), rw c.from-j.ensures (writing_none _ _ _ _ c.args.links.linked c.requires.u_bound.0 c.requires.written c.requires.widths))

pub put-requires : goal.put-requires
put-requires c = (c.requires.u_bound.0, c.cluster-b.ensures.low, writing_room _ _ _ _ c.args.links.linked c.requires.u_bound.0 c.loop-j.invariant.1 c.loop-j-test.true c.args.links.edges.joins.out.few c.loop-j.invariant.2)

pub loop-j-preserved : goal.loop-j-preserved
loop-j-preserved c = (refl, rw c.from-j-in-loop-j.ensures (walk_next c.args.links.linked _ _ c.loop-j.invariant.1 c.loop-j-test.true), rw c.from-j-in-loop-j.ensures (writing_turn _ _ _ _ c.args.links.linked c.requires.u_bound.0 c.requires.u_bound.1 c.loop-j.invariant.1 c.loop-j-test.true c.cluster-b.ensures.is c.cluster-b.ensures.low (writing_room _ _ _ _ c.args.links.linked c.requires.u_bound.0 c.loop-j.invariant.1 c.loop-j-test.true c.args.links.edges.joins.out.few c.loop-j.invariant.2) c.put.ensures c.loop-j.invariant.2))

pub returns : goal.returns
returns c = let (w, z) = writing_end _ _ _ _ c.args.links.linked c.requires.u_bound.0 c.loop-j-test.false c.loop-j.invariant.1.within c.loop-j.invariant.2 in record { written = w; sums_value = z }
