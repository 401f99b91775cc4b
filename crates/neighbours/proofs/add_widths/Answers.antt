use Rattle.neighbours.proofs.Laws.{added_on, added_room, added_turn}
use Rattle.graph.proofs.Links.{walk_on, walk_next}
use native.Mathlib.Omega.{arith}
use mathlib.Core.Path.{refl}
use Rattle.neighbours.proofs.add_widths.Goals as goal

pub loop-j-init : goal.loop-j-init
loop-j-init c = (refl, rw c.from-j.ensures (walk_on c.args.side.linked _ c.requires.h_bound), rw c.from-j.ensures (added_on _ _ _ _ _ c.args.side.linked _ c.requires.h_bound c.requires.sums_room.long))

pub overflow_add-toward : goal.overflow_add-toward
overflow_add-toward c = omega (arith, added_room _ _ _ _ _ c.args.side.linked _ c.loop-j.j _ c.loop-j.invariant.1 c.loop-j-test.true c.loop-j.invariant.2 c.requires.sums_room c.requires.listed.narrow c.part_at-p.result c.part_at-p.ensures.low)

pub loop-j-preserved : goal.loop-j-preserved
loop-j-preserved c = (
  refl,
  rw c.from-j-in-loop-j.ensures (walk_next c.args.side.linked _ _ c.loop-j.invariant.1 c.loop-j-test.true),
  rw c.from-j-in-loop-j.ensures (added_turn _ _ _ _ _ c.args.side.linked _ c.loop-j.j _ c.loop-j.invariant.1 c.loop-j-test.true c.loop-j.invariant.2 _ _ _ c.end_at.ensures.is c.part_at-p.ensures.is c.part_at-p.ensures.low refl),
)
