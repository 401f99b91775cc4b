use Rattle.neighbours.proofs.Known.{staled_turn}
use Rattle.graph.proofs.Links.{walk_next}
use mathlib.Core.Path.{refl}
use Rattle.neighbours.proofs.mark_far.Goals as goal

pub loop-j-preserved : goal.loop-j-preserved
loop-j-preserved c = (
  refl,
  rw c.from-j-in-loop-j.ensures (walk_next c.args.side.linked _ _ c.loop-j.invariant.1 c.loop-j-test.true),
  rw c.from-j-in-loop-j.ensures (staled_turn _ _ c.args.side.linked _ _ _ _ _ c.loop-j.j c.loop-j.invariant.1 c.loop-j-test.true c.end_at-c.ensures.is c.end_at-c.ensures.low c.restaled.ensures c.loop-j.invariant.2),
)
