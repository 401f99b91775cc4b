use Rattle.graph.proofs.Links.{walk_on, walk_next, walk_less, on_end}
use Rattle.matching_scan.proofs.Loops.{blocking_none, blocking_turn}
use mathlib.Core.Path.{refl}
use native.Mathlib.Omega.{arith}
use Rattle.matching_scan.proofs.block.Goals as goal

pub loop-j-init : goal.loop-j-init
loop-j-init c = (refl, rw c.first-j.ensures (walk_on c.args.links.linked _ c.requires), rw c.first-j.ensures (blocking_none _ _ _ c.args.links.linked c.requires (omega arith)))

pub loop-j-smaller : goal.loop-j-smaller
loop-j-smaller c = omega (arith, c.after-j.ensures, walk_less c.args.links.linked c.loop-j.j c.loop-j-test.true)

pub loop-j-preserved : goal.loop-j-preserved
loop-j-preserved c = (refl, rw c.after-j.ensures (walk_next c.args.links.linked _ _ c.loop-j.invariant.1 c.loop-j-test.true), rw (c.after-j.ensures, c.mark_next.ensures) (blocking_turn _ _ _ c.args.links.linked c.loop-j.invariant.1 c.loop-j-test.true c.requires refl c.end_at-b.ensures.is c.end_at-b.ensures.low c.loop-j.invariant.2))

pub returns : goal.returns
returns c = rw (on_end c.loop-j.invariant.1 c.loop-j-test.false) at c.loop-j.invariant.2
