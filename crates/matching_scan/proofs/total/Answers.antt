use native.Mathlib.Omega.{arith}
use mathlib.Core.Path.{refl}
use Rattle.matching_scan.proofs.Loops.{total_room, total_none, total_turn}
use Rattle.graph.proofs.Links.{walk_on, walk_next, on_end}
use Rattle.matching_scan.proofs.total.Goals as goal

pub loop-j-init : goal.loop-j-init
loop-j-init c = (refl, rw c.first-j.ensures (walk_on c.args.links.linked _ c.requires.0), rw c.first-j.ensures (total_none _ _ _ c.args.links.linked c.requires.0))

pub overflow_add-sum : goal.overflow_add-sum
overflow_add-sum c = omega (arith, total_room _ _ _ c.loop-j.invariant.2 (omega (arith, c.requires.1, c.loop-j.invariant.0, c.loop-j-test.true)) c.requires.2)

pub loop-j-preserved : goal.loop-j-preserved
loop-j-preserved c = (refl, rw c.after-j.ensures (walk_next c.args.links.linked _ _ c.loop-j.invariant.1 c.loop-j-test.true), rw c.after-j.ensures (total_turn _ _ _ c.args.links.linked c.requires.0 c.loop-j.invariant.1 c.loop-j-test.true c.loop-j.invariant.2))

pub returns : goal.returns
returns c = rw (on_end c.loop-j.invariant.1 c.loop-j-test.false) at c.loop-j.invariant.2
