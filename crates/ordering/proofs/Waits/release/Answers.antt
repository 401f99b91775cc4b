use Rattle.ordering.proofs.Waiting.{released_none, released_room, released_turn}
use Rattle.ordering.proofs.Sweeps.{raised_none, raised_turn}
use Rattle.graph.proofs.Links.{walk_on, walk_next, walk_less, on_end}
use native.Mathlib.Omega.{arith}
use mathlib.Core.Path.{refl}
use Rattle.ordering.proofs.Waits.release.Goals as goal

pub overflow_add-x : goal.overflow_add-x
overflow_add-x c = omega (arith, c.requires.u_bound.1)

pub loop-j-init : goal.loop-j-init
loop-j-init c = (rw c.first-j.ensures (walk_on c.args.clusters.links.linked _ c.requires.u_bound.0), rw c.first-j.ensures (released_none _ c.args.clusters.links.linked _ _ _ _ c.requires.u_bound.0 (omega arith)), rw c.first-j.ensures (raised_none _ c.args.clusters.links.linked c.requires.u_bound.0 (omega arith)))

pub pass-requires : goal.pass-requires
pass-requires c = record {
  b_bound = c.end_at-b.ensures.low;
  nonzero = released_room _ c.args.clusters.links.linked _ _ _ _ c.requires.u_bound.0 c.loop-j.j _ _ _ c.requires.by_index c.loop-j.invariant.0 c.loop-j-test.true c.end_at-b.ensures.is c.end_at-b.ensures.low c.loop-j.invariant.1;
}

pub lift-requires : goal.lift-requires
lift-requires c = c.end_at-b.ensures.low

pub loop-j-smaller : goal.loop-j-smaller
loop-j-smaller c = omega (arith, c.after-j.ensures, walk_less c.args.clusters.links.linked c.loop-j.j c.loop-j-test.true)

pub loop-j-preserved : goal.loop-j-preserved
loop-j-preserved c = (rw c.after-j.ensures (walk_next c.args.clusters.links.linked _ _ c.loop-j.invariant.0 c.loop-j-test.true), rw c.after-j.ensures (released_turn _ c.args.clusters.links.linked _ _ _ _ c.requires.u_bound.0 c.loop-j.j _ _ _ _ _ c.loop-j.invariant.0 c.loop-j-test.true c.end_at-b.ensures.is c.pass.ensures c.loop-j.invariant.1), rw (c.after-j.ensures, c.lift.ensures) (raised_turn _ c.args.clusters.links.linked c.requires.u_bound.0 refl c.loop-j.invariant.0 c.loop-j-test.true c.end_at-b.ensures.is c.end_at-b.ensures.low c.loop-j.invariant.2))

pub returns : goal.returns
returns c = let e = on_end c.loop-j.invariant.0 c.loop-j-test.false in
    record {
      released = rw e at c.loop-j.invariant.1;
      raised = rw e at c.loop-j.invariant.2;
    }
