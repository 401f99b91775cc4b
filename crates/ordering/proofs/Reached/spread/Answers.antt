use Rattle.ordering.proofs.Searching.{spread_none, spread_turn, spread_walk}
use Rattle.graph.proofs.Links.{walk_on, walk_next, walk_less, on_end}
use native.Mathlib.Omega.{arith}
use mathlib.Core.Path.{refl}
use Rattle.ordering.proofs.Reached.spread.Goals as goal

pub loop-j-init : goal.loop-j-init
loop-j-init c = (rw c.first-j.ensures (walk_on c.args.links.linked _ c.requires.u_bound.0), rw c.first-j.ensures (spread_none c.args.links.linked c.requires.queued c.requires.u_bound.0))

pub enter-requires : goal.enter-requires
enter-requires c = record {
  queued = c.loop-j.invariant.1.now;
  b_bound = c.end_at-b.ensures.low;
  walk = spread_walk c.args.links.linked c.requires.u_bound.1 c.loop-j.invariant.1 refl c.loop-j.invariant.0 c.loop-j-test.true c.requires.u_bound.0 c.end_at-b.ensures.is;
}

pub loop-j-smaller : goal.loop-j-smaller
loop-j-smaller c = omega (arith, c.after-j.ensures, walk_less c.args.links.linked c.loop-j.j c.loop-j-test.true)

pub loop-j-preserved : goal.loop-j-preserved
loop-j-preserved c = (rw c.after-j.ensures (walk_next c.args.links.linked _ _ c.loop-j.invariant.0 c.loop-j-test.true), rw c.after-j.ensures (spread_turn c.args.links.linked c.loop-j.invariant.1 c.loop-j.invariant.0 c.loop-j-test.true c.end_at-b.ensures.is c.enter.ensures))

pub returns : goal.returns
returns c = rw (on_end c.loop-j.invariant.0 c.loop-j-test.false) at c.loop-j.invariant.1
