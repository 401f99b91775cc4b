use native.Mathlib.Omega.{arith}
use mathlib.Core.Path.{refl}
use Rattle.matching_scan.proofs.Loops.{offer_at, widest_none, widest_turn}
use Rattle.graph.proofs.Links.{walk_on, walk_next, walk_less, on_end}
use Rattle.matching_scan.proofs.Scan.choose.Goals as goal

pub loop-j-init : goal.loop-j-init
loop-j-init c = (refl, rw c.first-j.ensures (walk_on c.args.self.links.linked _ c.requires.u_bound), rw c.first-j.ensures (widest_none _ _ _ c.args.self.links.linked c.requires.u_bound 512))

pub bounds-self-j : goal.bounds-self-j
bounds-self-j c = omega (arith, c.args.self.measured, c.loop-j.invariant.0, c.loop-j-test.true)

pub improve-best-requires : goal.improve-best-requires
improve-best-requires c = (c.requires.u_bound, c.end_at-b.ensures.low)

pub loop-j-smaller : goal.loop-j-smaller
loop-j-smaller c = omega (arith, c.after-j.ensures, walk_less c.args.self.links.linked c.loop-j.j c.loop-j-test.true)

pub loop-j-preserved : goal.loop-j-preserved
loop-j-preserved c = (refl, rw c.after-j.ensures (walk_next c.args.self.links.linked _ _ c.loop-j.invariant.1 c.loop-j-test.true), rw c.after-j.ensures (widest_turn _ _ _ c.args.self.links.linked c.loop-j.invariant.1 c.loop-j-test.true c.end_at-b.ensures.is c.end_at-b.ensures.low (offer_at _ _ _ _ _ _ _ _ c.loop-j-test.true (c.loop-j.invariant.1.at c.loop-j-test.true) c.requires.u_bound c.args.self.single c.end_at-b.ensures.is c.requires.total_value refl) c.improve-best.ensures c.loop-j.invariant.2))

pub returns-then-best-eq0 : goal.returns-then-best-eq0
returns-then-best-eq0 c = (c.loop-j.best.to, rw (on_end c.loop-j.invariant.1 c.loop-j-test.false, c.if-best-eq0.true) at c.loop-j.invariant.2)

pub returns-else-best-eq0 : goal.returns-else-best-eq0
returns-else-best-eq0 c = (omega arith, rw (on_end c.loop-j.invariant.1 c.loop-j-test.false) at c.loop-j.invariant.2)
