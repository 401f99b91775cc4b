use Rattle.ordering.proofs.Waiting.{first_is, room, counted_next, order_more, order_stop, order_end}
use Rattle.ordering.proofs.Sweeps.{swept_none, swept_turn, swept_end, wrote_next}
use Rattle.topology.proofs.Same.{order_wide}
use Rattle.ordering.proofs.Opens.{none_open, low, first_open, not_taken, settled_next, taken_next}
use Rattle.pool.proofs.Pools.{pool_safe}
use Rattle.folds.proofs.Lists.{get_d_zeros}
use Rattle.folds.proofs.Slices.{wrote_none, wrote_turn, wrote_done}
use Rattle.folds.specs.Fold.{zeros}
use lib.ListN.{set, length-set}
use native.Mathlib.Omega.{arith}
use native.Mathlib.Nat.{sub-zero}
use mathlib.Core.Path.{◌≡◌, refl, sym, ◌∙◌}
use Rattle.ordering.proofs.order_by.Goals as goal

pub loop-n-init : goal.loop-n-init
unfolding zeros
loop-n-init c = record {
  marks = zeros 512;
  tall = refl;
  counted = c.counts.ensures;
  settled = λ v _ n. absurd (n (get_d_zeros 512 v));
  opened = c.gather-waits.ensures;
  wrote = rw (sub-zero, order_wide _ _ 512 c.requires.g_bound.0) (wrote_none _ _);
  swept = swept_none _ _;
}

pub lowest-requires : goal.lowest-requires
lowest-requires c = pool_safe _ _ c.loop-n.invariant.opened

pub returns-in_default : goal.returns-in_default
unfolding zeros
returns-in_default c =
    let none = none_open _ _ _ _ c.requires.g_bound.0 c.loop-n.invariant.opened c.lowest.ensures c.in_default.is in
    let w = wrote_done c.loop-n.invariant.wrote (order_stop _ _ _ _ _ c.loop-n-test.true (first_is _ _ _ c.loop-n.invariant.counted _ _ c.requires.g_bound.0 none) (omega arith)) in
    record {
      value = w.0;
      out_after = w.1;
      levels_after = swept_end _ _ c.requires.inside c.requires.g_bound.0 w.0 c.loop-n.invariant.swept;
    }

pub overflow_cast-out : goal.overflow_cast-out
overflow_cast-out c = omega (arith, low _ _ _ _ c.requires.g_bound.0 c.loop-n.invariant.opened c.lowest.ensures c.in-Some.is)

pub take-requires : goal.take-requires
take-requires c = omega (arith, low _ _ _ _ c.requires.g_bound.0 c.loop-n.invariant.opened c.lowest.ensures c.in-Some.is, c.requires.g_bound.0)

pub release-requires : goal.release-requires
release-requires c =
    let l = low _ _ _ _ c.requires.g_bound.0 c.loop-n.invariant.opened c.lowest.ensures c.in-Some.is in
    let z = not_taken _ _ _ _ c.requires.g_bound.0 c.loop-n.invariant.opened c.lowest.ensures c.in-Some.is in
    record {
      u_bound = (omega (arith, c.requires.g_bound.0, l), omega (arith, c.loop-n.invariant.swept.low c.in-Some.u, c.requires.g_bound.0));
      by_index = room _ _ _ c.loop-n.invariant.counted _ z (omega (arith, c.loop-n.invariant.tall, c.requires.g_bound.0, l));
    }

pub loop-n-preserved : goal.loop-n-preserved
loop-n-preserved c =
    let v = c.loop-n.invariant in
    let small = c.requires.g_bound.0 in
    let d = c.lowest.ensures in
    let e = c.in-Some.is in
    let l = low _ _ _ _ small v.opened d e in
    let z = not_taken _ _ _ _ small v.opened d e in
    let S = settled_next _ _ _ _ small v.opened d e v.settled in
    let m = order_more _ _ _ _ _ c.loop-n-test.true (first_is _ _ _ v.counted _ _ small (first_open _ _ _ _ small v.opened d e)) l in
    record {
      marks = set v.marks c.in-Some.u 1;
      tall = length-set v.marks _ 1 ∙ v.tall;
      counted = counted_next _ _ _ v.counted _ _ _ _ _ z (omega (arith, v.tall, small, l)) c.release.ensures.released;
      settled = λ x h n. omega (arith, S x h n, c.release.ensures.released.is x h);
      opened = c.release.ensures.released.keeps _ S (rw c.take.ensures (taken_next _ _ _ _ small v.opened d e v.tall));
      wrote = wrote_turn v.wrote m (omega (arith, c.requires.g_bound.1, v.wrote.same));
      swept = swept_turn _ _ (omega arith) (wrote_next v.wrote m) v.swept c.release.ensures.raised;
    }

pub returns : goal.returns
unfolding zeros
returns c = let q : c.loop-n.n ≡ c.args.g = omega arith in
    let w = wrote_done c.loop-n.invariant.wrote (order_end _ _ _ _ (omega arith)) in
    record {
      value = sym q ∙ w.0;
      out_after = w.1;
      levels_after = λ _. swept_end _ _ c.requires.inside c.requires.g_bound.0 w.0 c.loop-n.invariant.swept q;
    }
