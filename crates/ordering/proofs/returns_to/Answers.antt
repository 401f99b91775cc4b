use Rattle.ordering.proofs.Searching.{queued_none, queued_few, queued_low, searched_first, searched_turn, searched_end}
use Rattle.folds.specs.Fold.{zeros}
use mathlib.Core.Path.{refl}
use mathlib.Core.Logic.{inl, inr}
use borrow.Author.Rules.{rules}
use Rattle.ordering.proofs.returns_to.Goals as goal

pub spread-requires : goal.spread-requires
unfolding zeros
spread-requires c = record {
  queued = queued_none _ _;
  u_bound = (c.requires, inl refl);
}

pub loop-i-init : goal.loop-i-init
unfolding zeros
loop-i-init c = searched_first c.spread.ensures

pub offset_bounds-reached-i : goal.offset_bounds-reached-i
unfolding zeros
offset_bounds-reached-i c = let f = queued_few c.loop-i.invariant.now in search rules

pub bounds-reached-i : goal.bounds-reached-i
unfolding zeros
bounds-reached-i c = let f = queued_few c.loop-i.invariant.now in search rules

pub spread-requires-in-loop-i : goal.spread-requires-in-loop-i
unfolding zeros
spread-requires-in-loop-i c = record {
  queued = c.loop-i.invariant.now;
  u_bound = (rw c.from-u.ensures (queued_low c.loop-i.invariant.now c.loop-i-test.true), inr (rw c.from-u.ensures (c.loop-i.invariant.now.entries _ c.loop-i-test.true)));
}

pub overflow_add-i : goal.overflow_add-i
unfolding zeros
overflow_add-i c = let f = queued_few c.loop-i.invariant.now in search rules

pub loop-i-smaller : goal.loop-i-smaller
unfolding zeros
loop-i-smaller c = let f = queued_few c.loop-i.invariant.now in search rules

pub loop-i-preserved : goal.loop-i-preserved
unfolding zeros
loop-i-preserved c = searched_turn c.loop-i.invariant c.loop-i-test.true c.from-u.ensures c.spread-in-loop-i.ensures

pub returns : goal.returns
unfolding zeros
returns c = searched_end c.args.clusters.inside c.loop-i.invariant c.loop-i-test.false
