use native.Mathlib.Omega.{arith}
use Rattle.folds.proofs.Slices.{filled_none, filled_turn}
use Rattle.folds.specs.Fold.{zeros}
use Rattle.contraction.proofs.Naming.{numbering_none, numbering_low, name_turn, name_at, cluster_low, joined_end, mapped_none, mapped_turn, renamed_end}
use Rattle.contraction.proofs.next_row.Goals as goal

pub loop-v-init : goal.loop-v-init
unfolding zeros
loop-v-init c = (numbering_none _ _, filled_none _ _, mapped_none _ _)

pub name-count-requires : goal.name-count-requires
unfolding zeros
name-count-requires c = record {
  mated = (c.requires.short.1, rw c.from-c.ensures (c.requires.short.0.low _ c.loop-v-test.true));
  count_bound = omega (arith, numbering_low c.loop-v.invariant.0, c.requires.short.0.few);
}

pub bounds-map-c : goal.bounds-map-c
unfolding zeros
bounds-map-c c = cluster_low _ _ c.requires.short.0 c.requires.short.1 c.loop-v-test.true c.from-c.ensures

pub loop-v-preserved : goal.loop-v-preserved
unfolding zeros
loop-v-preserved c = let N = name_turn _ _ c.requires.short.0 c.requires.short.1 c.loop-v-test.true c.from-c.ensures c.loop-v.invariant.0 c.name-count.ensures in (N, filled_turn c.loop-v.invariant.1 (omega (arith, name_at _ _ c.requires.short.0 c.requires.short.1 c.loop-v-test.true c.from-c.ensures N)) (omega (arith, c.loop-v.invariant.1, c.requires.short.0.few)), mapped_turn c.loop-v.invariant.2 c.from-c.ensures (cluster_low _ _ c.requires.short.0 c.requires.short.1 c.loop-v-test.true c.from-c.ensures) (omega (arith, name_at _ _ c.requires.short.0 c.requires.short.1 c.loop-v-test.true c.from-c.ensures N)))

pub returns : goal.returns
unfolding zeros
returns c = record {
  joined = joined_end _ _ c.requires.short.0 c.requires.short.1 (omega arith) c.loop-v-test.false c.loop-v.invariant.0 c.loop-v.invariant.1;
  renamed = renamed_end _ c.loop-v-test.false c.loop-v.invariant.2;
}
