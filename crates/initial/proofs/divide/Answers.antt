-- the inverse of the order gives the positions, by which the lists say what the graph's edges say
use Prim.Native.Nat.{◌<◌}
use native.Mathlib.Omega.{arith}
use mathlib.Core.Path.{refl, sym}
use Rattle.folds.specs.Fold.{zeros}
use Rattle.initial.proofs.Layers.{layer_few, layer_some, layer_below, layer_once, layer_small, arranged}
use Rattle.initial.proofs.divide.Goals as goal

pub returns-then-g-k : goal.returns-then-g-k
returns-then-g-k c =
    let h : c.cluster_count-g.result < c.args.problem.k = omega arith in
    rw (layer_small c.args.problem.bound c.requires.proper c.requires.layer c.cluster_count-g.ensures h) (record { is = refl; table = refl })

pub invert-requires-clause-once : goal.invert-requires-clause-once
invert-requires-clause-once c = layer_once _ c.requires.proper c.requires.layer c.requires.order_of c.cluster_count-g.ensures

pub invert-requires-clause-g_bound : goal.invert-requires-clause-g_bound
invert-requires-clause-g_bound c = omega (arith, layer_few c.requires.proper c.requires.layer)

pub through-requires-clause-by_index : goal.through-requires-clause-by_index
through-requires-clause-by_index c = (layer_below c.requires.proper c.requires.layer).1

pub through-requires-clause-table_len : goal.through-requires-clause-table_len
through-requires-clause-table_len c = (layer_below c.requires.proper c.requires.layer).0

pub slice_bounds-at-end : goal.slice_bounds-at-end
slice_bounds-at-end c = omega (arith, layer_few c.requires.proper c.requires.layer)

pub slice_bounds-edges-end : goal.slice_bounds-edges-end
unfolding zeros
slice_bounds-edges-end c =
    let A = arranged c.requires.proper c.requires.layer c.requires.order_of c.requires.coarse c.args.links.linked c.cluster_count-g.ensures c.invert.ensures (zeros 512) refl c.through.ensures in
    sym A.spots

pub invariant_of-edges : goal.invariant_of-edges
unfolding zeros
invariant_of-edges c =
    let A = arranged c.requires.proper c.requires.layer c.requires.order_of c.requires.coarse c.args.links.linked c.cluster_count-g.ensures c.invert.ensures (zeros 512) refl c.through.ensures in
    record { positioned = rw A.spots A.listed; linked_by = A.linked; few = omega (arith, A.spots, layer_few c.requires.proper c.requires.layer) }

pub solve-requires-clause-keyed : goal.solve-requires-clause-keyed
unfolding zeros
solve-requires-clause-keyed c =
    let A = arranged c.requires.proper c.requires.layer c.requires.order_of c.requires.coarse c.args.links.linked c.cluster_count-g.ensures c.invert.ensures (zeros 512) refl c.through.ensures in
    A.keyed

pub solve-requires-clause-g_nonzero : goal.solve-requires-clause-g_nonzero
unfolding zeros
solve-requires-clause-g_nonzero c =
    let A = arranged c.requires.proper c.requires.layer c.requires.order_of c.requires.coarse c.args.links.linked c.cluster_count-g.ensures c.invert.ensures (zeros 512) refl c.through.ensures in
    (omega (arith, A.spots, layer_some c.requires.proper c.requires.layer), omega (arith, c.requires.k_nonzero.1), omega (arith, c.requires.k_nonzero.2, A.front))

pub returns : goal.returns
unfolding zeros
returns c =
    let A = arranged c.requires.proper c.requires.layer c.requires.order_of c.requires.coarse c.args.links.linked c.cluster_count-g.ensures c.invert.ensures (zeros 512) refl c.through.ensures in
    rw (← A.finds c.args.problem.k c.args.problem.bound c.requires.k_nonzero.0) (rw A.spots at c.solve.ensures)
