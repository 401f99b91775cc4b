-- the row, its order and its lists lie in what is lent
use Prim.Native.Nat.{◌*◌}
use native.Mathlib.Omega.{arith}
use lib.ListN.{length}
use Rattle.folds.proofs.Slices.{slice_part}
use Rattle.graph.proofs.Coarse.{stored_lists, stored_widths}
use Rattle.graph.proofs.Rows.{layer_few}
use Rattle.initial.proofs.divide_at.Goals as goal

pub edges-requires-clause-row_lists : goal.edges-requires-clause-row_lists
edges-requires-clause-row_lists c = let L = c.args.ladder in
    stored_lists _ c.requires.r_bound L.stored (omega (arith, L.proper.few, layer_few c.requires.layer))

pub widths-requires : goal.widths-requires
widths-requires c = (omega arith, stored_widths _ c.requires.r_bound c.args.ladder.stored)

pub invariant_of-edges : goal.invariant_of-edges
invariant_of-edges c = record { linked = rw (c.edges.ensures.starts, c.edges.ensures.ends) c.requires.linked_at.linked }

pub divide-requires-clause-layer : goal.divide-requires-clause-layer
divide-requires-clause-layer c = let n = length c.args.ladder.problem.lists.costs.now in rw (slice_part c.args.ladder.rows.now (c.args.r * n) n) c.requires.layer

pub divide-requires-clause-order_of : goal.divide-requires-clause-order_of
divide-requires-clause-order_of c =
    let n = length c.args.ladder.problem.lists.costs.now in
    rw (slice_part c.args.ladder.rows.now (c.args.r * n) n, slice_part c.args.ladder.store.orders.now (c.args.r * n) n) (c.args.ladder.orders_stored.is c.args.r c.requires.r_bound)

pub divide-requires-clause-coarse : goal.divide-requires-clause-coarse
divide-requires-clause-coarse c =
    let n = length c.args.ladder.problem.lists.costs.now in
    rw (slice_part c.args.ladder.rows.now (c.args.r * n) n, c.edges.ensures.starts, c.edges.ensures.ends, c.widths.ensures) (c.args.ladder.stored.is c.args.r c.requires.r_bound)

pub returns : goal.returns
returns c = rw (slice_part _ _ _) at c.divide.ensures
