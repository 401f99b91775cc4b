-- what is carried of row r, as it is handed on
use Prim.Native.Nat.{◌*◌}
use native.Mathlib.Omega.{arith}
use lib.ListN.{length}
use Rattle.graph.proofs.Coarse.{stored_lists, stored_widths}
use Rattle.row_lists.proofs.Carrying.{handed}
use Rattle.hierarchy.proofs.OneRound.{rows_in_lem}
use Rattle.hierarchy.proofs.Stepping.{simple, carries}
use Rattle.hierarchy.proofs.join_at.Goals as goal

pub edges-requires-clause-row_lists : goal.edges-requires-clause-row_lists
edges-requires-clause-row_lists c = let R = c.requires.round_ready.0 in stored_lists _ (omega arith) c.requires.carrying.carried.lists (rw R.count at R.small)

pub widths-requires : goal.widths-requires
widths-requires c = (omega arith, stored_widths _ (omega arith) c.requires.carrying.carried.lists)

pub invariant_of-links : goal.invariant_of-links
invariant_of-links c = record { linked = rw (c.edges.ensures.starts, c.edges.ensures.ends) c.requires.r_bound.2.linked }

pub invariant_of-scan : goal.invariant_of-scan
invariant_of-scan c =
    let S = simple c.requires.round_ready.0 c.requires.round_ready.1 c.requires.carrying c.requires.r_bound.1 in
    let E = c.edges.ensures in
    record { measured = rw (E.starts, c.widths.ensures) S.same; single = rw (E.starts, E.ends) S.single; light = c.requires.carrying.weighed.light }

pub join_row-requires : goal.join_row-requires
join_row-requires c =
    let n = length c.args.plan.problem.lists.costs.now in
    let room = rows_in_lem c.args.r n (length c.args.store.orders.now) c.requires.r_bound.0 c.requires.rows_room.order_room in
    let E = c.edges.ensures in
    record {
      round_ready = c.requires.round_ready.0;
      carries = rw (E.starts, E.ends, c.widths.ensures, handed c.args.store.orders.now (c.args.r * n) n) (carries c.requires.round_ready.0 c.requires.round_ready.1 c.requires.carrying c.requires.r_bound.1 (omega (arith, room)));
      r_bound = (c.requires.r_bound.0, rw (E.starts, E.ends) c.requires.r_bound.3.are);
      costs_in_bounds = c.requires.rows_room.row_room;
    }
