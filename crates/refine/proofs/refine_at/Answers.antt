-- Row r and its lists lie in what is lent, and are the parts that are handed on.
use Rattle.folds.proofs.Slices.{slice_part}
use Prim.Native.Nat.{◌*◌}
use lib.ListN.{length}
use native.Mathlib.Omega.{arith}
use Rattle.graph.proofs.Coarse.{stored_lists, stored_widths}
use Rattle.refine.proofs.Rung.{ready_few}
use Rattle.refine.proofs.refine_at.Goals as goal

pub edges-requires-clause-row_lists : goal.edges-requires-clause-row_lists
edges-requires-clause-row_lists c = stored_lists _ c.requires.r_bound c.args.ladder.stored (ready_few c.requires.row_ready)

pub widths-requires : goal.widths-requires
widths-requires c = (omega arith, stored_widths _ c.requires.r_bound c.args.ladder.stored)

pub invariant_of-links : goal.invariant_of-links
invariant_of-links c = record { linked = rw (c.edges.ensures.starts, c.edges.ensures.ends) c.requires.linked_at.linked }

pub invariant_of-joined : goal.invariant_of-joined
invariant_of-joined c =
    let n = length c.args.ladder.lists.costs.now in
    record { coarse = rw (slice_part c.args.ladder.rows.now (c.args.r * n) n, c.edges.ensures.starts, c.edges.ensures.ends, c.widths.ensures) (c.args.ladder.stored.is c.args.r c.requires.r_bound) }

pub refine_row-requires-clause-row_ready : goal.refine_row-requires-clause-row_ready
refine_row-requires-clause-row_ready c =
    let n = length c.args.ladder.lists.costs.now in rw (slice_part c.args.ladder.rows.now (c.args.r * n) n) c.requires.row_ready

pub returns : goal.returns
returns c = rw slice_part at c.refine_row.ensures
