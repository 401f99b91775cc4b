-- Into the clusters' table, through the passes, and back to the vertices.
use Rattle.refine.proofs.Rung.{ready_shared, ready_sums, ready_settled, through_whole}
use Rattle.refine.proofs.Tables.{placed_zeros}
use Rattle.refine.proofs.refine_row.Goals as goal

pub invariant_of-table : goal.invariant_of-table
invariant_of-table c = record { placed = placed_zeros }

pub inherit-requires : goal.inherit-requires
inherit-requires c = ready_shared c.requires.row_ready

pub settle-after-requires : goal.settle-after-requires
settle-after-requires c = let (s, a) = ready_sums c.requires.row_ready _ c.inherit.ensures c.requires.tracks in
    record { tracks = s; row_ready = a }

pub returns : goal.returns
returns c = ready_settled c.requires.row_ready _ c.inherit.ensures c.settle-after.ensures (through_whole c.requires.row_ready _ c.through.ensures)

pub through-requires-clause-by_index : goal.through-requires-clause-by_index
through-requires-clause-by_index c = (ready_shared c.requires.row_ready).low
