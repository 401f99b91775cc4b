-- The parts that are handed on are the edges between the clusters that map joins.
use Rattle.row_lists.proofs.Carrying.{handed, carry_inside, carry_joins}
use Rattle.row_lists.proofs.join_part.Goals as goal

pub invariant_of-edges : goal.invariant_of-edges
invariant_of-edges c = record {
  joins = rw (handed c.args.store.froms.now c.args.a c.args.size, handed c.args.store.tos.now c.args.a c.args.size) (carry_joins c.args.names.maps c.requires.between);
  measured = rw (handed c.args.store.froms.now c.args.a c.args.size, handed c.args.store.wides.now c.args.a c.args.size) c.requires.between.same_widths;
  narrow = rw (handed c.args.store.wides.now c.args.a c.args.size) c.requires.between.narrow;
}

pub join_edges-requires : goal.join_edges-requires
join_edges-requires c = rw (handed c.args.store.froms.now c.args.a c.args.size, handed c.args.store.tos.now c.args.a c.args.size) (c.args.names.maps.low, carry_inside c.args.names.maps c.requires.between)

pub returns : goal.returns
returns c = rw (handed c.args.store.froms.now c.args.a c.args.size, handed c.args.store.tos.now c.args.a c.args.size, handed c.args.store.wides.now c.args.a c.args.size) at c.join_edges.ensures
