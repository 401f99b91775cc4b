-- the lists and the costs by the map, then the links and the order of the new lists
use Prim.Native.Nat.{◌+◌, ◌*◌}
use lib.ListN.{length}
use Rattle.folds.proofs.Slices.{length_part}
use Rattle.row_lists.proofs.Carrying.{handed}
use Rattle.hierarchy.proofs.OneRound.{rows_in_lem}
use Rattle.hierarchy.proofs.Handing.{at_fits, past_fits, few_more, few_by, add_le, le_self, end_fits, next_room, from_fits, to_fits, next_ended, next_inside, hand_over}
use borrow.Author.Rules.{rules}
use Rattle.hierarchy.proofs.hand_on.Goals as goal

pub overflow_mul-a : goal.overflow_mul-a
overflow_mul-a c = at_fits c.args.r c.args.m c.requires.hands_on.row c.requires.hands_on.edges_few

pub overflow_add-b : goal.overflow_add-b
overflow_add-b c = past_fits c.args.r c.args.m c.requires.hands_on.row c.requires.hands_on.edges_few

pub carry-count-requires : goal.carry-count-requires
carry-count-requires c = rw c.from-size.ensures (record {
  between = c.requires.hands_on.between;
  size_bound = (add_le _ c.requires.hands_on.few, next_room c.args.r c.args.m c.requires.hands_on.row c.requires.hands_on.few c.requires.hands_on.from_room, next_room c.args.r c.args.m c.requires.hands_on.row c.requires.hands_on.few c.requires.hands_on.to_room, next_room c.args.r c.args.m c.requires.hands_on.row c.requires.hands_on.few c.requires.hands_on.width_room);
})

pub merge-requires : goal.merge-requires
merge-requires c = c.requires.hands_on.light

pub overflow_mul-c : goal.overflow_mul-c
overflow_mul-c c = at_fits c.args.r c.args.n c.requires.hands_on.row ((few_more c.args.n c.requires.hands_on.vertices_few))

pub overflow_add-c : goal.overflow_add-c
overflow_add-c c = past_fits c.args.r c.args.n c.requires.hands_on.row ((few_more c.args.n c.requires.hands_on.vertices_few))

pub overflow_add-c-2 : goal.overflow_add-c-2
overflow_add-c-2 c = end_fits c.args.r c.args.n c.args.n c.args.n c.requires.hands_on.row ((few_more c.args.n c.requires.hands_on.vertices_few)) (le_self _) (le_self _)

pub slice_bounds-order_row-end : goal.slice_bounds-order_row-end
slice_bounds-order_row-end c = let q = (rows_in_lem c.args.r c.args.n (length c.args.store.now.orders.now) c.requires.hands_on.row c.requires.hands_on.order_room) in search rules

pub order_row-requires : goal.order_row-requires
order_row-requires c = let place = c.args.r * c.args.n + c.args.n in
    record {
      ended = next_ended c.args.names.maps.low c.carry-count.ensures.next (next_room c.args.r c.args.m c.requires.hands_on.row (few_by c.from-size.ensures c.requires.hands_on.few) c.requires.hands_on.from_room) (next_room c.args.r c.args.m c.requires.hands_on.row (few_by c.from-size.ensures c.requires.hands_on.few) c.requires.hands_on.to_room);
      inside = next_inside c.args.names.maps.low c.carry-count.ensures.next (next_room c.args.r c.args.m c.requires.hands_on.row (few_by c.from-size.ensures c.requires.hands_on.few) c.requires.hands_on.from_room) (next_room c.args.r c.args.m c.requires.hands_on.row (few_by c.from-size.ensures c.requires.hands_on.few) c.requires.hands_on.to_room);
      bounds = (from_fits c.args.names.maps.low c.carry-count.ensures.next (next_room c.args.r c.args.m c.requires.hands_on.row (few_by c.from-size.ensures c.requires.hands_on.few) c.requires.hands_on.from_room) (next_room c.args.r c.args.m c.requires.hands_on.row (few_by c.from-size.ensures c.requires.hands_on.few) c.requires.hands_on.to_room), to_fits c.args.names.maps.low c.carry-count.ensures.next (next_room c.args.r c.args.m c.requires.hands_on.row (few_by c.from-size.ensures c.requires.hands_on.few) c.requires.hands_on.from_room) (next_room c.args.r c.args.m c.requires.hands_on.row (few_by c.from-size.ensures c.requires.hands_on.few) c.requires.hands_on.to_room), c.args.names.maps.low, rw (c.carry-count.ensures.orders, handed c.args.store.now.orders.now place c.args.n, length_part c.args.store.now.orders.now place c.args.n (rows_in_lem c.args.r c.args.n (length c.args.store.now.orders.now) c.requires.hands_on.row c.requires.hands_on.order_room)) c.requires.names_few);
    }

pub returns : goal.returns
returns c =
    let (H, L) = hand_over c.args.names.maps c.requires.names_few c.requires.hands_on c.from-size.ensures c.carry-count.ensures.next c.carry-count.ensures.sizes c.carry-count.ensures.orders c.merge.ensures c.order_row.ensures.stay.0 c.order_row.ensures.stay.1 c.order_row.ensures.stay.2 c.order_row.ensures.linked c.order_row.ensures.ordered c.order_row.ensures.levels in
    record { handed_on = H; linked_at = L; same_links = c.order_row.ensures.same_links }
