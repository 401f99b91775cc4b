-- row 0, its order and its lists are the graph's own; the links and the levels are handed in
use native.Mathlib.Omega.{arith}
use Rattle.graph.specs.Lent.{graph_in}
use Rattle.hierarchy.proofs.Storing.{costs_light}
use Rattle.hierarchy.proofs.Starting.{widths_narrow, first_kept, first_carried, first_carrying, first_links, first_levels, first_order, ordered_room}
use Rattle.hierarchy.proofs.Rounds.{first_room, first_front, built_first}
use Rattle.folds.specs.Fold.{put}
use Rattle.hierarchy.proofs.build.Goals as goal

pub first-requires : goal.first-requires
first-requires c = record {
  starts_len_bound = (c.requires.buildable.proper.many, c.requires.buildable.proper.formed.same_ends, c.requires.buildable.proper.formed.same_widths);
  starts_in_bounds = (omega (arith, c.requires.rows_room.from_room), omega (arith, c.requires.rows_room.to_room), omega (arith, c.requires.rows_room.width_room));
}

pub invariant_of-plan : goal.invariant_of-plan
invariant_of-plan c = record { few = c.requires.buildable.few; light = costs_light (graph_in c.args.problem.lists) c.requires.buildable.proper.few c.weigh.ensures.light }

pub join_rows-requires : goal.join_rows-requires
unfolding put
join_rows-requires c =
    let k = c.args.problem.k in
    let G = graph_in c.args.problem.lists in
    let R = c.requires.rows_room in
    let proper = c.requires.buildable in
    let front = first_front G _ R.row_room c.number_entries.ensures in
    let M = ordered_room G k proper _ _ R.order_room c.requires.order_value c.copy.ensures R in
    record {
      buildable = proper;
      rows_room = rw c.first.ensures.orders (first_kept G k proper M c.first.ensures.first _ (first_room G _ R.row_room c.number_entries.ensures));
      costs_value = front;
      carrying = rw c.first.ensures.orders (first_carrying G k proper _ front (costs_light G proper.proper.few c.weigh.ensures.light)
          (first_carried G k proper M c.first.ensures.first _ front (widths_narrow G k proper c.first.ensures.narrow) (first_order G k proper _ _ R.order_room c.requires.order_value c.copy.ensures))
          c.weigh.ensures.weighed.0 c.weigh.ensures.weighed.1 c.weigh.ensures.light);
      linked_at = (first_links G k proper M c.first.ensures.first c.requires.linked, first_levels G k proper M c.first.ensures.first c.requires.levels_value);
    }

pub returns-clause-built : goal.returns-clause-built
returns-clause-built c = built_first c.requires.rows_room.row_room c.number_entries.ensures c.join_rows.ensures.built
