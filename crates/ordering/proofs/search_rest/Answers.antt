-- what either order takes is set aside, and lies on no cycle
use Rattle.std.proofs.Common.{arith}
use Rattle.ordering.proofs.Free.{ended_back, off_cycles, ordering_front, front_few, front_is, ordering_low, inside_turned, none_aside}
use Rattle.folds.specs.Fold.{zeros}
use Rattle.ordering.proofs.search_rest.Goals as goal

pub invariant_of-back : goal.invariant_of-back
invariant_of-back c = record { ended = ended_back c.args.clusters.links.edges.ended }

pub order-count-requires : goal.order-count-requires
order-count-requires c = record {
  inside = inside_turned _ c.args.clusters.links.edges.ended c.args.clusters.inside;
  g_bound = (c.args.clusters.few, c.args.clusters.few);
}

pub set_aside-requires : goal.set_aside-requires
set_aside-requires c = ordering_low c.args.clusters.inside c.args.clusters.few c.requires

pub slice_bounds-turned-end : goal.slice_bounds-turned-end
slice_bounds-turned-end c = omega (arith, front_few _ _ c.args.clusters.few c.order-count.ensures.value)

pub slice_bounds-set_aside-end : goal.slice_bounds-set_aside-end
slice_bounds-set_aside-end c = front_is _ (front_few _ _ c.args.clusters.few c.order-count.ensures.value) (omega arith)

pub set_aside-requires-2 : goal.set_aside-requires-2
set_aside-requires-2 c =
    let turned = ordering_front _ _ _ c.args.clusters.few (omega arith) c.order-count.ensures.value c.order-count.ensures.out_after in
    ordering_low (inside_turned _ c.args.clusters.links.edges.ended c.args.clusters.inside) c.args.clusters.few turned

pub search_cycle-requires : goal.search_cycle-requires
unfolding zeros
search_cycle-requires c =
    let turned = ordering_front _ _ _ c.args.clusters.few (omega arith) c.order-count.ensures.value c.order-count.ensures.out_after in
    off_cycles _ c.args.clusters.links.edges.ended c.args.clusters.inside c.requires turned none_aside c.set_aside.ensures c.set_aside-2.ensures
