-- The lists that are written join the same parts as the edges do, so that their lowest on a cycle and their order are those of the table.
use lib.Seq.{length-take-le}
use native.Mathlib.Omega.{arith}
use mathlib.Core.Path.{sym}
use Rattle.std.proofs.lemmas.Result.{err_from_is_err_and}
use Rattle.inspection.proofs.Between.{shown, shown_ended, shown_inside, cycle_judged, order_judged}
use Rattle.inspection.proofs.finish.Goals as goal

pub part_ends-requires : goal.part_ends-requires
part_ends-requires c = c.requires.joins.out

pub part_ends-requires-2 : goal.part_ends-requires-2
part_ends-requires-2 c = c.requires.joins.into

pub slice_bounds-edges-end : goal.slice_bounds-edges-end
slice_bounds-edges-end c = sym (length-take-le _ _ c.part_ends.ensures.upto)

pub slice_bounds-edges-end-2 : goal.slice_bounds-edges-end-2
slice_bounds-edges-end-2 c = sym (length-take-le _ _ (omega (arith, c.requires.joins.same, c.part_ends-2.ensures.upto)))

pub invariant_of-edges : goal.invariant_of-edges
invariant_of-edges c = let S = shown c.requires.joins c.part_ends.ensures c.part_ends-2.ensures in record { ended = shown_ended c.requires.joins S }

pub order_parts-requires : goal.order_parts-requires
order_parts-requires c = let S = shown c.requires.joins c.part_ends.ensures c.part_ends-2.ensures in
    record { inside = shown_inside c.requires.joins S c.requires.inside; k_bound = c.requires.k_bound }

pub returns-in_err-order_parts : goal.returns-in_err-order_parts
returns-in_err-order_parts c = let S = shown c.requires.joins c.part_ends.ensures c.part_ends-2.ensures in
    let p = err_from_is_err_and c.from_residual.result c.from_residual.ensures.1 in
    cycle_judged c.requires.joins S c.requires.inside c.order_parts.ensures.value c.order_parts.ensures.order_after c.in_err-order_parts.was (rw p.2 at p.1)

pub returns : goal.returns
returns c = let S = shown c.requires.joins c.part_ends.ensures c.part_ends-2.ensures in
    order_judged c.requires.joins S c.requires.inside c.order_parts.ensures.value c.order_parts.ensures.order_after c.in_ok-order_parts.was c.cut_of.ensures
