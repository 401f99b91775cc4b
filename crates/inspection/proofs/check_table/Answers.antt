-- Checks 10 to 12: each refuses at its place, or passes on; sums stand for parts since costs are above 0.
use Rattle.std.proofs.Common.{rules, refl, ap, ◌∙◌}
use mathlib.Core.Path.{sym}
use Rattle.std.specs.Prelude.{Err}
use Rattle.std.proofs.lemmas.Result.{err_from_is_err_and}
use Rattle.graph.proofs.Totals.{zero_sums}
use Rattle.validity.specs.Check.{refuse_at}
use Rattle.validity.proofs.Checks.{no_fault, hands_on, refuses_here, at_some, at_none}
use Rattle.validity.specs.declared.Cause.TheVariants.{Over}
use Rattle.inspection.specs.Table.{table_of}
use Rattle.inspection.proofs.Tables.{entry_at, entries_left, empty_at, over_at, table_keyed, table_joins, table_inside}
use Rattle.inspection.proofs.Between.{judged_refused, judged_as}
use Rattle.inspection.proofs.check_table.Goals as goal

pub returns-in_err-refuse_at : goal.returns-in_err-refuse_at
unfolding table_of refuse_at
returns-in_err-refuse_at c =
    let p = err_from_is_err_and c.from_residual.result c.from_residual.ensures.1 in
    let h = c.refuse_at.ensures _ _ (entry_at c.requires c.bad_entry.ensures) in
    judged_refused (rw p.2 at p.1) (search (rules, refuses_here)) refl

pub sum_costs-requires : goal.sum_costs-requires
unfolding refuse_at
sum_costs-requires c = record {
  keyed = table_keyed c.requires (entries_left c.requires (no_fault _ _ refl (c.refuse_at.ensures _ _ (entry_at c.requires c.bad_entry.ensures)) c.in_ok-refuse_at.was));
  by_index = zero_sums 16;
}

pub returns-in_err-refuse_at-2 : goal.returns-in_err-refuse_at-2
unfolding table_of refuse_at
returns-in_err-refuse_at-2 c =
    let p = err_from_is_err_and c.from_residual-in_err-refuse_at-2.result c.from_residual-in_err-refuse_at-2.ensures.1 in
    let h = c.refuse_at.ensures _ _ (entry_at c.requires c.bad_entry.ensures) in
    let i = c.refuse_at-2.ensures _ _ (empty_at c.requires c.sum_costs.ensures c.empty_part.ensures) in
    judged_refused (rw p.2 at p.1) (search (rules, hands_on, refuses_here)) refl

pub returns-in-Some : goal.returns-in-Some
unfolding table_of refuse_at
returns-in-Some c =
    let h = c.refuse_at.ensures _ _ (entry_at c.requires c.bad_entry.ensures) in
    let i = c.refuse_at-2.ensures _ _ (empty_at c.requires c.sum_costs.ensures c.empty_part.ensures) in
    let j = sym c.in-Some.is ∙ over_at c.requires c.sum_costs.ensures c.args.problem.bound c.over_part.ensures in
    judged_refused (ap Err c.at.ensures) (hands_on _ _ refl h c.in_ok-refuse_at.was (hands_on _ _ refl i c.in_ok-refuse_at-2.was (at_some Over _ _ _ j))) refl

pub finish-requires : goal.finish-requires
unfolding refuse_at
finish-requires c = let named = entries_left c.requires (no_fault _ _ refl (c.refuse_at.ensures _ _ (entry_at c.requires c.bad_entry.ensures)) c.in_ok-refuse_at.was) in
    record {
      joins = table_joins c.requires named;
      inside = table_inside c.requires named;
      widths_len = c.requires.proper.formed.same_widths;
      k_bound = (c.requires.few, c.requires.room);
    }

pub returns : goal.returns
unfolding table_of refuse_at
returns c =
    let h = c.refuse_at.ensures _ _ (entry_at c.requires c.bad_entry.ensures) in
    let i = c.refuse_at-2.ensures _ _ (empty_at c.requires c.sum_costs.ensures c.empty_part.ensures) in
    let j = sym c.in-None.is ∙ over_at c.requires c.sum_costs.ensures c.args.problem.bound c.over_part.ensures in
    judged_as (hands_on _ _ refl h c.in_ok-refuse_at.was (hands_on _ _ refl i c.in_ok-refuse_at-2.was (at_none Over _ _ j refl))) c.finish.ensures
