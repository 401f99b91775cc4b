-- Each check refuses, or hands on to the next; what passed leaves the sizes and the ends that the rest asks for.
use Rattle.std.proofs.Common.{rules, refl}
use Rattle.validity.specs.Check.{lists_from, refuse_at}
use Rattle.validity.proofs.Checks.{no_fault, hands_on, refuses_here, sizes_fit, ends_fit_left}
use Rattle.validity.proofs.check_lists.Goals as goal

pub returns-in_err-refuse_if-clause-value : goal.returns-in_err-refuse_if-clause-value
unfolding lists_from
returns-in_err-refuse_if-clause-value c = search (rules, hands_on, refuses_here)

pub returns-in_err-refuse_if-2-clause-value : goal.returns-in_err-refuse_if-2-clause-value
unfolding lists_from
returns-in_err-refuse_if-2-clause-value c = search (rules, hands_on, refuses_here)

pub returns-in_err-refuse_if-3-clause-value : goal.returns-in_err-refuse_if-3-clause-value
unfolding lists_from
returns-in_err-refuse_if-3-clause-value c = search (rules, hands_on, refuses_here)

pub returns-in_err-refuse_if-4-clause-value : goal.returns-in_err-refuse_if-4-clause-value
unfolding lists_from
returns-in_err-refuse_if-4-clause-value c = search (rules, hands_on, refuses_here) depth 7

pub bad_cost-requires : goal.bad_cost-requires
bad_cost-requires c = (sizes_fit _ _ _ _ _ c.requires (no_fault _ _ c.bad_vertices.ensures c.refuse_if.ensures c.in_ok-refuse_if.was) (no_fault _ _ c.bad_edges.ensures c.refuse_if-3.ensures c.in_ok-refuse_if-3.was)).0.0

pub returns-in_err-refuse_at-clause-value : goal.returns-in_err-refuse_at-clause-value
unfolding lists_from refuse_at
returns-in_err-refuse_at-clause-value c = let h = c.refuse_at.ensures _ _ c.bad_cost.ensures in search (rules, hands_on, refuses_here) depth 8

pub bad_end-requires : goal.bad_end-requires
bad_end-requires c =
    let z = sizes_fit _ _ _ _ _ c.requires (no_fault _ _ c.bad_vertices.ensures c.refuse_if.ensures c.in_ok-refuse_if.was) (no_fault _ _ c.bad_edges.ensures c.refuse_if-3.ensures c.in_ok-refuse_if-3.was) in
    record { same = z.1; few = z.0 }

pub returns-in_err-refuse_at-2-clause-value : goal.returns-in_err-refuse_at-2-clause-value
unfolding lists_from refuse_at
returns-in_err-refuse_at-2-clause-value c =
    let h = c.refuse_at.ensures _ _ c.bad_cost.ensures in
    let k = c.refuse_at-2.ensures _ _ c.bad_end.ensures in search (rules, hands_on, refuses_here) depth 9

pub returns-clause-value : goal.returns-clause-value
unfolding lists_from refuse_at
returns-clause-value c =
    let h = c.refuse_at.ensures _ _ c.bad_cost.ensures in
    let k = c.refuse_at-2.ensures _ _ c.bad_end.ensures in search (rules, hands_on) depth 9

pub returns-clause-fits : goal.returns-clause-fits
unfolding refuse_at
returns-clause-fits c e =
    let z = sizes_fit _ _ _ _ _ c.requires (no_fault _ _ c.bad_vertices.ensures c.refuse_if.ensures c.in_ok-refuse_if.was) (no_fault _ _ c.bad_edges.ensures c.refuse_if-3.ensures c.in_ok-refuse_if-3.was) in
    ends_fit_left _ _ _ _ z.0.0 z.0.1 z.1.0 (no_fault _ _ refl (c.refuse_at-2.ensures _ _ c.bad_end.ensures) c.in_ok-refuse_at-2.was)
