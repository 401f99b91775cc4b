-- A refusal of checks 1 to 8 leaves the order; where they passed, the answer is that of the table.
use Rattle.std.proofs.Common.{sym, ap}
use Rattle.std.proofs.lemmas.Result.{err_from_is_err_and}
use Rattle.validity.specs.declared.Checked.{Checked}
use Rattle.inspection.specs.Inspect.{parts_of}
use Rattle.inspection.proofs.Inspects.{refused_first, judged_all, tabled}
use Rattle.inspection.proofs.inspect.Goals as goal

pub returns-in_err-check_bare : goal.returns-in_err-check_bare
unfolding parts_of
returns-in_err-check_bare c =
    let p = err_from_is_err_and c.from_residual.result c.from_residual.ensures.1 in
    let t = refused_first _ _ _ _ c.args.order.now _ _ c.enough-room.ensures (ap (λ (r : Checked). r.verdict) c.check_bare.ensures) c.in_err-check_bare.was in
    rw (p.1, p.2) record { result_value = t.0; order_after = t.1 }

pub slice_bounds-check_table-end : goal.slice_bounds-check_table-end
unfolding parts_of
slice_bounds-check_table-end c = let a = c.args in
    sym (tabled _ _ _ a.table.now a.order.now _ _ c.enough-room.ensures (ap (λ (r : Checked). r.verdict) c.check_bare.ensures) c.in_ok-check_bare.was).whole

pub check_table-requires : goal.check_table-requires
unfolding parts_of
check_table-requires c = let a = c.args in
    tabled _ _ _ a.table.now a.order.now _ _ c.enough-room.ensures (ap (λ (r : Checked). r.verdict) c.check_bare.ensures) c.in_ok-check_bare.was

pub returns : goal.returns
unfolding parts_of
returns c =
    let t = judged_all _ _ _ _ _ _ _ c.enough-room.ensures (ap (λ (r : Checked). r.verdict) c.check_bare.ensures) c.in_ok-check_bare.was c.check_table.ensures in
    record { result_value = t.0; order_after = t.1 }
