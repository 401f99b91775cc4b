-- A refusal of the checks leaves both tables; what passed them is answered as the phases left it.
use Rattle.std.proofs.Common.{ap, ◌∙◌}
use Rattle.std.specs.Option.{ok_or}
use Rattle.partition.proofs.Work.{refused_first, ready, worked, uncut_told}
use Rattle.partition.specs.Split.{answer_of}
use Rattle.partition.proofs.split_within.Goals as goal

pub returns-in-Err : goal.returns-in-Err
returns-in-Err c =
    let w = refused_first _ c.requires _ _ _ c.args.table.now c.args.rows.now _ _ c.enough-room.ensures (ap (λ r. r.verdict) c.check-checked.ensures.value) c.in-Err.is in
    rw c.at.ensures record { result_value = w.0; table_after = w.1; rows_after = w.2 }

pub partition-inner-requires : goal.partition-inner-requires
partition-inner-requires c =
    ready _ c.requires _ _ _ c.args.table.now c.args.rows.now _ _ c.enough-room.ensures (ap (λ r. r.verdict) c.check-checked.ensures.value) c.in-Ok.is c.check-checked.ensures.order_left

pub returns : goal.returns
returns c =
    let w = worked _ c.requires _ _ _ c.args.table.now c.args.rows.now _ _ c.enough-room.ensures (ap (λ r. r.verdict) c.check-checked.ensures.value) c.in-Ok.is c.partition-inner.ensures in
    record { result_value = ap answer_of (c.ok_or.ensures.value ∙ ap (ok_or c.partition-inner.result) c.at-2.ensures) ∙ uncut_told c.partition-inner.result ∙ w.0; table_after = w.1; rows_after = w.2 }
