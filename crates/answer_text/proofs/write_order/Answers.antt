-- The table of that head line's form.
use Rattle.std.proofs.Common.{arith}
use Rattle.answer_text.proofs.Buffer.{order_low}
use Rattle.answer_text.proofs.write_order.Goals as goal

pub write_table-requires : goal.write_table-requires
write_table-requires c = rw c.order_fields.ensures (order_low _ (omega arith))

pub returns : goal.returns
returns c = record { result_value = rw c.order_fields.ensures at c.write_table.ensures.result_value; buf_after = rw c.order_fields.ensures at c.write_table.ensures.buf_after }
