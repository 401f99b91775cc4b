-- The table of that head line's form.
use Rattle.std.proofs.Common.{arith}
use Rattle.answer_text.proofs.Buffer.{split_low}
use Rattle.answer_text.proofs.write_split.Goals as goal

pub write_table-requires : goal.write_table-requires
write_table-requires c = rw c.split_fields.ensures (split_low _ _ _ _ (omega arith) (omega arith) (omega arith) (omega arith))

pub returns : goal.returns
returns c = record { result_value = rw c.split_fields.ensures at c.write_table.ensures.result_value; buf_after = rw c.split_fields.ensures at c.write_table.ensures.buf_after }
