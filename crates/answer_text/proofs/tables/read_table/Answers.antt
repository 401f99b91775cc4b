-- Each answer by the tests before it: the split line, the end of the text, the length of the list.
use Rattle.std.proofs.Common.{arith}
use Rattle.answer_text.proofs.Saved.{no_split_line, bad_entry_lem, table_short, parts_room, table_read}
use Rattle.answer_text.proofs.tables.read_table.Goals as goal

pub returns-in_default : goal.returns-in_default
returns-in_default c =
    let t = no_split_line _ c.args.parts.now c.split_line.ensures c.in_default.is in
    record { result_value = t.0; parts_after = t.1 }

pub overflow_add-result : goal.overflow_add-result
overflow_add-result c = omega (arith, c.entry_lines-run.ensures.low)

pub returns-then-e-text : goal.returns-then-e-text
returns-then-e-text c =
    let t = bad_entry_lem _ c.args.parts.now _ _ _ _ c.split_line.ensures c.in-Some.is c.entry_lines-run.ensures c.if-e-text.true in
    record { result_value = t.0; parts_after = t.1 }

pub returns-then-parts-n : goal.returns-then-parts-n
returns-then-parts-n c =
    let t = table_short _ c.args.parts.now _ _ _ _ c.split_line.ensures c.in-Some.is c.entry_lines-run.ensures c.if-e-text.false c.if-parts-n.true in
    record { result_value = t.0; parts_after = t.1 }

pub write_parts-requires : goal.write_parts-requires
write_parts-requires c = parts_room _ c.args.parts.now _ _ _ _ c.split_line.ensures c.in-Some.is c.entry_lines-run.ensures c.if-e-text.false c.if-parts-n.false

pub returns : goal.returns
returns c =
    let t = table_read _ c.args.parts.now _ _ _ _ c.split_line.ensures c.in-Some.is c.entry_lines-run.ensures c.if-e-text.false c.if-parts-n.false c.write_parts.ensures in
    record { result_value = t.0; parts_after = t.1 }
