-- Too short by the length of the text, or written: the head line, then the entries.
use Rattle.line_forms.specs.Form.{needs, printed}
use Rattle.line_forms.specs.Lent.{fields_in}
use Rattle.answer_text.specs.Forms.{headed}
use Rattle.answer_text.proofs.Buffer.{over_told, table_short, head_room, rest_room, table_written_lem}
use Rattle.answer_text.proofs.write_table.Goals as goal

pub needs-head-requires : goal.needs-head-requires
unfolding needs
needs-head-requires c = c.requires

pub returns-then-is_over : goal.returns-then-is_over
unfolding needs
returns-then-is_over c =
    let t = table_short (headed (fields_in c.args.fields.now)) c.args.figures.now c.args.lines.word.now c.args.lines.entries.now c.args.buf.now (over_told _ _ _ _ c.is_over.ensures c.needs-head.ensures c.if-is_over.true) in
    record { result_value = t.0; buf_after = t.1 }

pub put-i-requires : goal.put-i-requires
unfolding needs printed
put-i-requires c = head_room (headed (fields_in c.args.fields.now)) c.args.figures.now c.args.lines.word.now c.args.lines.entries.now c.args.buf.now (over_told _ _ _ _ c.is_over.ensures c.needs-head.ensures c.if-is_over.false)

pub put-requires : goal.put-requires
unfolding needs printed
put-requires c = rest_room (headed (fields_in c.args.fields.now)) c.args.figures.now c.args.lines.word.now c.args.lines.entries.now c.args.buf.now (over_told _ _ _ _ c.is_over.ensures c.needs-head.ensures c.if-is_over.false) c.put-i.ensures

pub returns : goal.returns
unfolding needs printed
returns c =
    let t = table_written_lem (headed (fields_in c.args.fields.now)) c.args.figures.now c.args.lines.word.now c.args.lines.entries.now c.args.buf.now (over_told _ _ _ _ c.is_over.ensures c.needs-head.ensures c.if-is_over.false) c.put-i.ensures c.put.ensures in
    record { result_value = t.0; buf_after = t.1 }
