-- Too short by the length of the line, or written.
use Rattle.std.proofs.Common.{arith, refl, ◌∙◌, ◌≤◌, ◌+◌, [], ◌∷◌, length}
use Rattle.line_forms.specs.Form.{needs, printed}
use Rattle.answer_text.specs.Forms.{refused_form}
use Rattle.answer_text.proofs.Buffer.{refusal_low, line_short, line_front, line_written}
use Rattle.answer_text.proofs.write_refusal.Goals as goal

pub needs-need-requires : goal.needs-need-requires
unfolding needs
needs-need-requires c = rw c.refusal_fields-fields.ensures (refusal_low _ _ (omega arith) (omega arith))

pub returns-then-buf-need : goal.returns-then-buf-need
unfolding needs
returns-then-buf-need c =
    let t = line_short refused_form (c.args.number ∷ c.args.place ∷ []) c.args.buf.now (c.needs-need.ensures ∙ rw c.refusal_fields-fields.ensures refl) c.if-buf-need.true in
    record { result_value = t.0; buf_after = t.1 }

pub put-requires : goal.put-requires
unfolding needs printed
put-requires c =
    let h : 0 + length (printed refused_form (c.args.number ∷ c.args.place ∷ [])) ≤ length c.args.buf.now = line_front refused_form (c.args.number ∷ c.args.place ∷ []) c.args.buf.now (c.needs-need.ensures ∙ rw c.refusal_fields-fields.ensures refl) c.if-buf-need.false in
    rw c.refusal_fields-fields.ensures h

pub returns : goal.returns
unfolding needs printed
returns c =
    let t = line_written refused_form (c.args.number ∷ c.args.place ∷ []) c.args.buf.now (c.needs-need.ensures ∙ rw c.refusal_fields-fields.ensures refl) c.if-buf-need.false (rw c.refusal_fields-fields.ensures at c.put.ensures) in
    record { result_value = t.0; buf_after = t.1 }
