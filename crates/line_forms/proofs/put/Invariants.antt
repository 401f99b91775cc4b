-- Invariant: what stands before the fields that the iterator has left has been written.
use Rattle.line_forms.specs.Form.{printed_fields}
use Rattle.line_forms.specs.Lent.{fields_in}
use Rattle.line_forms.proofs.Steps.{Laid}
use Rattle.line_forms.proofs.put.Given as goal

abbrev pub invariant-loop-f : goal.invariant-loop-f
invariant-loop-f l =
    Laid (printed_fields (fields_in l.fields) l.end l.numbers) l.end l.initial.buf l.at l.f-iterator.a.rest.now l.f-iterator.b.rest.now l.buf l.i
