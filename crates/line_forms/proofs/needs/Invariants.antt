-- Invariant: with what the fields that the iterator has left need, the sum is what all need, and the end once more.
use Rattle.std.proofs.Common.{◌≡◌, ◌+◌, length}
use Rattle.line_forms.specs.Form.{needs_fields}
use Rattle.line_forms.specs.Lent.{fields_in}
use Rattle.line_forms.proofs.needs.Given as goal

abbrev pub invariant-loop-f : goal.invariant-loop-f
invariant-loop-f l =
    l.sum + needs_fields (fields_in l.f-iterator.a.rest.now) l.end l.f-iterator.b.rest.now ≡ needs_fields (fields_in l.fields) l.end l.numbers + length l.end
