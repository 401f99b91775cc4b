-- A first digit, then `more`.
use Rattle.std.proofs.Common.{sym, ◌∙◌}
use borrow.Author.Tests.{ltb-true, ltb-false}
use Rattle.decimal.proofs.Reading.{number_end, number_none, number_on}
use Rattle.decimal.proofs.number_at.Goals as goal

pub returns-in_err-b : goal.returns-in_err-b
returns-in_err-b c = c.from_residual.ensures ∙ number_end _ _ _ (ltb-false _ _ (sym c.in_err-b.ensures.lookup.0))

pub returns-then-not-is_ascii_digit : goal.returns-then-not-is_ascii_digit
returns-then-not-is_ascii_digit c =
    number_none _ _ _ (ltb-true _ _ (sym c.in_ok-b.ensures.lookup.0)) _ _ c.in_ok-b.ensures.lookup.1 c.is_ascii_digit.ensures.value c.if-not-is_ascii_digit.true

pub returns : goal.returns
returns c =
    number_on _ _ _ (ltb-true _ _ (sym c.in_ok-b.ensures.lookup.0)) _ _ _ c.in_ok-b.ensures.lookup.1 c.is_ascii_digit.ensures.value c.if-not-is_ascii_digit.false c.from.ensures _ c.more.ensures
