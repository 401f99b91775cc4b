-- The word by `starts`, the number by `number_at`.
use native.Mathlib.Omega.{arith}
use Rattle.decimal.specs.Read.{field_of}
use Rattle.decimal.proofs.Reading.{tests, within}
use Rattle.decimal.proofs.Field.read.Goals as goal

pub returns-then-not-starts : goal.returns-then-not-starts
unfolding field_of
returns-then-not-starts c = search tests

pub overflow_add-at : goal.overflow_add-at
unfolding field_of
overflow_add-at c = omega (arith, within c.args.self.word.now c.args.text.now c.args.at _ c.starts.ensures c.if-not-starts.false)

pub returns : goal.returns
unfolding field_of
returns c = search tests
