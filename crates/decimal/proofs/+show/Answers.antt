use Rattle.std.proofs.Common.{arith}
use Rattle.decimal.proofs.Text.{length_one, length_long}
use Rattle.decimal.proofs.Writing.{show_one, show_more}
use Rattle.decimal.proofs.+show.Goals as goal

pub bounds-buf-at : goal.bounds-buf-at
bounds-buf-at t c = omega (arith, length_one c.args.v c.if-v-lt10.true)

pub returns-then-v-lt10 : goal.returns-then-v-lt10
returns-then-v-lt10 t c = show_one _ _ _ _ c.if-v-lt10.true c.digit_of.ensures c.requires

pub show-i-requires : goal.show-i-requires
show-i-requires t c = (omega arith, omega (arith, length_long c.args.v c.if-v-lt10.false))

pub bounds-buf-i : goal.bounds-buf-i
bounds-buf-i t c = omega (arith, length_long c.args.v c.if-v-lt10.false, c.show-i.auto.buf)

pub overflow_add-result-2 : goal.overflow_add-result-2
overflow_add-result-2 t c = omega (arith, length_long c.args.v c.if-v-lt10.false)

pub returns : goal.returns
returns t c = show_more _ _ _ _ _ _ c.if-v-lt10.false c.show-i.ensures c.digit_of-2.ensures c.requires
