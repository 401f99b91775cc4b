use Rattle.std.proofs.Common.{arith}
use Rattle.decimal.proofs.Reading.{digit_within, more_whole, more_stop, more_zero, more_over, more_on}
use Rattle.decimal.proofs.more.Goals as goal

pub returns-then-not-is_ascii_digit : goal.returns-then-not-is_ascii_digit
returns-then-not-is_ascii_digit c = more_stop _ _ _ _ _ c.loop-i.invariant.1 c.loop-i-test.true _ c.is_ascii_digit.ensures.value c.if-not-is_ascii_digit.true

pub returns-then-v-eq0 : goal.returns-then-v-eq0
returns-then-v-eq0 c =
    let d = digit_within _ _ c.is_ascii_digit.ensures.value c.if-not-is_ascii_digit.false in
    more_zero _ _ _ _ _ c.loop-i.invariant.1 c.loop-i-test.true d.0 d.1 c.if-v-eq0.true

pub returns-then-w-most : goal.returns-then-w-most
returns-then-w-most c =
    let d = digit_within _ _ c.is_ascii_digit.ensures.value c.if-not-is_ascii_digit.false in
    more_over _ _ _ _ _ c.loop-i.invariant.1 c.loop-i-test.true d.0 d.1 c.if-v-eq0.false _ c.from.ensures c.if-w-most.true

pub loop-i-preserved : goal.loop-i-preserved
loop-i-preserved c =
    let d = digit_within _ _ c.is_ascii_digit.ensures.value c.if-not-is_ascii_digit.false in
    (omega arith, more_on _ _ _ _ _ c.loop-i.invariant.1 c.loop-i-test.true d.0 d.1 c.if-v-eq0.false _ c.from.ensures c.if-w-most.false)

pub returns : goal.returns
returns c = more_whole _ _ _ _ _ c.loop-i.invariant.1 (omega arith)
