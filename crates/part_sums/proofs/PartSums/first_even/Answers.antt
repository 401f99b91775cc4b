-- A cost that is all of its part evens with none; else the parts whose sum is below the rest.
use Rattle.part_sums.proofs.Sums.{even_poor, even_below}
use mathlib.Core.Path.{refl}
use native.Mathlib.Omega.{arith}
use Rattle.part_sums.proofs.PartSums.first_even.Goals as goal

pub returns-then-self-own : goal.returns-then-self-own
returns-then-self-own c = even_poor _ _ _ _ _ c.if-self-own.true

pub returns-then-self-t : goal.returns-then-self-t
returns-then-self-t c = (c.loop-t-test.true, even_below _ _ _ _ _ _ c.if-self-own.false refl (λ u g h _. c.loop-t.invariant u g h) (λ _. (omega arith, c.if-self-t.true)))

pub returns : goal.returns
returns c = even_below _ _ _ _ _ _ c.if-self-own.false refl (λ u g h e. c.loop-t.invariant u g (omega arith)) (λ e. absurd (omega arith))
