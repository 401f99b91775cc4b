-- Each branch is one of the two cases.
use Rattle.std.proofs.Common.{refl, arith}
use Rattle.cycle_test.proofs.Sieve.keep.Goals as goal

pub returns-then-mark-eq0 : goal.returns-then-mark-eq0
returns-then-mark-eq0 c = record { passed = λ _. (refl, refl, refl); stored = λ p. absurd (omega arith) }

pub returns : goal.returns
returns c = record { passed = λ z. absurd (c.if-mark-eq0.false z); stored = λ _. (refl, refl, refl) }
