-- wider, narrower, or as wide: then the numbers decide
use mathlib.Core.Logic.{inl, inr}
use native.Mathlib.Omega.{arith}
use borrow.Author.Tests.{eqb-true, ltb-true, ltb-false}
use Rattle.matching_scan.proofs.Best.loses.Goals as goal

pub returns-then-self-w : goal.returns-then-self-w
returns-then-self-w c = record { yes = λ _. inl c.if-self-w.true; no = λ e. absurd (omega (arith, ltb-false _ _ e, c.if-self-w.true)) }

pub returns-then-w-self : goal.returns-then-w-self
returns-then-w-self c = record { yes = λ t. inr (c.if-w-self.true, ltb-true _ _ t); no = λ t. (omega (arith, c.if-w-self.true), λ _. ltb-false _ _ t) }

pub returns-else-w-self : goal.returns-else-w-self
returns-else-w-self c = record { yes = λ e. absurd (c.if-w-self.false (eqb-true _ _ e)); no = λ _. (c.if-self-w.false, λ e. absurd (c.if-w-self.false e)) }
