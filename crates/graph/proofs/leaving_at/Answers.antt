-- The two ends are compared as they stand.
use Rattle.graph.specs.Links.{leave}
use native.Mathlib.Omega.{arith}
use borrow.Author.Tests.{eq-eqb, ne_eqb}
use Rattle.graph.proofs.leaving_at.Goals as goal

pub returns-then-a-b : goal.returns-then-a-b
unfolding leave
returns-then-a-b c = record { is = rw (← c.end_at-a.ensures.is, ← c.end_at-b.ensures.is, eq-eqb _ _ c.if-a-b.true); low = omega arith }

pub returns-else-a-b : goal.returns-else-a-b
unfolding leave
returns-else-a-b c = record { is = rw (← c.end_at-a.ensures.is, ← c.end_at-b.ensures.is, ne_eqb _ _ c.if-a-b.false); low = omega (arith, c.end_at-a.ensures.low) }
