-- the near end, or 512 where both ends are one cluster
use Rattle.graph.specs.Links.{leave}
use native.Mathlib.Omega.{arith}
use borrow.Author.Tests.{eq-eqb, ne_eqb}
use Rattle.joined_edges.proofs.leaves.Goals as goal

pub returns-then-a-b : goal.returns-then-a-b
unfolding leave
returns-then-a-b c = record { is = rw (← c.cluster-a.ensures.is, ← c.cluster-b.ensures.is, eq-eqb _ _ c.if-a-b.true); low = omega arith }

pub returns-else-a-b : goal.returns-else-a-b
unfolding leave
returns-else-a-b c = record { is = rw (← c.cluster-a.ensures.is, ← c.cluster-b.ensures.is, ne_eqb _ _ c.if-a-b.false); low = omega (arith, c.cluster-a.ensures.low) }
