-- An edge inside a part adds nothing.
use Rattle.graph.specs.Graph.{crossing}
use Rattle.std.proofs.Common.{arith, eq-eqb, ne_eqb}
use Rattle.graph.proofs.crossing.Goals as goal

pub returns-then-a-b : goal.returns-then-a-b
unfolding crossing
returns-then-a-b c = record { is = rw (← c.cluster-a.ensures.is, ← c.cluster-b.ensures.is, eq-eqb _ _ c.if-a-b.true); low = omega arith }

pub returns : goal.returns
unfolding crossing
returns c = record { is = rw (← c.cluster-a.ensures.is, ← c.cluster-b.ensures.is, ne_eqb _ _ c.if-a-b.false) c.from.ensures; low = omega (arith, c.type_inv.widths c.args.j, c.from.ensures) }
