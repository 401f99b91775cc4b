-- the first j edges were tried
use Rattle.ordering.proofs.Within.{Tried}
use Rattle.graph.specs.Lent.{arcs_in}
use Prim.Native.Nat.{◌≤◌}
use Rattle.ordering.proofs.lowest_within.Given as goal

abbrev pub invariant-loop-j : goal.invariant-loop-j
invariant-loop-j l = (l.low ≤ l.g) × Tried (arcs_in l.edges) l.class l.j l.low l.sum
