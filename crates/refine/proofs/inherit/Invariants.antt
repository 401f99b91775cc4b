-- The clusters of the first v vertices have their parts.
use Rattle.refine.specs.Tables.{Inherits}
use Rattle.refine.proofs.inherit.Given as goal

abbrev pub invariant-loop-v : goal.invariant-loop-v
invariant-loop-v l = Inherits l.row l.parts l.v l.table.parts
