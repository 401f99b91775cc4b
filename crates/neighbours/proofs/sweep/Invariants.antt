-- The numbers of every cluster by the first j edges.
use Rattle.neighbours.specs.Known.{Swept}
use Rattle.neighbours.proofs.sweep.Given as goal

abbrev pub invariant-loop-j : goal.invariant-loop-j
invariant-loop-j l = Swept l.edges.starts.now l.edges.ends.now l.table.parts l.k l.j l.numbers.low l.numbers.high
