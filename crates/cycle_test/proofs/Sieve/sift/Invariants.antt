-- the first t of the edges that were picked are written out
use Rattle.cycle_test.specs.Thin.{Written}
use Rattle.cycle_test.proofs.Sieve.sift.Given as goal

abbrev pub invariant-loop-t : goal.invariant-loop-t
invariant-loop-t l = Written l.edges.starts.now l.edges.ends.now l.picked l.t l.self.from l.self.to
