-- of the first j edges, those to a marked cluster are in the front of the lists; the others stand where they stood
use Rattle.cycle_test.specs.Thin.{Sifting, Unmoved}
use Rattle.cycle_test.proofs.Sieve.resift.Given as goal

abbrev pub invariant-loop-j : goal.invariant-loop-j
invariant-loop-j l = Sifting l.left l.initial.self.from l.initial.self.to l.j l.self.from l.self.to l.t × (Unmoved l.initial.self.from l.self.from l.j × Unmoved l.initial.self.to l.self.to l.j)
