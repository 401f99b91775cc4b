-- no list leads to an edge below j, and the counts leave room
use Rattle.cycle_test.specs.Guess.{Filling}
use Rattle.std.proofs.Common.{◌≡◌, ◌≤◌, length}
use Rattle.cycle_test.proofs.link.Given as goal

abbrev pub invariant-loop-j : goal.invariant-loop-j
invariant-loop-j l = (l.m ≡ length l.edges.starts.now) × (l.j ≤ l.m) × Filling l.m l.j l.cells l.arcs
