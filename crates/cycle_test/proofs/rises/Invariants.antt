-- the first j edges go up
use Rattle.std.proofs.Common.{ℕ, ◌<◌, get_or}
use Rattle.cycle_test.proofs.rises.Given as goal

abbrev pub invariant-loop-j : goal.invariant-loop-j
invariant-loop-j l = (i : ℕ) → i < l.j → get_or l.edges.starts.now i 0 < get_or l.edges.ends.now i 0
