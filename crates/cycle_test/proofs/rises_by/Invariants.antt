-- where the sum is 0, the first j edges go up by the ranks of their ends
use Rattle.std.proofs.Common.{◌≡◌, ℕ, ◌%◌, ◌<◌, ◌≤◌}
use Rattle.graph.specs.Graph.{via}
use Rattle.cycle_test.proofs.rises_by.Given as goal

abbrev pub invariant-loop-j : goal.invariant-loop-j
invariant-loop-j l = (l.sum ≤ l.j) × (l.sum ≡ 0 → (i : ℕ) → i < l.j → via l.cells l.edges.starts.now i % 65536 < via l.cells l.edges.ends.now i % 65536)
