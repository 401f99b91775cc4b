-- The first j entries are the parts at the ends of the first j edges.
use Rattle.graph.specs.Graph.{via}
use Rattle.folds.specs.Fold.{Filled}
use lib.ListN.{length}
use Prim.Native.Nat.{◌≤◌, ◌-◌}
use Rattle.inspection.proofs.part_ends.Given as goal

abbrev pub invariant-loop-j : goal.invariant-loop-j
invariant-loop-j l = (l.j ≤ length l.ends) × Filled l.initial.out l.out l.j (via l.parts l.ends)

abbrev pub decreases-loop-j : goal.decreases-loop-j
decreases-loop-j l = length l.ends - l.j
