-- The sum is the cut of the edges below j, and so fits.
use Rattle.graph.specs.Graph.{arcs, crossing}
use Rattle.folds.specs.Fold.{sum_to}
use mathlib.Core.Path.{◌≡◌}
use Prim.Native.Nat.{◌≤◌, ◌*◌}
use Rattle.graph.proofs.cut_of.Given as goal

abbrev pub invariant-loop-j : goal.invariant-loop-j
invariant-loop-j l = (l.sum ≤ 65535 * l.j) × (l.sum ≡ sum_to l.j (crossing (arcs l.parts l.starts l.ends) l.widths))
