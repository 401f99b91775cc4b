-- The joined edges of the clusters below u stand in the lists, and all sums are 0 again.
use mathlib.Core.Path.{◌≡◌}
use Rattle.joined_edges.specs.Joining.{Written}
use Rattle.joined_edges.specs.Lent.{arcs_in}
use Rattle.folds.specs.Fold.{zeros}
use Rattle.joined_edges.proofs.join_edges.Given as goal

abbrev pub invariant-loop-u : goal.invariant-loop-u
invariant-loop-u l = Written (arcs_in l.edges) l.edges.widths.now l.g l.u l.joined.count l.joined.froms l.joined.tos l.joined.widths × (l.sums ≡ zeros 512)
