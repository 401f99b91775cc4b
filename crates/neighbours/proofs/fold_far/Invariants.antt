-- The walk stands at an edge of h; value is what the steps at those before it gave.
use Rattle.neighbours.specs.Visit.{fold_by}
use Rattle.folds.specs.Fold.{turns}
use Rattle.graph.proofs.Links.{On}
use lib.ListN.{length, get_or}
use mathlib.Core.Path.{◌≡◌}
use Prim.Native.Nat.{◌-◌, ◌<◌}
use Rattle.neighbours.proofs.fold_far.Given as goal

abbrev pub invariant-loop-j : goal.invariant-loop-j
invariant-loop-j g l = (l.m ≡ length l.side.near.now) × On (λ i. get_or l.side.near.now i 0) l.m l.h l.j × (l.value ≡ turns l.j (fold_by g.op l.side.near.now l.side.far.now l.table.parts l.h) l.start) × (l.value < 65536)

abbrev pub decreases-loop-j : goal.decreases-loop-j
decreases-loop-j g l = l.m - l.j
