-- the first n of the order are written and have raised their successors, the counts are those of the edges that still wait, and the pool has what is open:
-- by some marks of what is taken, of which the code keeps none
use Rattle.ordering.proofs.Sweeps.{Swept}
use Rattle.topology.specs.Order.{order_from, order_of}
use Rattle.ordering.specs.Counts.{open_at, Counted, TakenFree}
use Rattle.pool.specs.Pool.{Kept}
use Rattle.graph.specs.Lent.{arcs_in}
use Rattle.folds.specs.Fold.{Wrote}
use lib.ListN.{length}
use mathlib.Core.Path.{◌≡◌}
use mathlib.Core.List.{List}
use Prim.Native.Nat.{ℕ, ◌-◌}
use Rattle.ordering.proofs.order_by.Given as goal

abbrev pub invariant-loop-n : goal.invariant-loop-n
invariant-loop-n l =
    record {
      marks : List ℕ;
      tall : length marks ≡ 512;
      counted : Counted (arcs_in l.links.edges) marks l.waits.count;
      settled : TakenFree marks l.waits.count;
      opened : Kept (open_at l.g marks l.waits.count) l.waits.ready.words;
      wrote : Wrote l.initial.out l.out l.n (order_from (arcs_in l.links.edges) l.g (l.g - l.n) marks) (order_of (arcs_in l.links.edges) l.g);
      swept : Swept (arcs_in l.links.edges) l.g l.n l.levels;
    }
