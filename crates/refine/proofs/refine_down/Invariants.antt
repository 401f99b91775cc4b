-- The rungs below r are still to come, and the record holds the sums of the table at hand.
use Rattle.refine.proofs.Down.{Descent}
use Rattle.refine.specs.Rung.{Tracks}
use Rattle.graph.specs.Coarse.{LinkedAt}
use Rattle.graph.specs.Rows.{rows_in}
use Rattle.graph.specs.Lent.{graph_in}
use Rattle.refinement.specs.Pass.{refined}
use Prim.Native.Nat.{◌+◌}
use mathlib.Core.Path.{◌≡◌}
use lib.ListN.{length}
use Rattle.refine.proofs.refine_down.Given as goal

abbrev pub invariant-loop-r : goal.invariant-loop-r
invariant-loop-r l = record {
  descent : Descent (graph_in l.ladder.lists) l.k l.ladder.bound (rows_in l.ladder.rows.now (length l.ladder.lists.costs.now)) l.ladder.rung
      (refined (graph_in l.ladder.lists) l.k l.ladder.bound (rows_in l.ladder.rows.now (length l.ladder.lists.costs.now)) l.ladder.rung l.initial.parts) l.r l.parts l.p.moves;
  tracks : Tracks (graph_in l.ladder.lists) l.parts l.k l.p.sums l.p.cut;
  links : l.r ≡ l.ladder.rung + 1 → LinkedAt (length l.ladder.lists.starts.now) l.ladder.rung l.ladder.store.froms.now l.ladder.store.tos.now l.ladder.store.sizes.now l.links.head l.links.next;
}
