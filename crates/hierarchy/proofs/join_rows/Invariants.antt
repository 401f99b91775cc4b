-- rows 0 to r are in place, and what is carried is that of row r
use lib.ListN.{length}
use mathlib.Core.Path.{◌≡◌}
use Rattle.hierarchy.proofs.Rounds.{JoiningRows}
use Rattle.hierarchy.specs.Promises.{Carrying, LevelsAt, RowsRoom}
use Rattle.graph.specs.Coarse.{LinkedAt}
use Rattle.graph.specs.Lent.{graph_in}
use Rattle.hierarchy.proofs.join_rows.Given as goal

abbrev pub invariant-loop-r : goal.invariant-loop-r
invariant-loop-r l = record {
  rows : JoiningRows (graph_in l.plan.problem.lists) l.plan.problem.k l.plan.problem.bound l.initial.rows l.rows l.r l.g;
  carrying : Carrying (graph_in l.plan.problem.lists) l.rows l.r l.g l.store.froms.now l.store.tos.now l.store.wides.now l.store.sizes l.store.orders.now l.last.weights;
  room : RowsRoom (graph_in l.plan.problem.lists) l.rows l.store.froms.now l.store.tos.now l.store.wides.now l.store.sizes l.store.orders.now;
  links : LinkedAt (length l.plan.problem.lists.starts.now) l.r l.store.froms.now l.store.tos.now l.store.sizes l.last.links.now.head l.last.links.now.next;
  same : l.last.links.ghost_name ≡ l.initial.last.links.ghost_name;
  levels : LevelsAt (length l.plan.problem.lists.starts.now) l.r l.g l.store.froms.now l.store.tos.now l.store.sizes l.last.levels.now;
}
