-- the rows from r on have no division, and the links are those lent where none has been tried
use mathlib.Core.Path.{◌≡◌}
use lib.ListN.{length}
use Rattle.graph.specs.Lent.{graph_in}
use Rattle.graph.specs.Rows.{rows_in}
use Rattle.initial.specs.Initial.{initial_of, highest, chosen_of}
use Rattle.graph.specs.Coarse.{LinkedAt}
use Prim.Native.Nat.{◌+◌}
use Rattle.initial.proofs.choose.Given as goal

abbrev pub invariant-loop-row : goal.invariant-loop-row
invariant-loop-row l =
    let rows = rows_in l.rows (length l.problem.lists.costs.now) in
    (l.table ≡ l.initial.table) × (chosen_of (graph_in l.problem.lists) l.problem.k l.problem.bound rows l.top ≡ highest (λ q. initial_of (graph_in l.problem.lists) l.problem.k l.problem.bound (rows q)) l.row)
    × (l.row ≡ l.top + 1 → LinkedAt (length l.problem.lists.starts.now) l.top l.store.froms.now l.store.tos.now l.store.sizes.now l.links.head l.links.next)
