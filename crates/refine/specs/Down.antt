-- What the refinement down the rungs asks for and answers.
use Rattle.std.specs.Prelude.{ℕ, suc, ◌*◌, ◌≤◌, ◌≡◌, List, length, take}
use Rattle.folds.specs.Fold.{over}
use Rattle.graph.specs.Graph.{Graph, vertices, cut_of, Proper}
use Rattle.graph.specs.Rows.{rows_in, Hierarchy}
use Rattle.graph.specs.Table.{Good}
use Rattle.refinement.specs.Pass.{refined}
use Rattle.refine.specs.declared.Outcome.{Outcome}

-- a table that is good on a rung of the ladder
pub record Descends (G : Graph) (k bound : ℕ) (rows : List ℕ) (rung : ℕ) (parts : List ℕ) : Type 0 where
  pub proper : Proper G
  pub hierarchy : Hierarchy G (rows_in rows (vertices G)) rung
  pub good : Good G k bound (rows_in rows (vertices G) rung) parts
  pub few : k ≤ 16
  pub held : suc rung * vertices G ≤ length rows

-- the table, the number of moves and the cut after the refinement; entries past the vertices are untouched
pub record Refined (G : Graph) (k bound : ℕ) (rows : List ℕ) (rung : ℕ) (table table' : List ℕ) (r : Outcome) : Type 0 where
  pub table_is : table' ≡ over (refined G k bound (rows_in rows (vertices G)) rung (take (vertices G) table)).parts table
  pub moves_is : r.moves ≡ (refined G k bound (rows_in rows (vertices G)) rung (take (vertices G) table)).moves
  pub cut_is : r.cut ≡ cut_of G (refined G k bound (rows_in rows (vertices G)) rung (take (vertices G) table)).parts
