-- What the work on one rung asks for and answers.
use Rattle.std.specs.Prelude.{ℕ, ◌+◌, ◌≤◌, ◌<◌, ◌^◌, ◌≡◌, List, get_or}
use Rattle.graph.specs.Graph.{Graph, vertices, cut_of, through, RowOf, Proper}
use Rattle.graph.specs.Rows.{clusters}
use Rattle.graph.specs.Table.{Good}
use Rattle.refinement.specs.Pass.{tally_of, refined_on}
use Rattle.neighbours.specs.Visit.{Placed}
use Rattle.pass.specs.declared.Progress.{Progress}
use Rattle.part_sums.specs.declared.PartSums.{PartSums}
use Rattle.part_sums.specs.Sums.{SumsOf}

-- a row with no empty cluster, and a table that is good on it; the moves counted so far leave room for those to come, each of which lowers the cut
pub record RowReady (G : Graph) (k bound : ℕ) (row parts : List ℕ) (moves : ℕ) : Type 0 where
  pub proper : Proper G
  pub row_of : RowOf G row (clusters row)
  pub onto : (c : ℕ) → c < clusters row → (v : ℕ) × (v < vertices G) × (get_or row v 0 ≡ c)
  pub good : Good G k bound row parts
  pub few : k ≤ 16
  pub room : moves + cut_of G parts < 2 ^ 32

-- the sums and the cut are those of the table
pub record Tracks (G : Graph) (parts : List ℕ) (k : ℕ) (S : PartSums) (cut : ℕ) : Type 0 where
  pub sums : SumsOf G.costs parts k S
  pub cut_is : cut ≡ cut_of G parts

-- the clusters' table, the sums, the cut and the moves after the passes
pub record Settled (G : Graph) (k bound : ℕ) (row table : List ℕ) (moves : ℕ) (table' : List ℕ) (r : Progress) : Type 0 where
  pub is : tally_of (through row table') r.moves ≡ refined_on G k bound row (tally_of (through row table) moves)
  pub tracks : Tracks G (through row table') k r.sums r.cut
  pub placed : Placed table'

-- the vertices' table, the sums, the cut and the moves after the work on a row
pub record RefinedRow (G : Graph) (k bound : ℕ) (row parts : List ℕ) (moves : ℕ) (parts' : List ℕ) (r : Progress) : Type 0 where
  pub is : tally_of parts' r.moves ≡ refined_on G k bound row (tally_of parts moves)
  pub tracks : Tracks G parts' k r.sums r.cut
