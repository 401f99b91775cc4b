-- What is claimed of the rounds that the hierarchy is built by.
use Rattle.std.specs.Prelude.{ℕ, ◌+◌, ◌*◌, ◌<◌, ◌≤◌, ◌≡◌, List, [], length, get_or, take}
use Rattle.folds.specs.Fold.{when, part}
use Rattle.graph.specs.Graph.{Graph, vertices, identity}
use Rattle.contraction.specs.Rules.{Round}
use Rattle.contraction.specs.Rounds.{row_after, AllKeep}
use Rattle.matching.specs.Choice.{round_of}
use Rattle.hierarchy.specs.Rounds.{kept_of, dropped_of}

-- rs are the rounds tried, and `held` is what they leave
pub record OwnRounds (G : Graph) (k bound : ℕ) (held : List ℕ) (rs : List Round) : Type 0 where
  -- each keeps the join rules on its own row
  pub keep : AllKeep G (identity (vertices G)) rs
  -- each is the choice of document 01 on the row that the rounds before it left
  pub chosen : (r : ℕ) → r < length rs → get_or rs r [] ≡ round_of G bound (row_after (identity (vertices G)) (take r rs))
  -- row r of the ladder is what the first r rounds leave, for each r up to the rounds kept
  pub rows : (r : ℕ) → r ≤ kept_of G k bound → part held (r * vertices G) (vertices G) ≡ row_after (identity (vertices G)) (take r rs)
  -- as many rounds as were kept, and one more exactly if a round was dropped
  pub count : length rs ≡ kept_of G k bound + when (dropped_of G k bound) 1
