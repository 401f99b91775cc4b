-- The rounds tried and kept, and the rows they leave.
use Rattle.std.specs.Prelude.{ℕ, zero, suc, ◌*◌, Bool, not, ◌&&◌, List, [], ◌∷◌, ◌++◌, ltb, length, get_or}
use Rattle.folds.specs.Fold.{pick, over}
use Rattle.graph.specs.Graph.{Graph, vertices, identity}
use Rattle.graph.specs.Rows.{clusters}
use Rattle.contraction.specs.Rules.{Round}
use Rattle.contraction.specs.Next.{next_row_of}
use Rattle.matching.specs.Choice.{round_of}

-- document 01: rounds run while the rung has more than 2 × k groups
unfoldable pub large : ℕ → List ℕ → Bool
large k row = ltb (2 * k) (clusters row)

-- document 01: a round with 10 × pairs below the group count is dropped and ends the joining
unfoldable pub poor : List ℕ → Round → Bool
poor row ps = ltb (10 * length ps) (clusters row)

module _ (G : Graph) (k bound : ℕ) where
  -- a round on this row is tried, and kept
  unfoldable pub kept : List ℕ → Round → Bool
  kept row ps = large k row && not (poor row ps)

  -- the rows that at most f rounds leave above `row`, each by its own round
  unfoldable pub above : ℕ → List ℕ → List (List ℕ)
  above zero row = []
  above (suc f) row =
      let ps = round_of G bound row in
      let next = next_row_of row ps in
      let rows = next ∷ above f next in pick (kept row ps) rows []

  -- document 01: row 0 is the blocks themselves, and fewer than 8 rounds are kept when one is tried
  unfoldable pub rows_of : List (List ℕ)
  rows_of = let bottom = identity (vertices G) in bottom ∷ above 8 bottom

  unfoldable pub kept_of : ℕ
  kept_of = length (above 8 (identity (vertices G)))

  unfoldable pub row_of : ℕ → List ℕ
  row_of r = get_or rows_of r []

  -- a round was tried on the last row, and dropped
  unfoldable pub dropped_of : Bool
  dropped_of = let last = row_of kept_of in ltb kept_of 8 && (large k last && poor last (round_of G bound last))

-- rows one after another
unfoldable pub flat : List (List ℕ) → List ℕ
flat [] = []
flat (row ∷ rows) = row ++ flat rows

-- document 01: the ladder afterwards: the kept rows in front, and the rest as it was
unfoldable pub rows_after : Graph → ℕ → ℕ → List ℕ → List ℕ
rows_after G k bound rows = over (flat (rows_of G k bound)) rows
