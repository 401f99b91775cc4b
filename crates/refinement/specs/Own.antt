-- A refinement's own moves as a list of entries, and what is claimed of it.
use Rattle.std.specs.Prelude.{ℕ, zero, suc, ◌≤◌, ◌<◌, ◌≡◌, true, false, ◌⊎◌, List, [], ◌∷◌, ◌++◌, eqb}
use Rattle.std.specs.Int.Signed.{lt_z}
use Rattle.folds.specs.Fold.{pick, turns}
use Rattle.graph.specs.Graph.{Graph}
use Rattle.graph.specs.Rows.{clusters}
use Rattle.refinement.specs.Move.{part_of, gain_to, Allowed, Gains, Balances}
use Rattle.refinement.specs.Entries.{State, Entry, move, down, after, AllAllowed, AllImprove, gaining, downs}
use Rattle.refinement.specs.Pass.{target, Tally, tally_of, visited, pass_of, passes, refined_on}

module _ (G : Graph) (k bound : ℕ) (row parts : List ℕ) (h : ℕ) where
  -- document 02, a: of the allowed candidates the largest gain above 0 wins, ties to the lowest part
  pub record GainsMost (t : ℕ) : Type 0 where
    pub allowed : Allowed G k bound row parts h t
    pub above : Gains G row parts h t
    pub largest : (u : ℕ) → Allowed G k bound row parts h u → lt_z (gain_to G row parts h t) (gain_to G row parts h u) ≡ false
    pub lowest : (u : ℕ) → Allowed G k bound row parts h u → u < t → lt_z (gain_to G row parts h u) (gain_to G row parts h t) ≡ true

  abbrev pub NoneGains : Type 0
  NoneGains = (u : ℕ) → Allowed G k bound row parts h u → Gains G row parts h u → ⊥

  -- if none is above 0, the lowest allowed candidate of gain 0 is taken among those that even
  pub record EvensOut (t : ℕ) : Type 0 where
    pub none : NoneGains
    pub allowed : Allowed G k bound row parts h t
    pub balances : Balances G row parts h t
    pub lowest : (u : ℕ) → Allowed G k bound row parts h u → Balances G row parts h u → t ≤ u

  -- else the cluster stays
  pub record Remains (t : ℕ) : Type 0 where
    pub own : t ≡ part_of row parts h
    pub none : NoneGains
    pub none_balances : (u : ℕ) → Allowed G k bound row parts h u → Balances G row parts h u → ⊥

  abbrev pub Taken : ℕ → Type 0
  Taken t = GainsMost t ⊎ (EvensOut t ⊎ Remains t)

module _ (G : Graph) (k bound : ℕ) where
  -- what a visit of cluster h enters: a move to its target, where that is another part
  unfoldable pub visit_moves : List ℕ → ℕ → Tally → List Entry
  visit_moves row h s = let t = target G k bound row s.parts h in pick (eqb t (part_of row s.parts h)) [] (move h t ∷ [])

  -- the first i visits of a pass, in number order, each on the table that the last one left
  unfoldable pub turn_moves : List ℕ → ℕ → Tally → List Entry
  turn_moves row zero s = []
  turn_moves row (suc i) s = turn_moves row i s ++ visit_moves row i (turns i (visited G k bound row) s)

  unfoldable pub pass_moves : List ℕ → Tally → List Entry
  pass_moves row s = turn_moves row (clusters row) (tally_of s.parts s.moves)

  -- pass after pass, until one moves nothing
  unfoldable pub repeated_moves : List ℕ → ℕ → Tally → List Entry
  repeated_moves row zero s = []
  repeated_moves row (suc fuel) s =
      let rest = repeated_moves row fuel (pass_of G k bound row s) in pass_moves row s ++ pick (pass_of G k bound row s).moved rest []

  unfoldable pub moves_on : List ℕ → Tally → List Entry
  moves_on row s = repeated_moves row (passes G k s.parts) s

  -- on rung r, then down to each lower one
  unfoldable pub moves_from : (ℕ → List ℕ) → ℕ → Tally → List Entry
  moves_from rows zero s = moves_on (rows 0) s
  moves_from rows (suc r) s = moves_on (rows (suc r)) s ++ (down ∷ moves_from rows r (refined_on G k bound (rows (suc r)) s))

  -- the refinement's own moves, in the order in which it makes them, from a table on a rung (`refined` is the table that they leave)
  unfoldable pub own_moves : (ℕ → List ℕ) → ℕ → List ℕ → List Entry
  own_moves rows rung parts = moves_from rows rung (tally_of parts 0)

-- es leads from a to b: each entry is allowed as the table then stands, each move gains or evens out, so many of them have a gain above 0, and so many
-- steps go down
pub record Took (G : Graph) (k bound : ℕ) (rows : ℕ → List ℕ) (es : List Entry) (a b : State) (moves steps : ℕ) : Type 0 where
  pub allowed : AllAllowed G k bound rows es a
  pub improve : AllImprove G rows es a
  pub ends : after rows es a ≡ b
  pub counted : gaining G rows es a ≡ moves
  pub stepped : downs es ≡ steps
