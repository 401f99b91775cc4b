-- The split's three phases: coarsen, initial partition, refine.
use Rattle.std.specs.Prelude.{ℕ, List}
use Rattle.graph.specs.Graph.{Graph}
use Rattle.hierarchy.specs.Rounds.{kept_of, row_of}
use Rattle.initial.specs.Initial.{Chosen, found, uncut, chosen_of}
use Rattle.refinement.specs.Pass.{Tally, refined}

-- no rung can be cut; or the rung that was cut, the first cut's table, and the table and the moves that refinement leaves on rung 0
pub data Result : Type 0 where
  nothing : Result
  parted : ℕ → List ℕ → Tally → Result

-- document 01, "First cut": the highest kept rung that can be divided, and its least division
unfoldable pub first_of : Graph → ℕ → ℕ → Chosen
first_of G k bound = chosen_of G k bound (row_of G k bound) (kept_of G k bound)

-- document 01, "Moves", and document 02, a: from the first cut down the rungs
abbrev pub refined_from : Graph → ℕ → ℕ → Chosen → Result
refined_from G k bound uncut = nothing
refined_from G k bound (found rung first cut) = parted rung first (refined G k bound (row_of G k bound) rung first)

unfoldable pub result_of : Graph → ℕ → ℕ → Result
result_of G k bound = refined_from G k bound (first_of G k bound)
