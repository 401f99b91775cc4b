-- The public split: its answer, and what it leaves of the tables it is lent.
use Rattle.std.specs.Prelude.{ℕ, ◌*◌, Result as OkOr, Bool, ◌&&◌, List, [], ◌∷◌, leb, length}
use Rattle.folds.specs.Fold.{over}
use Rattle.graph.specs.Graph.{Graph, vertices, cut_of}
use Rattle.validity.specs.Cause.{Answer, Verdict, refusal, answered, if_answered, if_passed}
use Rattle.validity.specs.Check.{checked}
use Rattle.validity.specs.declared.Cause.TheVariants.{Uncut}
use Rattle.validity.specs.declared.Refusal.{Refusal}
use Rattle.hierarchy.specs.Rounds.{kept_of, rows_after}
use Rattle.partition.specs.Phases.{Result, nothing, parted, result_of}
use Rattle.refinement.specs.Pass.{Tally}
use Rattle.partition.specs.declared.Summary.{Summary}

-- document 01's values of a split: the cut, the rounds kept, the rung that was cut and the number of moves (of gain above 0: document 02, a)
abbrev pub figures : Summary → List ℕ
figures s = s.cut ∷ s.rounds ∷ s.rung ∷ s.moves ∷ []

-- the number and the values of each answer
abbrev pub answer_of : OkOr Summary Refusal → Answer
answer_of r = if_answered r (λ s. answered (figures s)) refusal

-- check 4: stage table under n, ladder under 9 × n
unfoldable pub room_for : ℕ → List ℕ → List ℕ → Bool
room_for n table rows = leb n (length table) && leb (9 * n) (length rows)

-- checks 1 to 8, with at most so many vertices
unfoldable pub verdict_of : ℕ → Graph → ℕ → ℕ → List ℕ → List ℕ → Verdict
verdict_of most G k bound table rows = checked most G k bound (room_for (vertices G) table rows)

abbrev pub summary_of : Graph → ℕ → ℕ → Tally → Summary
summary_of G kept rung tally = record { cut = cut_of G tally.parts; rounds = kept; rung = rung; moves = tally.moves }

-- the answer below the checks: 9 where no rung can be cut
abbrev pub values_of : Graph → ℕ → Result → Answer
values_of G kept nothing = refusal Uncut 0
values_of G kept (parted rung first tally) = answered (figures (summary_of G kept rung tally))

unfoldable pub split_of : ℕ → Graph → ℕ → ℕ → List ℕ → List ℕ → Answer
split_of most G k bound table rows = if_passed (verdict_of most G k bound table rows) (values_of G (kept_of G k bound) (result_of G k bound)) refusal

-- the stage table afterwards: a refusal leaves it, 9 too
abbrev pub parts_into : Result → List ℕ → List ℕ
parts_into nothing table = table
parts_into (parted rung first tally) table = over tally.parts table

unfoldable pub table_after : ℕ → Graph → ℕ → ℕ → List ℕ → List ℕ → List ℕ
table_after most G k bound table rows = if_passed (verdict_of most G k bound table rows) (parts_into (result_of G k bound) table) (λ cause place. table)

-- the ladder afterwards: it holds its rows, also where no rung can be cut
unfoldable pub rows_left : ℕ → Graph → ℕ → ℕ → List ℕ → List ℕ → List ℕ
rows_left most G k bound table rows = if_passed (verdict_of most G k bound table rows) (rows_after G k bound rows) (λ cause place. rows)
