-- Document 02, b: the check of a kit that is being drawn.
use Rattle.std.specs.Prelude.{ℕ, ◌+◌, true, Ok, Err, [], ◌∷◌, eqb}
use Rattle.folds.specs.Fold.{pick}
use Rattle.graph.specs.Graph.{Graph, edges}
use Rattle.validity.specs.Cause.{Answer, number_of, told, if_passed, Verdict}
use Rattle.validity.specs.Check.{most_vertices, checked}
use Rattle.validity.specs.declared.Checked.{Checked}

-- how many of m wires the search for a repeated one tried: all with 0 and with 8, the place and one more with 7, none where 1 to 6 refused
unfoldable pub tried_by : Verdict → ℕ → ℕ
tried_by (Ok passed) m = m
tried_by (Err r) m = pick (eqb (number_of r.cause) 7) (r.place + 1) (pick (eqb (number_of r.cause) 8) m 0)

-- a verdict with that count
abbrev pub checked_with : Verdict → ℕ → Checked
checked_with v m = record { verdict = v; tried = tried_by v m }

-- nothing is lent to write to, so that there is no check 4
abbrev pub drawn_of : Graph → ℕ → ℕ → Verdict
drawn_of G k bound = checked most_vertices G k bound true

-- what the call answers
abbrev pub check_of : Graph → ℕ → ℕ → Checked
check_of G k bound = checked_with (drawn_of G k bound) (edges G)

-- the number; the place, 0 with number 0; the wires tried
abbrev pub answer_of : Checked → Answer
answer_of c = record { number = (told c.verdict []).number; values = if_passed c.verdict 0 (λ cause place. place) ∷ c.tried ∷ [] }
