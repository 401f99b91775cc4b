-- Inspection of a table, whichever program made it.
use Rattle.std.specs.Prelude.{ℕ, ◌&&◌, Result, List, [], ◌∷◌, leb, length, take}
use Rattle.folds.specs.Fold.{over}
use Rattle.graph.specs.Graph.{Graph, vertices, Arcs, seen, cut_of}
use Rattle.topology.specs.Order.{order_of}
use Rattle.validity.specs.Cause.{Answer, Verdict, Refused, refusal, answered, if_answered, if_passed, told}
use Rattle.validity.specs.Check.{most_vertices, checked}
use Rattle.validity.specs.declared.Refusal.{Refusal}
use Rattle.inspection.specs.Table.{table_of}

-- document 01's number and values of each answer: the cut, or the refusal and its place
abbrev pub answer_of : Result ℕ Refusal → Answer
answer_of r = if_answered r (λ cut. answered (cut ∷ [])) refusal

-- the entries of the table that inspection looks at
unfoldable pub parts_of : Graph → List ℕ → List ℕ
parts_of G table = take (vertices G) table

-- checks 1 to 8 (4: table under n, order under k), then 10 to 13
unfoldable pub verdict_of : Graph → ℕ → ℕ → List ℕ → List ℕ → Verdict
verdict_of G k bound table order =
    if_passed (checked most_vertices G k bound (leb (vertices G) (length table) && leb k (length order))) (table_of G k bound (parts_of G table)) Refused

-- the answer: the cut of the table, or the refusal
unfoldable pub inspect_of : Graph → ℕ → ℕ → List ℕ → List ℕ → Answer
inspect_of G k bound table order = told (verdict_of G k bound table order) (cut_of G (parts_of G table) ∷ [])

-- the start order lists the stages by the play order rule on the stages; a refusal leaves what is lent as it was
abbrev pub order_for : Verdict → Arcs → ℕ → List ℕ → List ℕ
order_for v A k order = if_passed v (over (order_of A k) order) (λ cause place. order)

unfoldable pub order_after : Graph → ℕ → ℕ → List ℕ → List ℕ → List ℕ
order_after G k bound table order = order_for (verdict_of G k bound table order) (seen G (parts_of G table)) k order
