-- Lists of rounds from rung 0 up.
use Rattle.std.specs.Prelude.{ℕ, List, [], ◌∷◌}
use Rattle.graph.specs.Graph.{Graph, seen}
use Rattle.graph.specs.Rows.{clusters}
use Rattle.contraction.specs.Rules.{Round, Keeps}
use Rattle.contraction.specs.Next.{next_row_of}

-- the row after a list of rounds
abbrev pub row_after : List ℕ → List Round → List ℕ
row_after row [] = row
row_after row (ps ∷ rs) = row_after (next_row_of row ps) rs

-- each round keeps the rules on the row that the rounds before it left, by that row's own levels
abbrev pub AllKeep : Graph → List ℕ → List Round → Type 0
AllKeep G row [] = Unit {0}
AllKeep G row (ps ∷ rs) = Keeps (seen G row) (clusters row) ps × AllKeep G (next_row_of row ps) rs
