-- Levels of clusters.
use Rattle.std.specs.Prelude.{ℕ, zero, suc, ◌+◌, Bool, not, ◌&&◌, List, eqb, get_or}
use Rattle.folds.specs.Fold.{when, max_to, list_to, zeros}
use Rattle.graph.specs.Graph.{Arcs}

-- what edge j says of the level of v, by the levels so far
unfoldable pub rise : Arcs → List ℕ → ℕ → ℕ → ℕ
rise A levels v j = when (eqb (A.to j) v && not (eqb (A.from j) v)) (suc (get_or levels (A.from j) 0))

-- the levels of g clusters after r rounds over all edges
unfoldable pub levels_after : Arcs → ℕ → ℕ → List ℕ
levels_after A g zero = zeros g
levels_after A g (suc r) = let levels = levels_after A g r in list_to g (λ v. max_to A.count (rise A levels v))

-- document 01: a group's level is the number of wires on the longest path that ends at it (laws `level_path` and `path_level`)
unfoldable pub levels_of : Arcs → ℕ → List ℕ
levels_of A g = levels_after A g g

unfoldable pub level : Arcs → ℕ → ℕ → ℕ
level A g v = get_or (levels_of A g) v 0

-- the level of v is one above that of u, by a list of levels
unfoldable pub next_in : List ℕ → ℕ → ℕ → Bool
next_in levels u v = eqb (get_or levels v 0) (get_or levels u 0 + 1)
