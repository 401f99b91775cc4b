-- What a walk from v can reach, and the lowest on a cycle.
use Rattle.std.specs.Prelude.{ℕ, zero, suc, Bool, not, ◌&&◌, ◌||◌, List, eqb, get_or}
use Rattle.folds.specs.Fold.{when, any_to, first_to, list_to}
use Rattle.graph.specs.Graph.{Arcs, edge}

-- edge j goes from a marked one to x, another one
unfoldable pub spreads : Arcs → List ℕ → ℕ → ℕ → Bool
spreads A marks x j = eqb (A.to j) x && (not (eqb (A.from j) x) && eqb (get_or marks (A.from j) 0) 1)

-- the marks, and one for each of the g numbers that an edge from a marked one goes to
unfoldable pub grown : Arcs → ℕ → List ℕ → List ℕ
grown A g marks = list_to g (λ x. when (eqb (get_or marks x 0) 1 || any_to A.count (spreads A marks x)) 1)

-- what at most r + 1 edges from v reach
unfoldable pub reached_after : Arcs → ℕ → ℕ → ℕ → List ℕ
reached_after A g v zero = list_to g (λ x. when (edge A v x) 1)
reached_after A g v (suc r) = grown A g (reached_after A g v r)

-- a walk from v comes back to v (laws `on_cycle_walk` and `walk_on_cycle`)
unfoldable pub on_cycle : Arcs → ℕ → ℕ → Bool
on_cycle A g v = eqb (get_or (reached_after A g v g) v 0) 1

-- document 01: the lowest on a loop, or g
unfoldable pub lowest_on_cycle : Arcs → ℕ → ℕ
lowest_on_cycle A g = first_to g (on_cycle A g)
