-- The topological order of clusters or parts.
use Rattle.std.specs.Prelude.{ℕ, zero, suc, ◌≤◌, ◌<◌, ◌≡◌, Bool, not, ◌&&◌, List, [], ◌∷◌, eqb, ltb, length, get_or, set}
use Rattle.folds.specs.Fold.{pick, any_to, first_to, zeros}
use Rattle.graph.specs.Graph.{Arcs}

-- edge j goes into v from another one, which is not taken
unfoldable pub waits : Arcs → List ℕ → ℕ → ℕ → Bool
waits A marks v j = eqb (A.to j) v && (not (eqb (A.from j) v) && eqb (get_or marks (A.from j) 0) 0)

-- v is not taken, and all its predecessors are
unfoldable pub ready : Arcs → List ℕ → ℕ → Bool
ready A marks v = eqb (get_or marks v 0) 0 && not (any_to A.count (waits A marks v))

-- v in front of rest where v is below g, else nothing
unfoldable pub or_none : ℕ → ℕ → List ℕ → List ℕ
or_none v g rest = pick (ltb v g) (v ∷ rest) []

-- at most k of the numbers below g, each the lowest that is ready
unfoldable pub order_from : Arcs → ℕ → ℕ → List ℕ → List ℕ
order_from A g zero marks = []
order_from A g (suc k) marks =
    let v = first_to g (ready A marks) in or_none v g (order_from A g k (set marks v 1))

-- document 01, play order: again and again take the lowest-numbered whose senders have all been taken
unfoldable pub order_of : Arcs → ℕ → List ℕ
order_of A g = order_from A g g (zeros g)

-- the place of v in an order, or its length
unfoldable pub place_in : List ℕ → ℕ → ℕ
place_in order v = first_to (length order) (λ i. eqb (get_or order i 0) v)

-- the front of `order` holds the clusters in topological order
pub record InOrder (A : Arcs) (g : ℕ) (order : List ℕ) : Type 0 where
  pub long : g ≤ length order
  pub is : (i : ℕ) → i < g → get_or order i 0 ≡ get_or (order_of A g) i 0
