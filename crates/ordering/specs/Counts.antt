-- Counts of the edges that still wait, by which the order is found fast.
use Rattle.std.specs.Prelude.{ℕ, ◌+◌, ◌<◌, ◌≡◌, Bool, not, ◌&&◌, List, eqb, ltb, length, get_or}
use Rattle.folds.specs.Fold.{when, sum_to}
use Rattle.graph.specs.Graph.{Arcs}
use Rattle.pool.specs.Pool.{Kept}
use Rattle.topology.specs.Order.{waits}

-- 1 where edge j waits at v
unfoldable pub left : Arcs → List ℕ → ℕ → ℕ → ℕ
left A marks v j = when (waits A marks v j) 1

-- 1 where edge j goes from one to another
unfoldable pub cross : Arcs → ℕ → ℕ
cross A j = when (not (eqb (A.from j) (A.to j))) 1

-- 1 where edge j goes from u to v, another one
unfoldable pub gone : Arcs → ℕ → ℕ → ℕ → ℕ
gone A u v j = when (eqb (A.from j) u) (when (eqb (A.to j) v) (cross A j))

-- how many edges into each wait
pub record Counted (A : Arcs) (marks count : List ℕ) : Type 0 where
  pub tall : length count ≡ 512
  pub is : (v : ℕ) → v < 512 → get_or count v 0 ≡ sum_to A.count (left A marks v)

-- v is not taken, and waits for nothing
unfoldable pub free : List ℕ → List ℕ → ℕ → Bool
free marks count v = eqb (get_or marks v 0) 0 && eqb (get_or count v 0) 0

-- v is free, and below g
unfoldable pub open_at : ℕ → List ℕ → List ℕ → ℕ → Bool
open_at g marks count v = ltb v g && free marks count v

-- what is taken waits for nothing
abbrev pub TakenFree : List ℕ → List ℕ → Type 0
TakenFree marks count = (v : ℕ) → v < 512 → (get_or marks v 0 ≡ 0 → ⊥) → get_or count v 0 ≡ 0

-- an edge from u to b no longer counts, unless b is u, and the pool of the open ones follows
pub record TakenOff (u b g : ℕ) (count pool count' pool' : List ℕ) : Type 0 where
  pub tall : length count' ≡ 512
  pub is : (v : ℕ) → v < 512 → get_or count' v 0 + when (eqb b v) (when (not (eqb u b)) 1) ≡ get_or count v 0
  pub keeps : (marks : List ℕ) → TakenFree marks count → Kept (open_at g marks count) pool → Kept (open_at g marks count') pool'

-- the edges of u below j no longer count, and the pool of the open ones follows
pub record Released (A : Arcs) (u j g : ℕ) (count pool count' pool' : List ℕ) : Type 0 where
  pub tall : length count' ≡ 512
  pub is : (v : ℕ) → v < 512 → get_or count' v 0 + sum_to j (gone A u v) ≡ get_or count v 0
  pub keeps : (marks : List ℕ) → TakenFree marks count → Kept (open_at g marks count) pool → Kept (open_at g marks count') pool'
