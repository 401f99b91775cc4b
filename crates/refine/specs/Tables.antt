-- What the loops over vertices write: the parts of clusters, and back.
use Rattle.std.specs.Prelude.{ℕ, ◌<◌, ◌≡◌, List, length, get_or}
use Rattle.neighbours.specs.Visit.{Placed}

-- a cluster below 512 for each vertex, and a part below 16, shared in a cluster
pub record Shared (row parts : List ℕ) : Type 0 where
  pub same : length parts ≡ length row
  pub low : (v : ℕ) → v < length row → get_or row v 0 < 512
  pub few : (v : ℕ) → v < length row → get_or parts v 0 < 16
  pub shared : (a b : ℕ) → a < length row → b < length row → get_or row a 0 ≡ get_or row b 0 → get_or parts a 0 ≡ get_or parts b 0

-- the clusters of the first m vertices have their parts
pub record Inherits (row parts : List ℕ) (m : ℕ) (table : List ℕ) : Type 0 where
  pub placed : Placed table
  pub is : (v : ℕ) → v < m → get_or table (get_or row v 0) 0 ≡ get_or parts v 0
