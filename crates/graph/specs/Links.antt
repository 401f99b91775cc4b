-- What the code of this crate promises: edges in lists by key, and where the next edge of the same key is.
use Rattle.std.specs.Prelude.{ℕ, ◌+◌, ◌≤◌, ◌<◌, ◌≡◌, List, eqb, length, get_or}
use Rattle.folds.specs.Fold.{pick}
use Rattle.graph.specs.Graph.{via, Arcs, crossing}

-- to is the least edge from `from` on with the key a, or m
pub record Hop (key : ℕ → ℕ) (m a from to : ℕ) : Type 0 where
  pub within : to ≤ m
  pub past : from ≤ to
  pub skips : (i : ℕ) → from ≤ i → i < to → key i ≡ a → ⊥
  pub lands : to < m → key to ≡ a

-- the first edge of each key, and the next of the same key of each edge
pub record Linked (key : ℕ → ℕ) (m : ℕ) (head next : List ℕ) : Type 0 where
  pub tall : length head ≡ 513
  pub long : length next ≡ 1024
  pub heads : (a : ℕ) → a < 512 → Hop key m a 0 (get_or head a 0)
  pub nexts : (j : ℕ) → j < m → Hop key m (key j) (j + 1) (get_or next j 0)

-- the cluster that edge j leaves, or 512 where it stays in one
unfoldable pub leave : Arcs → ℕ → ℕ
leave A j = pick (eqb (A.from j) (A.to j)) 512 (A.from j)

pub record Leaves (A : Arcs) (j r : ℕ) : Type 0 where
  pub is : r ≡ leave A j
  pub low : r < 513

-- at most 1024 edges whose ends are vertices of row, and the clusters of row are below 512
pub record Ends (row ends : List ℕ) : Type 0 where
  pub few : length ends ≤ 1024
  pub rows : length row ≤ 512
  pub in_row : (j : ℕ) → j < length ends → get_or ends j 0 < length row
  pub low : (v : ℕ) → v < length row → get_or row v 0 < 512

-- edges between the vertices of row
pub record Joins (row starts ends : List ℕ) : Type 0 where
  pub out : Ends row starts
  pub into : Ends row ends
  pub same : length ends ≡ length starts

-- the ends of at most 1024 edges, clusters below 512
pub record Named (ends : List ℕ) : Type 0 where
  pub few : length ends ≤ 1024
  pub low : (i : ℕ) → i < length ends → get_or ends i 0 < 512

-- the two ends of each edge: edge i goes from cluster froms[i] to cluster tos[i]
pub record Ended (froms tos : List ℕ) : Type 0 where
  pub from : Named froms
  pub to : Named tos
  pub same : length tos ≡ length froms

-- r is the cluster at which edge j has its end
pub record Cluster (row ends : List ℕ) (j r : ℕ) : Type 0 where
  pub is : r ≡ via row ends j
  pub low : r < 512

-- r is what edge j adds to the cut
pub record Crossing (A : Arcs) (widths : List ℕ) (j r : ℕ) : Type 0 where
  pub is : r ≡ crossing A widths j
  pub low : r < 65536
