-- Leaving out edges that no cycle goes through: those to a cluster that none leaves.
use Rattle.std.specs.Prelude.{◌≡◌, ℕ, ◌+◌, ◌<◌, ◌≤◌, List, length, take, slice_index, slice_set}
use Rattle.graph.specs.Walk.{Acyclic}
use Rattle.graph.specs.Graph.{joining, Edge}

-- the first q entries are clusters
pub record Clusters (list : List ℕ) (q : ℕ) : Type 0 where
  pub room : q ≤ length list
  pub few : q ≤ 1024
  pub low : (i : ℕ) → i < q → slice_index list i < 512

-- what the first j edges leave is marked
pub record Marked (starts : List ℕ) (j : ℕ) (left : List ℕ) : Type 0 where
  pub tall : length left ≡ 512
  pub leaves : (i : ℕ) → i < j → 0 < slice_index left (slice_index starts i)

-- q edges, in lists of 1,024 entries
pub record Held (from to : List ℕ) (q : ℕ) : Type 0 where
  pub long : (length from ≡ 1024) × (length to ≡ 1024)
  pub starts : Clusters from q
  pub ends : Clusters to q

-- the edge from a to b stands at place t if the mark is set; else the lists are as they were
pub record Kept (mark a b : ℕ) (from to : List ℕ) (t : ℕ) (from' to' : List ℕ) (r : ℕ) : Type 0 where
  pub passed : mark ≡ 0 → (r ≡ t) × (from' ≡ from) × (to' ≡ to)
  pub stored : 0 < mark → (r ≡ t + 1) × (from' ≡ slice_set from t a) × (to' ≡ slice_set to t b)

-- of the first j edges, the numbers of those to a marked cluster are among the t in the front of the list
pub record Picking (left to : List ℕ) (j : ℕ) (picked : List ℕ) (t : ℕ) : Type 0 where
  pub long : length picked ≡ 1024
  pub few : t ≤ j
  pub there : (h : ℕ) → h < t → slice_index picked h < j
  pub kept : (i : ℕ) → i < j → 0 < slice_index left (slice_index to i) → (h : ℕ) × (h < t) × (slice_index picked h ≡ i)

-- the first t of these edges, written out
pub record Written (from to picked : List ℕ) (t : ℕ) (from' to' : List ℕ) : Type 0 where
  pub held : Held from' to' t
  pub from_is : (h : ℕ) → h < t → slice_index from' h ≡ slice_index from (slice_index picked h)
  pub to_is : (h : ℕ) → h < t → slice_index to' h ≡ slice_index to (slice_index picked h)

-- of the first j edges, those to a marked cluster are among the t in the front of from' and to'
pub record Sifting (left from to : List ℕ) (j : ℕ) (from' to' : List ℕ) (t : ℕ) : Type 0 where
  pub held : Held from' to' t
  pub few : t ≤ j
  pub kept : (i : ℕ) → i < j → 0 < slice_index left (slice_index to i) → (h : ℕ) × (h < t) × (slice_index from' h ≡ slice_index from i) × (slice_index to' h ≡ slice_index to i)

-- the entries from j on stand where they stood
pub record Unmoved (list list' : List ℕ) (j : ℕ) : Type 0 where
  pub rest : (i : ℕ) → j ≤ i → slice_index list' i ≡ slice_index list i

-- the first q edges form no cycle
abbrev pub Free : List ℕ → List ℕ → ℕ → Type 0
Free from to q = Acyclic (Edge (joining (take q from) (take q to)))

-- where the r edges that are left form no cycle, none of the q do
pub record Thinned (from to : List ℕ) (q : ℕ) (from' to' : List ℕ) (r : ℕ) : Type 0 where
  pub held : Held from' to' r
  pub few : r ≤ q
  pub free : Free from' to' r → Free from to q

-- where the r edges that are left form no cycle, none do
pub record Rest (starts ends from to : List ℕ) (r : ℕ) : Type 0 where
  pub held : Held from to r
  pub free : Free from to r → Acyclic (Edge (joining starts ends))
