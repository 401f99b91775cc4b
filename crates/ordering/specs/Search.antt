-- A search from v along edges: what its marks and its queue hold.
use Rattle.std.specs.Prelude.{ℕ, ◌≤◌, ◌<◌, ◌≡◌, Bool, true, false, ◌⊎◌, List, length, get_or}
use Rattle.folds.specs.Fold.{count_to}
use Rattle.graph.specs.Walk.{Walk}
use Rattle.graph.specs.Graph.{Arcs, Edge}
use Rattle.topology.specs.Order.{order_of}
use Rattle.topology.specs.Reach.{on_cycle}

abbrev pub marked : List Bool → ℕ → Bool
marked marks x = get_or marks x false

-- the marked ones are those in the first n entries of the queue, and a walk from v goes to each
pub record Queued (A : Arcs) (v : ℕ) (marks : List Bool) (queue : List ℕ) (n : ℕ) : Type 0 where
  pub tall : length marks ≡ 512
  pub long : length queue ≡ 512
  pub many : n ≡ count_to 512 (marked marks)
  pub entries : (i : ℕ) → i < n → marked marks (get_or queue i 0) ≡ true
  pub queued : (x : ℕ) → marked marks x ≡ true → (i : ℕ) × (i < n) × (get_or queue i 0 ≡ x)
  pub walks : (x : ℕ) → marked marks x ≡ true → Walk (Edge A) v x

-- after the first j edges: nothing is lost, and what those from u go to is marked
pub record Spread (A : Arcs) (v u j : ℕ) (marks : List Bool) (queue : List ℕ) (n : ℕ) (marks' : List Bool) (queue' : List ℕ) (n' : ℕ) : Type 0 where
  pub now : Queued A v marks' queue' n'
  pub more : n ≤ n'
  pub kept : (i : ℕ) → i < n → get_or queue' i 0 ≡ get_or queue i 0
  pub grown : (x : ℕ) → marked marks x ≡ true → marked marks' x ≡ true
  pub done : (i : ℕ) → i < j → A.from i ≡ u → (A.to i ≡ u → ⊥) → marked marks' (A.to i) ≡ true

-- the same after one more, b
pub record Entered (A : Arcs) (v u b : ℕ) (marks : List Bool) (queue : List ℕ) (n : ℕ) (marks' : List Bool) (queue' : List ℕ) (n' : ℕ) : Type 0 where
  pub now : Queued A v marks' queue' n'
  pub more : n ≤ n'
  pub kept : (i : ℕ) → i < n → get_or queue' i 0 ≡ get_or queue i 0
  pub grown : (x : ℕ) → marked marks x ≡ true → marked marks' x ≡ true
  pub done : (b ≡ u → ⊥) → marked marks' b ≡ true

-- the marked ones lie on no cycle
pub record OffCycles (A : Arcs) (g : ℕ) (aside : List Bool) : Type 0 where
  pub tall : length aside ≡ 512
  pub off : (v : ℕ) → marked aside v ≡ true → on_cycle A g v ≡ false

-- marked is what was marked before, and the first n entries of an order
pub record SetAside (order : List ℕ) (n : ℕ) (aside aside' : List Bool) : Type 0 where
  pub tall : length aside' ≡ 512
  pub from : (v : ℕ) → marked aside' v ≡ true → (marked aside v ≡ true) ⊎ ((i : ℕ) × (i < n) × (get_or order i 0 ≡ v))

-- the first n entries are the topological order, as far as it goes
pub record Ordering (A : Arcs) (g : ℕ) (order : List ℕ) (n : ℕ) : Type 0 where
  pub few : n ≤ 512
  pub count : n ≡ length (order_of A g)
  pub is : (i : ℕ) → i < n → get_or order i 0 ≡ get_or (order_of A g) i 0
