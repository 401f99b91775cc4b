-- What the calls that build the hierarchy leave.
use Rattle.std.specs.Prelude.{ℕ, suc, ◌+◌, ◌*◌, ◌≤◌, ◌<◌, ◌≡◌, List, length, get_or, set, take, Option, Some, None}
use Rattle.folds.specs.Fold.{pick, sum_to, over, put, part, zeros, most_cost}
use Rattle.graph.specs.Walk.{Acyclic}
use Rattle.graph.specs.Graph.{Graph, vertices, edges, identity, joining, seen, Edge, part_cost, Proper}
use Rattle.graph.specs.Rows.{clusters, rows_in}
use Rattle.graph.specs.Coarse.{Coarse, Stored, LinkedAt}
use Rattle.topology.specs.Order.{order_of, InOrder}
use Rattle.topology.specs.Level.{levels_of}
use Rattle.contraction.specs.Next.{next_row_of}
use Rattle.contraction.specs.Promises.{Renamed}
use Rattle.matching.specs.Choice.{round_of}
use Rattle.matching.specs.Promises.{ClusterCosts}
use Rattle.row_lists.specs.Carry.{Between, Next, Merged}
use Rattle.hierarchy.specs.Rounds.{kept, kept_of, rows_after}

-- what is carried of a row with g clusters: its lists, the clusters' costs and their topological order
pub record Carries (G : Graph) (row : List ℕ) (g : ℕ) (weights froms tos widths order : List ℕ) : Type 0 where
  pub onto : (c : ℕ) → c < g → (v : ℕ) × (v < vertices G) × (get_or row v 0 ≡ c)
  pub lists : Coarse G row g froms tos widths
  pub weighed : ClusterCosts g weights
  pub costs : (c : ℕ) → get_or weights c 0 ≡ part_cost G.costs row c
  pub ordered : InOrder (seen G row) g order

-- a round on row r: where it is kept, its row stands after row r, and it answers how many clusters that has; else none, and all is as it was
pub record JoinedRow (G : Graph) (k bound r : ℕ) (rows rows' : List ℕ) (answer : Option ℕ) : Type 0 where
  pub rows_are : rows' ≡ pick (kept G k bound (rows_in rows (vertices G) r) (round_of G bound (rows_in rows (vertices G) r)))
      (put rows (r * vertices G + vertices G) (next_row_of (rows_in rows (vertices G) r) (round_of G bound (rows_in rows (vertices G) r)))) rows
  pub answer_is : answer ≡ pick (kept G k bound (rows_in rows (vertices G) r) (round_of G bound (rows_in rows (vertices G) r)))
      (Some (clusters (next_row_of (rows_in rows (vertices G) r) (round_of G bound (rows_in rows (vertices G) r))))) None

-- where the round was kept, map has the new number of each cluster
pub record JoinsRow (G : Graph) (k bound r : ℕ) (rows rows' map : List ℕ) (answer : Option ℕ) : Type 0 where
  pub joined : JoinedRow G k bound r rows rows' answer
  pub renamed : (h : ℕ) → answer ≡ Some h → Renamed (rows_in rows (vertices G) r) (next_row_of (rows_in rows (vertices G) r) (round_of G bound (rows_in rows (vertices G) r))) map

-- the lists and the topological orders of rows 0 to top, each end to end
pub record Carried (G : Graph) (rows : ℕ → List ℕ) (top : ℕ) (froms tos widths sizes orders : List ℕ) : Type 0 where
  pub lists : Stored G rows top (edges G) froms tos widths sizes
  pub nine : length sizes ≡ 9
  pub long : suc top * vertices G ≤ length orders
  pub order : (r : ℕ) → r ≤ top → take (clusters (rows r)) (part orders (r * vertices G) (vertices G)) ≡ order_of (seen G (rows r)) (clusters (rows r))

-- what is carried up to row r, which has g clusters: lists, orders, and the clusters' costs
pub record Carrying (G : Graph) (rows : List ℕ) (r g : ℕ) (froms tos widths sizes orders weights : List ℕ) : Type 0 where
  pub carried : Carried G (rows_in rows (vertices G)) r froms tos widths sizes orders
  pub weighed : ClusterCosts g weights
  pub costs : (c : ℕ) → get_or weights c 0 ≡ part_cost G.costs (rows_in rows (vertices G) r) c

-- the levels of row r's g clusters, by its stored lists
pub record LevelsAt (m r g : ℕ) (froms tos sizes levels : List ℕ) : Type 0 where
  pub are : levels ≡ over (levels_of (joining (part froms (r * m) (get_or sizes r 0)) (part tos (r * m) (get_or sizes r 0))) g) (zeros 512)

-- room for nine rows, their lists and their orders
pub record RowsRoom (G : Graph) (rows froms tos widths sizes orders : List ℕ) : Type 0 where
  pub row_room : 9 * vertices G ≤ length rows
  pub from_room : 9 * edges G ≤ length froms
  pub to_room : 9 * edges G ≤ length tos
  pub width_room : 9 * edges G ≤ length widths
  pub nine : length sizes ≡ 9
  pub order_room : 9 * vertices G ≤ length orders

-- a round on row r, with what is then carried: as it was, or up to row r + 1; the links are those of the last row, and so are the levels where a
-- round was kept
pub record Steps (G : Graph) (k bound r : ℕ) (rows rows' froms tos widths sizes orders weights head next levels : List ℕ) (answer : Option ℕ) : Type 0 where
  pub joined : JoinedRow G k bound r rows rows' answer
  pub none : answer ≡ None → Carried G (rows_in rows' (vertices G)) r froms tos widths sizes orders
  pub some : (h : ℕ) → answer ≡ Some h → Carrying G rows' (r + 1) h froms tos widths sizes orders weights
  pub links_stay : answer ≡ None → LinkedAt (edges G) r froms tos sizes head next
  pub links_next : (h : ℕ) → answer ≡ Some h → LinkedAt (edges G) (r + 1) froms tos sizes head next
  pub levels_next : (h : ℕ) → answer ≡ Some h → LevelsAt (edges G) (r + 1) h froms tos sizes levels

-- row r has `size` edges, and there is room for those of row r + 1 and its order
pub record HandsOn (n m r g : ℕ) (froms tos widths sizes orders weights : List ℕ) : Type 0 where
  pub row : r < 8
  pub vertices_few : n ≤ 512
  pub edges_few : m ≤ 1024
  pub few : get_or sizes r 0 ≤ m
  pub nine : length sizes ≡ 9
  pub between : Between g (part froms (r * m) (get_or sizes r 0)) (part tos (r * m) (get_or sizes r 0)) (part widths (r * m) (get_or sizes r 0))
  pub from_room : 9 * m ≤ length froms
  pub to_room : 9 * m ≤ length tos
  pub width_room : 9 * m ≤ length widths
  pub order_room : 9 * n ≤ length orders
  pub tall : length weights ≡ 512
  pub light : sum_to g (λ c. get_or weights c 0) ≤ most_cost

-- the lists of row r + 1, its costs, its order, and its levels where the order takes all
pub record HandedOn (map : List ℕ) (n m r g h : ℕ) (froms tos widths sizes orders weights froms' tos' widths' sizes' orders' weights' levels' : List ℕ) : Type 0 where
  pub count : ℕ
  pub next : Next map g h (r * m) (get_or sizes r 0) (r * m + m) froms tos widths froms' tos' widths' count
  pub sizes_are : sizes' ≡ set sizes (r + 1) count
  pub merged : Merged map weights g weights'
  pub orders_are : orders' ≡ put orders (r * n + n) (over (order_of (joining next.from next.to) h) (part orders (r * n + n) n))
  pub levels_are : length (order_of (joining next.from next.to) h) ≡ h → LevelsAt m (r + 1) h froms' tos' sizes' levels'

-- a graph whose hierarchy can be built
pub record Buildable (G : Graph) (k : ℕ) : Type 0 where
  pub proper : Proper G
  pub apart : (j : ℕ) → j < edges G → get_or G.starts j 0 ≡ get_or G.ends j 0 → ⊥
  pub once : (i j : ℕ) → i < j → j < edges G → get_or G.starts i 0 ≡ get_or G.starts j 0 → get_or G.ends i 0 ≡ get_or G.ends j 0 → ⊥
  pub acyclic : Acyclic (Edge (seen G (identity (vertices G))))
  pub few : k ≤ 16

-- the rounds kept, and all rows afterwards
pub record Built (G : Graph) (k bound : ℕ) (rows rows' : List ℕ) (answer : ℕ) : Type 0 where
  pub kept_is : answer ≡ kept_of G k bound
  pub rows_is : rows' ≡ rows_after G k bound rows
