-- Graphs, edges between the clusters of a row, the cut of a table and the cost of a part.
use Rattle.std.specs.Prelude.{ℕ, ◌≤◌, ◌<◌, ◌≡◌, Bool, true, not, ◌&&◌, List, eqb, length, get_or}
use Rattle.folds.specs.Fold.{when, sum_to, any_to, list_to}

-- document 01: a kit's lists. Vertex v costs costs[v]; edge j goes from vertex starts[j] to vertex ends[j] with the width widths[j]
pub record Graph : Type 0 where
  pub costs : List ℕ
  pub starts : List ℕ
  pub ends : List ℕ
  pub widths : List ℕ

abbrev pub graph_of : List ℕ → List ℕ → List ℕ → List ℕ → Graph
graph_of costs starts ends widths = record { costs = costs; starts = starts; ends = ends; widths = widths }

-- document 01: n blocks and m wires
abbrev pub vertices : Graph → ℕ
vertices G = length G.costs

abbrev pub edges : Graph → ℕ
edges G = length G.starts

-- A row gives each vertex its cluster (document 01: the group of a block on a rung); a table gives each vertex its part (its stage).
-- The number that `row` gives the vertex at edge j's end in `ends`:
abbrev pub via : List ℕ → List ℕ → ℕ → ℕ
via row ends j = get_or row (get_or ends j 0) 0

-- document 01: rung 0 is the blocks themselves
unfoldable pub identity : ℕ → List ℕ
identity n = list_to n (λ v. v)

-- edges between numbered clusters or parts: edge j goes from `from j` to `to j`
pub record Arcs : Type 0 where
  pub count : ℕ
  pub from : ℕ → ℕ
  pub to : ℕ → ℕ

abbrev pub arcs : List ℕ → List ℕ → List ℕ → Arcs
arcs row starts ends = record { count = length starts; from = via row starts; to = via row ends }

-- the edges of two lists that name clusters themselves
abbrev pub joining : List ℕ → List ℕ → Arcs
joining froms tos = record { count = length froms; from = λ j. get_or froms j 0; to = λ j. get_or tos j 0 }

-- the edges of a graph as a row or table sees them
abbrev pub seen : Graph → List ℕ → Arcs
seen G row = arcs row G.starts G.ends

-- an edge goes from a to b, another one
unfoldable pub edge : Arcs → ℕ → ℕ → Bool
edge A a b = not (eqb a b) && any_to A.count (λ j. eqb (A.from j) a && eqb (A.to j) b)

abbrev pub Edge : Arcs → ℕ → ℕ → Type 0
Edge A a b = edge A a b ≡ true

-- document 01: all wires from one group to another count as one with the summed width
unfoldable pub width_of : Arcs → List ℕ → ℕ → ℕ → ℕ
width_of A widths a b = when (not (eqb a b)) (sum_to A.count (λ j. when (eqb (A.from j) a && eqb (A.to j) b) (get_or widths j 0)))

-- document 01: the cut is the summed width of wires whose ends lie in different stages
unfoldable pub crossing : Arcs → List ℕ → ℕ → ℕ
crossing A widths j = when (not (eqb (A.from j) (A.to j))) (get_or widths j 0)

unfoldable pub cut : Arcs → List ℕ → ℕ
cut A widths = sum_to A.count (crossing A widths)

abbrev pub cut_of : Graph → List ℕ → ℕ
cut_of G parts = cut (seen G parts) G.widths

-- document 01: the summed cost of what lies in stage u (or in group u, where `parts` is a row)
unfoldable pub cost_in : List ℕ → List ℕ → ℕ → ℕ → ℕ
cost_in costs parts u v = when (eqb (get_or parts v 0) u) (get_or costs v 0)

unfoldable pub part_cost : List ℕ → List ℕ → ℕ → ℕ
part_cost costs parts u = sum_to (length costs) (cost_in costs parts u)

-- the table that gives each vertex the part of its cluster (document 01: groups inherit their blocks' stages, read the other way)
unfoldable pub through : List ℕ → List ℕ → List ℕ
through row table = list_to (length row) (λ v. get_or table (get_or row v 0) 0)

-- the lists of a graph fit together: each edge has two ends, which are vertices, and a width
pub record Formed (G : Graph) : Type 0 where
  pub same_ends : length G.ends ≡ length G.starts
  pub same_widths : length G.widths ≡ length G.starts
  pub start_in : (j : ℕ) → j < edges G → get_or G.starts j 0 < vertices G
  pub end_in : (j : ℕ) → j < edges G → get_or G.ends j 0 < vertices G

-- a row with g clusters: an entry for each vertex, each below g
pub record RowOf (G : Graph) (row : List ℕ) (g : ℕ) : Type 0 where
  pub whole : length row ≡ vertices G
  pub below : (v : ℕ) → v < vertices G → get_or row v 0 < g

-- every edge joins numbers below g
abbrev pub Inside : Arcs → ℕ → Type 0
Inside A g = (j : ℕ) → j < A.count → (A.from j < g) × (A.to j < g)

-- what the checks of a graph give: lists that fit together, 1 to 512 vertices, at most 1024 edges, costs and widths above 0
pub record Proper (G : Graph) : Type 0 where
  pub formed : Formed G
  pub some : 0 < vertices G
  pub few : vertices G ≤ 512
  pub many : edges G ≤ 1024
  pub costly : (v : ℕ) → v < vertices G → 0 < get_or G.costs v 0
  pub wide : (j : ℕ) → j < edges G → 0 < get_or G.widths j 0
