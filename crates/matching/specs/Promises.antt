-- What the arrays hold of the pairs chosen so far.
use Rattle.std.specs.Prelude.{ℕ, ◌+◌, ◌≤◌, ◌<◌, ◌≡◌, Bool, not, ◌&&◌, List, eqb, length, get_or, set}
use Rattle.folds.specs.Fold.{when, list_to, most_cost}
use Rattle.graph.specs.Walk.{Acyclic}
use Rattle.graph.specs.Graph.{Graph, graph_of, Arcs, arcs, seen, edge, Edge, RowOf, Proper, part_cost}
use Rattle.graph.specs.Rows.{clusters}
use Rattle.contraction.specs.Rules.{Pair, Round, Keeps}
use Rattle.contraction.specs.Tests.{all_of}
use Rattle.contraction.specs.Next.{mate_of}
use Rattle.matching_scan.specs.State.{Blocking}
use Rattle.topology.specs.Level.{levels_of, level, next_in}
use Rattle.matching.specs.Choice.{visit, round_of}

-- a row on which a round can run
pub record RoundReady (G : Graph) (row : List ℕ) (g : ℕ) : Type 0 where
  pub proper : Proper G
  pub row_of : RowOf G row g
  pub acyclic : Acyclic (Edge (seen G row))
  pub count : g ≡ clusters row
  pub small : g ≤ 512

-- the costs of g clusters in an array of 512
pub record ClusterCosts (g : ℕ) (weights : List ℕ) : Type 0 where
  pub tall : length weights ≡ 512
  pub past : (c : ℕ) → g ≤ c → get_or weights c 0 ≡ 0
  pub light : (c : ℕ) → get_or weights c 0 ≤ most_cost

-- some pair passes
unfoldable pub any_of : (Pair → Bool) → Round → Bool
any_of t ps = not (all_of (λ p. not (t p)) ps)

-- what the arrays hold of the pairs chosen so far: mates, which clusters are the `to` of a pair,
-- and which lie on the level after a pair's `from`, with an edge from it
pub record Holds (A : Arcs) (levels : List ℕ) (ps : Round) (mates tos blocked : List ℕ) : Type 0 where
  pub mates_are : (c : ℕ) → c < 512 → get_or mates c 0 ≡ mate_of ps c
  pub tos_are : (c : ℕ) → c < 512 → get_or tos c 0 ≡ when (any_of (λ p. eqb p.to c) ps) 1
  pub blocked_are : (c : ℕ) → c < 512 → get_or blocked c 0 ≡ when (any_of (λ p. edge A p.from c && next_in levels p.from c) ps) 1

-- the arrays have an entry for each of 512 clusters
pub record Tall (mates tos blocked : List ℕ) : Type 0 where
  pub mates_tall : length mates ≡ 512
  pub tos_tall : length tos ≡ 512
  pub blocked_tall : length blocked ≡ 512

-- the arrays of levels and cluster costs on a row
pub record Context (G : Graph) (row : List ℕ) (g : ℕ) (levels costs : List ℕ) : Type 0 where
  pub ready : RoundReady G row g
  pub levels_are : (v : ℕ) → get_or levels v 0 ≡ level (seen G row) g v
  pub costs_are : (c : ℕ) → c < 512 → get_or costs c 0 ≡ part_cost G.costs row c

-- u and v are a pair in the arrays
pub record Paired (A : Arcs) (levels : List ℕ) (u v : ℕ) (mates tos blocked mates' tos' blocked' : List ℕ) : Type 0 where
  pub mates_are : mates' ≡ set (set mates u v) v u
  pub tos_are : tos' ≡ set tos v 1
  pub blocks : Blocking A levels u A.count blocked blocked'

-- the arrays hold the pairs with what u takes, r pairs more
pub record Visited (G : Graph) (row levels : List ℕ) (g bound : ℕ) (ps : Round) (u : ℕ) (mates tos blocked : List ℕ) (r : ℕ) : Type 0 where
  pub holds : Holds (seen G row) levels (visit G row (levels_of (seen G row) g) g bound ps u) mates tos blocked
  pub counts : length (visit G row (levels_of (seen G row) g) g bound ps u) ≡ length ps + r

-- one visit over the edges A, whatever pairs the arrays hold
pub record Stepped (A : Arcs) (starts ends widths levels costs : List ℕ) (bound u : ℕ) (mates tos blocked mates' tos' blocked' : List ℕ) (r : ℕ) : Type 0 where
  pub tall : Tall mates' tos' blocked'
  pub few : r ≤ 1
  pub is : (vs row : List ℕ) (g : ℕ) → arcs row starts ends ≡ A → Context (graph_of vs starts ends widths) row g levels costs → (ps : Round) → Keeps (arcs row starts ends) g ps
      → Holds (arcs row starts ends) levels ps mates tos blocked → Visited (graph_of vs starts ends widths) row levels g bound ps u mates' tos' blocked' r

-- the mates of the round's pairs, r of them
pub record Matched (G : Graph) (bound : ℕ) (row mates : List ℕ) (r : ℕ) : Type 0 where
  pub counts : r ≡ length (round_of G bound row)
  pub few : r ≤ 512
  pub mates_are : mates ≡ list_to 512 (mate_of (round_of G bound row))
