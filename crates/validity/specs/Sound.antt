-- What a valid graph has, as propositions.
use Rattle.std.specs.Prelude.{ℕ, ◌<◌, ◌≤◌, ◌≡◌, get_or}
use Rattle.graph.specs.Walk.{Acyclic}
use Rattle.graph.specs.Graph.{Graph, vertices, edges, identity, seen, Edge, Proper}

-- document 01: a sound kit, with k stages and a limit
pub record Sound (G : Graph) (k bound : ℕ) : Type 0 where
  pub proper : Proper G
  pub acyclic : Acyclic (Edge (seen G (identity (vertices G))))
  pub some : 0 < k
  pub few : k ≤ 16
  pub filled : k ≤ vertices G
  pub within : (v : ℕ) → v < vertices G → get_or G.costs v 0 ≤ bound
  pub apart : (j : ℕ) → j < edges G → get_or G.starts j 0 ≡ get_or G.ends j 0 → ⊥
  pub once : (i j : ℕ) → i < j → j < edges G → get_or G.starts i 0 ≡ get_or G.starts j 0 → get_or G.ends i 0 ≡ get_or G.ends j 0 → ⊥
