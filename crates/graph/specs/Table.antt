-- A table of parts (document 01: each block's stage): the size of a part, its place in the running order, and what makes a table good on a row.
use Rattle.std.specs.Prelude.{ℕ, ◌≤◌, ◌<◌, ◌≡◌, Bool, List, eqb, length, get_or}
use Rattle.folds.specs.Fold.{when, sum_to}
use Rattle.graph.specs.Graph.{Graph, vertices, edges, via}

-- THE SIZE of a set of vertices, the one figure that is compared with the bound: the summed cost of its members
unfoldable pub size_of : Graph → (ℕ → Bool) → ℕ
size_of G member = sum_to (vertices G) (λ v. when (member v) (get_or G.costs v 0))

abbrev pub in_part : List ℕ → ℕ → ℕ → Bool
in_part parts u v = eqb (get_or parts v 0) u

unfoldable pub part_size : Graph → List ℕ → ℕ → ℕ
part_size G parts u = size_of G (in_part parts u)

-- the place of part u in the running order of a table of k parts: its number (document 01: a stage is later if its number is higher)
unfoldable pub place_at : Graph → ℕ → List ℕ → ℕ → ℕ
place_at G k parts u = u

-- what holds at the first cut and after each move: of a table over the clusters of a row
pub record Good (G : Graph) (k bound : ℕ) (row parts : List ℕ) : Type 0 where
  -- a part below k for each vertex, and vertices of one cluster share it
  pub whole : length parts ≡ vertices G
  pub below : (v : ℕ) → v < vertices G → get_or parts v 0 < k
  pub shared : (a b : ℕ) → a < vertices G → b < vertices G → get_or row a 0 ≡ get_or row b 0 → get_or parts a 0 ≡ get_or parts b 0
  -- no edge goes from a later part to an earlier one
  pub forward : (j : ℕ) → j < edges G → place_at G k parts (via parts G.starts j) ≤ place_at G k parts (via parts G.ends j)
  -- some vertex lies in each part, and each is within the bound
  pub filled : (u : ℕ) → u < k → (v : ℕ) × (v < vertices G) × (get_or parts v 0 ≡ u)
  pub within : (u : ℕ) → u < k → part_size G parts u ≤ bound
