-- One move of a cluster: what its edges weigh, the gain, the candidates, what is allowed and what improves (document 01, "Moves"; document 02, a).
use Rattle.std.specs.Prelude.{ℕ, ◌+◌, ◌≤◌, ◌<◌, max, ◌≡◌, Bool, true, not, ◌&&◌, ◌⊎◌, List, eqb, ℤ, pos, ◌-ℤ◌, length, get_or}
use Rattle.std.specs.Int.Signed.{lt_z}
use Rattle.folds.specs.Fold.{pick, when, sum_to, first_to, list_to}
use Rattle.graph.specs.Graph.{Graph, vertices, edges, via, part_cost}
use Rattle.graph.specs.Rows.{clusters}
use Rattle.graph.specs.Table.{part_size}

-- the table in which the vertices of cluster h have the part t
unfoldable pub moved_to : List ℕ → ℕ → ℕ → List ℕ → List ℕ
moved_to row h t parts = list_to (length parts) (λ v. pick (eqb (get_or row v 0) h) t (get_or parts v 0))

-- the part of cluster h: that of its lowest vertex (document 01: groups inherit their blocks' stages)
unfoldable pub part_of : List ℕ → List ℕ → ℕ → ℕ
part_of row parts h = get_or parts (first_to (length row) (λ v. eqb (get_or row v 0) h)) 0

-- edge j has its near end in cluster h, and its far end in another one
unfoldable pub leaves : List ℕ → List ℕ → List ℕ → ℕ → ℕ → Bool
leaves row near far h j = eqb (via row near j) h && not (eqb (via row far j) h)

-- the width of edge j where it leads from h to another cluster, of part u
unfoldable pub share : List ℕ → List ℕ → List ℕ → List ℕ → List ℕ → ℕ → ℕ → ℕ → ℕ
share row near far widths parts h u j = when (leaves row near far h j && eqb (via parts far j) u) (get_or widths j 0)

-- the summed width of h's edges to or from other clusters of part u
unfoldable pub pull : Graph → List ℕ → List ℕ → ℕ → ℕ → ℕ
pull G row parts h u =
    sum_to (edges G) (share row G.starts G.ends G.widths parts h u) + sum_to (edges G) (share row G.ends G.starts G.widths parts h u)

-- document 01: the gain, a signed number
unfoldable pub gain_to : Graph → List ℕ → List ℕ → ℕ → ℕ → ℤ
gain_to G row parts h t = pos (pull G row parts h t) -ℤ pos (pull G row parts h (part_of row parts h))

-- document 02, a: every part from the highest of the predecessors (0 if there is none) to the lowest of the successors (k - 1 if there is none), other
-- than the cluster's own
pub record Candidate (G : Graph) (k : ℕ) (row parts : List ℕ) (h t : ℕ) : Type 0 where
  pub low : (j : ℕ) → j < edges G → leaves row G.ends G.starts h j ≡ true → via parts G.starts j ≤ t
  pub high : (j : ℕ) → j < edges G → leaves row G.starts G.ends h j ≡ true → t ≤ via parts G.ends j
  pub below : t < k
  pub other : part_of row parts h ≡ t → ⊥

-- some vertex lies in the part of cluster h, outside h
abbrev pub Stays : Graph → List ℕ → List ℕ → ℕ → Type 0
Stays G row parts h = (v : ℕ) × (v < vertices G) × (get_or parts v 0 ≡ part_of row parts h) × (get_or row v 0 ≡ h → ⊥)

-- h is a cluster of the row and t a candidate of it; the new part stays within the bound, and the old one is not emptied
pub record Allowed (G : Graph) (k bound : ℕ) (row parts : List ℕ) (h t : ℕ) : Type 0 where
  pub cluster : h < clusters row
  pub candidate : Candidate G k row parts h t
  pub fits : part_size G (moved_to row h t parts) t ≤ bound
  pub stays : Stays G row parts h

-- the larger cost of two parts
unfoldable pub larger_cost : Graph → List ℕ → ℕ → ℕ → ℕ
larger_cost G parts s t = max (part_cost G.costs parts s) (part_cost G.costs parts t)

-- document 02, a: by the move of h to t the larger cost of the two parts touched becomes smaller
abbrev pub Evens : Graph → List ℕ → List ℕ → ℕ → ℕ → Type 0
Evens G row parts h t =
    larger_cost G (moved_to row h t parts) (part_of row parts h) t < larger_cost G parts (part_of row parts h) t

-- the two kinds of moves that a pass makes: a gain above 0, or a gain of 0 that evens
abbrev pub Gains : Graph → List ℕ → List ℕ → ℕ → ℕ → Type 0
Gains G row parts h t = lt_z (pos 0) (gain_to G row parts h t) ≡ true

abbrev pub Balances : Graph → List ℕ → List ℕ → ℕ → ℕ → Type 0
Balances G row parts h t = (gain_to G row parts h t ≡ pos 0) × Evens G row parts h t

abbrev pub Improves : Graph → List ℕ → List ℕ → ℕ → ℕ → Type 0
Improves G row parts h t = Gains G row parts h t ⊎ Balances G row parts h t
