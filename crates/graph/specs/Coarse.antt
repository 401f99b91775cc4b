-- The graph of a rung in lists: one edge for all from one cluster to another, with their summed width.
use Rattle.std.specs.Prelude.{ℕ, suc, ◌+◌, ◌*◌, ◌≤◌, ◌<◌, ◌≡◌, ◌&&◌, List, eqb, length, get_or}
use Rattle.folds.specs.Fold.{when, sum_to, part, most_width}
use Rattle.graph.specs.Graph.{Graph, identity, Arcs, arcs, joining, seen, width_of, crossing}
use Rattle.graph.specs.Rows.{clusters}
use Rattle.graph.specs.Links.{Linked, Ended, leave}

-- what edge j sends from u to b, another one
unfoldable pub sent : Arcs → List ℕ → ℕ → ℕ → ℕ → ℕ
sent A widths u b j = when (eqb (A.from j) u && eqb (A.to j) b) (crossing A widths j)

-- all widths together fit 32 bits with room to spare
abbrev pub Narrow : List ℕ → Type 0
Narrow widths = sum_to (length widths) (λ i. get_or widths i 0) ≤ most_width

-- document 01: all wires from one group to another count as one with the summed width: edge i goes from froms[i] to tos[i], two of the
-- g clusters of a row, and is as wide as all edges from the one to the other
pub record Coarse (G : Graph) (row : List ℕ) (g : ℕ) (froms tos widths : List ℕ) : Type 0 where
  pub few : length froms ≤ 1024
  pub same_ends : length tos ≡ length froms
  pub same_widths : length widths ≡ length froms
  pub from_in : (i : ℕ) → i < length froms → get_or froms i 0 < g
  pub to_in : (i : ℕ) → i < length froms → get_or tos i 0 < g
  pub apart : (i : ℕ) → i < length froms → get_or froms i 0 ≡ get_or tos i 0 → ⊥
  pub wide : (i : ℕ) → i < length froms → 0 < get_or widths i 0
  pub once : (i j : ℕ) → i < j → j < length froms → get_or froms i 0 ≡ get_or froms j 0 → get_or tos i 0 ≡ get_or tos j 0 → ⊥
  pub narrow : sum_to (length froms) (λ i. get_or widths i 0) ≤ most_width
  pub width : (a b : ℕ) → width_of (arcs (identity g) froms tos) widths a b ≡ width_of (seen G row) G.widths a b

-- the lists of rows 0 to top lie end to end: those of row r are the first sizes[r] entries from r × m on
pub record Stored (G : Graph) (rows : ℕ → List ℕ) (top m : ℕ) (froms tos widths sizes : List ℕ) : Type 0 where
  pub from_room : suc top * m ≤ length froms
  pub to_room : suc top * m ≤ length tos
  pub width_room : suc top * m ≤ length widths
  pub few : (r : ℕ) → r ≤ top → get_or sizes r 0 ≤ m
  pub is : (r : ℕ) → r ≤ top → Coarse G (rows r) (clusters (rows r)) (part froms (r * m) (get_or sizes r 0)) (part tos (r * m) (get_or sizes r 0)) (part widths (r * m) (get_or sizes r 0))

-- the lists that are stored of row r lie in those lent, and name clusters below 512
pub record RowLists (m r : ℕ) (froms tos sizes : List ℕ) : Type 0 where
  pub from_in : r * m + get_or sizes r 0 ≤ length froms
  pub to_in : r * m + get_or sizes r 0 ≤ length tos
  pub ends : Ended (part froms (r * m) (get_or sizes r 0)) (part tos (r * m) (get_or sizes r 0))

-- the links of the edges that leave each cluster of row r, by the lists that are stored of it
pub record LinkedAt (m r : ℕ) (froms tos sizes head next : List ℕ) : Type 0 where
  pub linked : Linked (leave (joining (part froms (r * m) (get_or sizes r 0)) (part tos (r * m) (get_or sizes r 0)))) (length (part froms (r * m) (get_or sizes r 0))) head next
