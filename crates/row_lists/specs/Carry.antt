-- From the lists of one row to those of the next, which lie after them.
use Rattle.std.specs.Prelude.{ℕ, ◌≤◌, ◌<◌, ◌≡◌, List, [], eqb, length, get_or, set, take}
use Rattle.folds.specs.Fold.{when, sum_to, put, part}
use Rattle.graph.specs.Graph.{graph_of}
use Rattle.graph.specs.Coarse.{Narrow, Coarse}

-- edges between g clusters, and their widths
pub record Between (g : ℕ) (froms tos widths : List ℕ) : Type 0 where
  pub few : length froms ≤ 1024
  pub same_ends : length tos ≡ length froms
  pub same_widths : length widths ≡ length froms
  pub from_in : (i : ℕ) → i < length froms → get_or froms i 0 < g
  pub to_in : (i : ℕ) → i < length froms → get_or tos i 0 < g
  pub narrow : Narrow widths

-- the vertices' own edges stand in the front of the lists
pub record First (starts ends kit_widths froms tos widths sizes froms' tos' widths' sizes' : List ℕ) : Type 0 where
  pub froms_are : froms' ≡ put froms 0 starts
  pub tos_are : tos' ≡ put tos 0 ends
  pub widths_are : widths' ≡ put widths 0 kit_widths
  pub sizes_are : sizes' ≡ set sizes 0 (length starts)

-- map makes h clusters of g, at most 512
pub record Maps (map : List ℕ) (g h : ℕ) : Type 0 where
  pub tall : length map ≡ 512
  pub small : g ≤ 512
  pub low : h ≤ 512
  pub below : (c : ℕ) → c < g → get_or map c 0 < h

-- after the lists of `size` edges at a, from b on, stand those that map leaves of them; the rest is as it was
pub record Next (map : List ℕ) (g h a size b : ℕ) (froms tos widths froms' tos' widths' : List ℕ) (count : ℕ) : Type 0 where
  pub from : List ℕ
  pub to : List ℕ
  pub width : List ℕ
  pub counts : length from ≡ count
  pub few : count ≤ size
  pub lists : Coarse (graph_of [] (part froms a size) (part tos a size) (part widths a size)) (take g map) h from to width
  pub froms_are : froms' ≡ put froms b from
  pub tos_are : tos' ≡ put tos b to
  pub widths_are : widths' ≡ put widths b width

-- the cost of each cluster that the first c of the old ones become
pub record Merged (map weights : List ℕ) (c : ℕ) (weights' : List ℕ) : Type 0 where
  pub tall : length weights' ≡ 512
  pub is : (d : ℕ) → get_or weights' d 0 ≡ sum_to c (λ x. when (eqb (get_or map x 0) d) (get_or weights x 0))
