-- What the edges of a cluster say: the parts that they lead to, and their width to each.
use Rattle.std.specs.Prelude.{ℕ, ◌+◌, ◌≤◌, ◌<◌, min, max, ◌≡◌, ◌&&◌, List, eqb, length, get_or}
use Rattle.folds.specs.Fold.{pick, when, sum_to, turns, most_width}
use Rattle.graph.specs.Graph.{via}
use Rattle.graph.specs.Links.{Linked, Ended}

-- a part below 16 for each cluster
pub record Placed (table : List ℕ) : Type 0 where
  pub long : length table ≡ 512
  pub low : (c : ℕ) → c < 512 → get_or table c 0 < 16

-- a rung's edges in lists
pub record Listed (froms tos widths : List ℕ) : Type 0 where
  pub ends : Ended froms tos
  pub same_widths : length widths ≡ length froms
  pub narrow : sum_to (length froms) (λ i. get_or widths i 0) ≤ most_width
  pub wide : (i : ℕ) → i < length froms → 0 < get_or widths i 0

-- the edges' lists by the cluster that they leave, and by the one that they enter
pub record Indexed (froms tos head next head_in next_into : List ℕ) : Type 0 where
  pub out : Linked (λ i. get_or froms i 0) (length froms) head next
  pub into : Linked (λ i. get_or tos i 0) (length tos) head_in next_into

-- s, and the part at the far end of edge j where its near end is h, by one step
unfoldable pub fold_by : (ℕ → ℕ → ℕ) → List ℕ → List ℕ → List ℕ → ℕ → ℕ → ℕ → ℕ
fold_by op near far table h j s = pick (eqb (get_or near j 0) h) (op s (via table far j)) s

-- the lower of the two; the higher, with one more than the part
unfoldable pub lower_by : List ℕ → List ℕ → List ℕ → ℕ → ℕ → ℕ → ℕ
lower_by near far table h j s = pick (eqb (get_or near j 0) h) (min s (via table far j)) s

unfoldable pub raise_by : List ℕ → List ℕ → List ℕ → ℕ → ℕ → ℕ → ℕ
raise_by near far table h j s = pick (eqb (get_or near j 0) h) (max s (via table far j + 1)) s

-- the width of edge j where it leads from h to part u
unfoldable pub width_to : List ℕ → List ℕ → List ℕ → List ℕ → ℕ → ℕ → ℕ → ℕ
width_to near far widths table h u j = when (eqb (get_or near j 0) h && eqb (via table far j) u) (get_or widths j 0)

-- what the edges of h say: the lowest part of a successor, or k; one more than the highest of a predecessor, or 0; the width to or from part u
unfoldable pub low_next : List ℕ → List ℕ → List ℕ → ℕ → ℕ → ℕ
low_next froms tos table h k = turns (length froms) (lower_by froms tos table h) k

unfoldable pub high_before : List ℕ → List ℕ → List ℕ → ℕ → ℕ
high_before froms tos table h = turns (length froms) (raise_by tos froms table h) 0

unfoldable pub pull_to : List ℕ → List ℕ → List ℕ → List ℕ → ℕ → ℕ → ℕ
pull_to froms tos widths table h u = sum_to (length froms) (width_to froms tos widths table h u) + sum_to (length froms) (width_to tos froms widths table h u)

-- the 16 sums before a walk
pub record SumsRoom (toward : List ℕ) : Type 0 where
  pub long : length toward ≡ 16
  pub room : (u : ℕ) → u < 16 → get_or toward u 0 ≤ most_width

-- the sums after a walk: with the width to each part of the first m edges whose near end is h
pub record Added (near far widths table : List ℕ) (h m : ℕ) (toward toward' : List ℕ) : Type 0 where
  pub long : length toward' ≡ 16
  pub is : (u : ℕ) → u < 16 → get_or toward' u 0 ≡ get_or toward u 0 + sum_to m (width_to near far widths table h u)

-- the width between h and each part, both ways
pub record Pulled (froms tos widths table : List ℕ) (h : ℕ) (toward : List ℕ) : Type 0 where
  pub long : length toward ≡ 16
  pub is : (u : ℕ) → u < 16 → get_or toward u 0 ≡ pull_to froms tos widths table h u

-- the part of h is one of k, from the highest of its predecessors to the lowest of its successors
pub record Seated (froms tos table : List ℕ) (k h : ℕ) : Type 0 where
  pub inside : get_or table h 0 < k
  pub after : high_before froms tos table h ≤ get_or table h 0 + 1
  pub before : get_or table h 0 ≤ low_next froms tos table h k
