-- Joining the edges between clusters: what the loops hold on the way.
use Rattle.std.specs.Prelude.{ℕ, ◌+◌, ◌≤◌, ◌<◌, ◌≡◌, ◌&&◌, List, eqb, ltb, leb, length, get_or, set}
use Rattle.folds.specs.Fold.{pick, when, sum_to}
use Rattle.graph.specs.Graph.{Arcs}
use Rattle.graph.specs.Links.{leave}
use Rattle.graph.specs.Coarse.{sent}

-- the summed width from u to b, and that of the first k listed edges
unfoldable pub between : Arcs → List ℕ → ℕ → ℕ → ℕ
between A widths u b = sum_to A.count (sent A widths u b)

unfoldable pub pair_sum : List ℕ → List ℕ → List ℕ → ℕ → ℕ → ℕ → ℕ
pair_sum froms tos widths k a b = sum_to k (λ i. when (eqb (get_or froms i 0) a && eqb (get_or tos i 0) b) (get_or widths i 0))

-- the summed width from u to each cluster, of the edges below j
pub record Widths (A : Arcs) (widths : List ℕ) (u j : ℕ) (sums : List ℕ) : Type 0 where
  pub tall : length sums ≡ 512
  pub is : (b : ℕ) → b < 512 → get_or sums b 0 ≡ sum_to j (sent A widths u b)

-- the first k listed edges: each goes from a cluster below u to another one of g, none is listed twice
pub record ListedUpTo (g u k : ℕ) (froms tos widths : List ℕ) : Type 0 where
  pub tall_from : length froms ≡ 1024
  pub tall_to : length tos ≡ 1024
  pub tall_width : length widths ≡ 1024
  pub from_in : (i : ℕ) → i < k → get_or froms i 0 < u
  pub to_in : (i : ℕ) → i < k → get_or tos i 0 < g
  pub apart : (i : ℕ) → i < k → get_or froms i 0 ≡ get_or tos i 0 → ⊥
  pub wide : (i : ℕ) → i < k → 0 < get_or widths i 0
  pub once : (i j : ℕ) → i < j → j < k → get_or froms i 0 ≡ get_or froms j 0 → get_or tos i 0 ≡ get_or tos j 0 → ⊥

-- the clusters below u have their edges: k of them
pub record Written (A : Arcs) (widths : List ℕ) (g u k : ℕ) (froms tos ws : List ℕ) : Type 0 where
  pub listed : ListedUpTo g u k froms tos ws
  pub few : k ≤ sum_to A.count (λ i. when (ltb (leave A i) u) 1)
  pub is : (a b : ℕ) → b < 512 → pair_sum froms tos ws k a b ≡ when (ltb a u) (between A widths a b)

-- the same while the edges of u below j are read: the sums hold what is still to be written of u
pub record Writing (A : Arcs) (widths : List ℕ) (g u j k : ℕ) (sums froms tos ws : List ℕ) : Type 0 where
  pub listed : ListedUpTo g (u + 1) k froms tos ws
  pub tall : length sums ≡ 512
  pub few : k ≤ sum_to A.count (λ i. when (ltb (leave A i) u) 1) + sum_to j (λ i. when (eqb (leave A i) u) 1)
  pub spent : (i : ℕ) → i < k → get_or froms i 0 ≡ u → get_or sums (get_or tos i 0) 0 ≡ 0
  pub done : (b : ℕ) → b < 512 → ((i : ℕ) → j ≤ i → i < A.count → leave A i ≡ u → A.to i ≡ b → ⊥) → get_or sums b 0 ≡ 0
  pub is : (a b : ℕ) → b < 512 → pair_sum froms tos ws k a b + when (eqb a u) (get_or sums b 0) ≡ when (leb a u) (between A widths a b)

-- the edge from u to b with the sum of b, where that is not 0, is listed after the first k; the sum is then 0
pub record Put (u b k : ℕ) (sums froms tos ws sums' froms' tos' ws' : List ℕ) (r : ℕ) : Type 0 where
  pub sums_are : sums' ≡ set sums b 0
  pub froms_are : froms' ≡ pick (eqb (get_or sums b 0) 0) froms (set froms k u)
  pub tos_are : tos' ≡ pick (eqb (get_or sums b 0) 0) tos (set tos k b)
  pub ws_are : ws' ≡ pick (eqb (get_or sums b 0) 0) ws (set ws k (get_or sums b 0))
  pub count_is : r ≡ pick (eqb (get_or sums b 0) 0) k (k + 1)
