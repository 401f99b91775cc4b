-- What the loops over the edges of a cluster do to the arrays of a round.
use Rattle.std.specs.Prelude.{ℕ, ◌+◌, ◌≤◌, ◌<◌, ◌≡◌, Bool, true, false, not, ◌&&◌, ◌||◌, ◌⊎◌, List, eqb, ltb, length, get_or, set, Option, MatchOption}
use Rattle.topology.specs.Level.{next_in}
use Rattle.folds.specs.Fold.{pick, when, sum_to}
use Rattle.graph.specs.Graph.{Arcs, joining, Edge, crossing}
use Rattle.graph.specs.Links.{Ended, leave}
use Rattle.graph.specs.Coarse.{sent, Narrow}
use Rattle.matching_scan.specs.declared.Best.{Best}

-- what edge j sends from u to any other
unfoldable pub leaves : Arcs → List ℕ → ℕ → ℕ → ℕ
leaves A widths u j = when (eqb (A.from j) u) (crossing A widths j)

-- no two edges go from one to the same
abbrev pub Single : Arcs → Type 0
Single A = (i j : ℕ) → i < A.count → j < A.count → A.from i ≡ A.from j → A.to i ≡ A.to j → i ≡ j

-- edges between clusters, no two from one to the same, and their widths
pub record Simple (starts ends widths : List ℕ) : Type 0 where
  pub joins : Ended starts ends
  pub same : length widths ≡ length starts
  pub narrow : Narrow widths
  pub single : Single (joining starts ends)

-- edge j of u goes to the `to` of a pair, on the next level
unfoldable pub halts : Arcs → List ℕ → List ℕ → ℕ → ℕ → Bool
halts A levels tos u j = not (eqb (A.to j) u) && (not (eqb (get_or tos (A.to j) 0) 0) && next_in levels u (A.to j))

unfoldable pub halts_at : Arcs → List ℕ → List ℕ → ℕ → ℕ → Bool
halts_at A levels tos u j = eqb (A.from j) u && halts A levels tos u j

-- the width w that b offers to u, from which `total` leaves:
-- b is single and not blocked, the joint cost is within the bound, and rule 1 holds
unfoldable pub offer_in : List ℕ → List ℕ → List ℕ → List ℕ → ℕ → ℕ → ℕ → ℕ → ℕ → ℕ
offer_in levels mates blocked costs bound u b w total =
    pick (eqb (get_or mates b 0) b)
    (pick (eqb (get_or blocked b 0) 0)
    (pick (ltb bound (get_or costs u 0 + get_or costs b 0)) 0 (pick (next_in levels u b || eqb w total) w 0)) 0) 0

unfoldable pub offer_of : Arcs → List ℕ → List ℕ → List ℕ → List ℕ → List ℕ → ℕ → ℕ → ℕ → ℕ
offer_of A widths levels mates blocked costs bound u b =
    offer_in levels mates blocked costs bound u b (sum_to A.count (sent A widths u b)) (sum_to A.count (leaves A widths u))

-- the widest offer of the edges below j that leave u, and the lowest cluster that makes it
pub record Widest (A : Arcs) (f : ℕ → ℕ) (u j width to : ℕ) : Type 0 where
  pub top : (i : ℕ) → i < j → leave A i ≡ u → f (A.to i) ≤ width
  pub low : (i : ℕ) → i < j → leave A i ≡ u → f (A.to i) ≡ width → (width ≡ 0) ⊎ (to ≤ A.to i)
  pub hit : (width ≡ 0) ⊎ ((f to ≡ width) × (to < 512))

-- the widest offer to u and the lowest cluster that makes it; none where no offer is above 0
abbrev pub Chosen : Arcs → (ℕ → ℕ) → ℕ → Option Best → Type 0
Chosen A f u r = MatchOption r ((to : ℕ) × Widest A f u A.count 0 to) (λ b. (0 < b.width) × Widest A f u A.count b.width b.to)

-- an offer of w by b wins over one of width by to: it is wider, or as wide and b is lower
pub record Wins (width to w b : ℕ) (r : Bool) : Type 0 where
  pub yes : r ≡ true → (width < w) ⊎ ((w ≡ width) × (b < to))
  pub no : r ≡ false → (w ≤ width) × (w ≡ width → to ≤ b)

-- (width', to') is the better of (w, b) and (width, to): the wider, or of two as wide the lower
pub record Better (width to w b width' to' : ℕ) : Type 0 where
  pub is : ((width < w) × (width' ≡ w) × (to' ≡ b))
      ⊎ (((w ≡ width) × (b < to) × (width' ≡ w) × (to' ≡ b)) ⊎ ((w ≤ width) × (w ≡ width → to ≤ b) × (width' ≡ width) × (to' ≡ to)))

-- b is blocked where it is on the level after u's
unfoldable pub blocked_of : List ℕ → ℕ → ℕ → List ℕ → List ℕ
blocked_of levels u b blocked = pick (eqb b u) blocked (pick (next_in levels u b) (set blocked b 1) blocked)

-- what the edges of u below j go to on the next level is blocked, and nothing else is changed
pub record Blocking (A : Arcs) (levels : List ℕ) (u j : ℕ) (old new : List ℕ) : Type 0 where
  pub tall : length new ≡ 512
  pub keeps : (b : ℕ) → b < 512 → (get_or new b 0 ≡ get_or old b 0) ⊎ ((get_or new b 0 ≡ 1) × Edge A u b × (next_in levels u b ≡ true))
  pub marks : (i : ℕ) → i < j → A.from i ≡ u → (A.to i ≡ u → ⊥) → next_in levels u (A.to i) ≡ true → get_or new (A.to i) 0 ≡ 1
