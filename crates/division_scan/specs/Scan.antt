-- What the code keeps of each position of an order: what leaves it, what comes into it, what lies there costs.
use Rattle.std.specs.Prelude.{ℕ, ◌+◌, ◌≤◌, ◌<◌, ◌≡◌, ◌&&◌, List, eqb, length, get_or}
use Rattle.folds.specs.Fold.{when, sum_to, most_cost, most_width}
use Rattle.graph.specs.Graph.{via}
use Rattle.graph.specs.Links.{Linked, Joins}
use Rattle.graph.specs.Coarse.{Narrow}
use Rattle.division_table.specs.Promises.{span, within, LeastFrom}
use Rattle.division_table.specs.Fewest.{Before}
use Rattle.division_table.proofs.Intervals.{leaving, out_of, into_from}

-- what the edges that start at y add to what comes into x
unfoldable pub from_to : List ℕ → List ℕ → List ℕ → List ℕ → ℕ → ℕ → ℕ → ℕ
from_to places starts ends widths y x j = when (eqb (via places starts j) y && eqb (via places ends j) x) (get_or widths j 0)

unfoldable pub starting_at : List ℕ → List ℕ → List ℕ → ℕ → ℕ → ℕ
starting_at places starts widths y j = when (eqb (via places starts j) y) (get_or widths j 0)

-- room for the widths of all edges
pub record IntoRoom (into : List ℕ) : Type 0 where
  pub tall : length into ≡ 512
  pub low : (x : ℕ) → get_or into x 0 ≤ most_width

-- the edges below j that start at y: their width is `sum`, and what they add has come in
pub record Gathered (places starts ends widths : List ℕ) (y j : ℕ) (into into' : List ℕ) (sum : ℕ) : Type 0 where
  pub tall : length into' ≡ 512
  pub sums : sum ≡ sum_to j (starting_at places starts widths y)
  pub adds : (x : ℕ) → get_or into' x 0 ≡ get_or into x 0 + sum_to j (from_to places starts ends widths y x)

-- edges between positions below g, none backward
pub record Positioned (places starts ends widths : List ℕ) (g : ℕ) : Type 0 where
  pub whole : length places ≡ g
  pub joins : Joins places starts ends
  pub same : length widths ≡ length starts
  pub narrow : Narrow widths
  pub below : (j : ℕ) → j < length starts → via places starts j < g
  pub forward : (j : ℕ) → j < length starts → via places starts j ≤ via places ends j

-- links by cluster, where order[y] is the cluster at position y: its edges are those that start at y
pub record LinkedBy (order places starts head next : List ℕ) : Type 0 where
  pub linked : Linked (λ j. get_or starts j 0) (length starts) head next
  pub long : length places ≤ length order
  pub low : (y : ℕ) → y < length places → get_or order y 0 < 512
  pub here : (y j : ℕ) → y < length places → get_or starts j 0 ≡ get_or order y 0 → via places starts j ≡ y
  pub only : (y j : ℕ) → y < length places → via places starts j ≡ y → get_or starts j 0 ≡ get_or order y 0

-- what leaves the interval of positions y to x - 1; what leaves position x; what comes into x from y on
unfoldable pub leaving_by : List ℕ → List ℕ → List ℕ → List ℕ → ℕ → ℕ → ℕ
leaving_by places starts ends widths = leaving (length starts) (via places starts) (via places ends) (λ j. get_or widths j 0)

unfoldable pub away_by : List ℕ → List ℕ → List ℕ → List ℕ → ℕ → ℕ
away_by places starts ends widths = out_of (length starts) (via places starts) (via places ends) (λ j. get_or widths j 0)

unfoldable pub entering_by : List ℕ → List ℕ → List ℕ → List ℕ → ℕ → ℕ → ℕ
entering_by places starts ends widths = into_from (length starts) (via places starts) (via places ends) (λ j. get_or widths j 0)

-- what comes into each position from those of y to x - 1
pub record Brought (places starts ends widths : List ℕ) (y x : ℕ) (into : List ℕ) : Type 0 where
  pub deep : length into ≡ 512
  pub is : (z : ℕ) → get_or into z 0 + entering_by places starts ends widths x z ≡ entering_by places starts ends widths y z

-- what leaves each position from y on
pub record Aways (places starts ends widths : List ℕ) (g y : ℕ) (away : List ℕ) : Type 0 where
  pub wide : length away ≡ 512
  pub outs : (x : ℕ) → y ≤ x → x < g → get_or away x 0 ≡ away_by places starts ends widths x

-- and what comes into each from y on
pub record Flows (places starts ends widths : List ℕ) (g y : ℕ) (away into : List ℕ) : Type 0 where
  pub aways : Aways places starts ends widths g y away
  pub deep : length into ≡ 512
  pub intos : (x : ℕ) → get_or into x 0 ≡ entering_by places starts ends widths y x

-- what lies at each position costs, all together no more than fits
pub record Costs (cost : List ℕ) (g : ℕ) : Type 0 where
  pub tall : length cost ≡ 512
  pub light : span cost 0 g ≤ most_cost

-- the least cuts that a division with n starts can have are known from position y on
pub record CutsKnown (n : ℕ) (places starts ends widths cost : List ℕ) (bound g y : ℕ) (away cuts : List ℕ) : Type 0 where
  pub aways : Aways places starts ends widths g y away
  pub before : List ℕ
  pub counts : Before g (within cost bound) before
  pub done : LeastFrom n g (within cost bound) (leaving_by places starts ends widths) before y cuts
