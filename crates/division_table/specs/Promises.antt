-- The table by which the code finds the least division: at y * 17 + j the least cut from position y on with j starts after it.
use Rattle.std.specs.Prelude.{ℕ, zero, suc, ◌+◌, ◌-◌, ◌*◌, ◌≤◌, ◌<◌, min, ◌≡◌, Bool, ◌&&◌, ◌⊎◌, List, [], ◌∷◌, ltb, leb, eqb, length, get_or, take}
use Rattle.folds.specs.Fold.{pick, when, sum_to, first_to, most_cost, most_width}
use Rattle.division_table.specs.Division.{interval_of, Pick, none, some, better, given}

-- the best of f 0, .., f (n - 1), the first among equals
unfoldable pub best_below : {A : Type 0} → ℕ → (ℕ → Pick A) → Pick A
best_below zero f = none
best_below (suc n) f = better (best_below n f) (f n)

-- x in front, at w more
abbrev pub ahead : ℕ → ℕ → Pick (List ℕ) → Pick (List ℕ)
ahead x w none = none
ahead x w (some c d) = some (w + c) (x ∷ d)

-- the best of j starts after y, where `ok` tests an interval and `out` is what leaves it
unfoldable pub best : ℕ → (ℕ → ℕ → Bool) → (ℕ → ℕ → ℕ) → ℕ → ℕ → Pick (List ℕ)
best g ok out zero y = given (ltb y g && ok y g) (some 0 [])
best g ok out (suc j) y = best_below g (λ x. given (ltb y x && ok y x) (ahead x (out y x) (best g ok out j x)))

-- a cut as a number: none is this one, above the others
abbrev pub no_cut : ℕ
no_cut = 1073741824

abbrev pub cut_in : Pick (List ℕ) → ℕ
cut_in none = no_cut
cut_in (some c d) = c

-- the least of f 0, .., f (n - 1), or none
unfoldable pub lowest : ℕ → (ℕ → ℕ) → ℕ
lowest zero f = no_cut
lowest (suc n) f = min (lowest n f) (f n)

pub record LowCuts (cuts : List ℕ) : Type 0 where
  pub low : (i : ℕ) → get_or cuts i 0 ≤ no_cut

-- the first n lanes have taken the offer to go on at the position whose cuts stand from `at` on, at w more
pub record Relaxed (at w : ℕ) (cuts : List ℕ) (n : ℕ) (lanes lanes' : List ℕ) : Type 0 where
  pub tall : length lanes' ≡ length lanes
  pub here : (j : ℕ) → j < n → get_or lanes' j 0 ≡ min (get_or lanes j 0) (w + get_or cuts (at + j) 0)
  pub other : (j : ℕ) → n ≤ j → get_or lanes' j 0 ≡ get_or lanes j 0

-- none of the first n lanes is above r
pub record Topped (n : ℕ) (lanes : List ℕ) (r : ℕ) : Type 0 where
  pub top : (j : ℕ) → j < n → get_or lanes j 0 ≤ r

-- the sum of the entries from y to x - 1
unfoldable pub span : List ℕ → ℕ → ℕ → ℕ
span l y x = sum_to x (λ i. when (leb y i) (get_or l i 0))

-- the test of an interval: what lies there costs at most the bound
unfoldable pub within : List ℕ → ℕ → ℕ → ℕ → Bool
within cost bound y x = leb (span cost y x) bound

-- what lies at each position costs, what leaves it, and what comes into it from y on: the sums fit, and no more comes in than leaves
pub record RunWeights (g y : ℕ) (cost away into : List ℕ) : Type 0 where
  pub tall : length cost ≡ 512
  pub wide : length away ≡ 512
  pub deep : length into ≡ 512
  pub light : (x : ℕ) → y ≤ x → x ≤ g → span cost y x ≤ most_cost
  pub narrow : (x : ℕ) → y ≤ x → x ≤ g → span away y x ≤ most_width
  pub covers : (x : ℕ) → y ≤ x → x ≤ g → span into y x ≤ span away y x

-- to go on at x, where the interval from y to x - 1 is within the bound
unfoldable pub onward : ℕ → ℕ → List ℕ → List ℕ → List ℕ → (ℕ → ℕ) → ℕ → ℕ
onward bound y cost away into f x = pick (ltb y x && within cost bound y x) (span away y x - span into y x + f x) no_cut

-- the least cut of j + 1 starts after y, of which the first is below x
abbrev pub lowest_from : ℕ → ℕ → ℕ → List ℕ → List ℕ → List ℕ → List ℕ → ℕ → ℕ
lowest_from bound y x cost away into cuts j = lowest x (onward bound y cost away into (λ z. get_or cuts (z * 17 + j) 0))

-- n lanes, of from + 1 starts on
pub record Lanes (bound y from n x : ℕ) (cost away into cuts lanes : List ℕ) : Type 0 where
  pub tall : length lanes ≡ n
  pub low : LowCuts lanes
  pub here : (j : ℕ) → j < n → get_or lanes j 0 ≡ lowest_from bound y x cost away into cuts (from + j)

-- n lanes are stored from at + 1 on
pub record LanesStored (at n : ℕ) (lanes cuts cuts' : List ℕ) : Type 0 where
  pub tall : length cuts' ≡ length cuts
  pub low : LowCuts cuts'
  pub here : (j : ℕ) → j < n → get_or cuts' (at + (j + 1)) 0 ≡ get_or lanes j 0
  pub other : (i : ℕ) → ((j : ℕ) → j < n → i ≡ at + (j + 1) → ⊥) → get_or cuts' i 0 ≡ get_or cuts i 0

-- a row of 17 cuts for each of g positions, and one for their end
pub record Table (g : ℕ) (cuts : List ℕ) : Type 0 where
  pub long : (g + 1) * 17 ≤ length cuts
  pub low : LowCuts cuts

-- outside the row of y nothing changed
abbrev pub Beside : ℕ → List ℕ → List ℕ → Type 0
Beside y cuts cuts' = (i : ℕ) → (y * 17 ≤ i → y * 17 + 17 ≤ i) → get_or cuts' i 0 ≡ get_or cuts i 0

-- each column of y has the least cut, or is as it was and not one of the n from `from` on
pub record ColumnsFilled (bound y from n g : ℕ) (cost away into cuts cuts' : List ℕ) : Type 0 where
  pub table : Table g cuts'
  pub here : (j : ℕ) → j < 16
      → (get_or cuts' (y * 17 + (j + 1)) 0 ≡ lowest_from bound y g cost away into cuts j)
      ⊎ ((get_or cuts' (y * 17 + (j + 1)) 0 ≡ get_or cuts (y * 17 + (j + 1)) 0) × (from ≤ j → from + n ≤ j))
  pub other : Beside y cuts cuts'

-- the cuts that a division with n starts can have at position y, of g positions whose cost from y on is `rest`. Where `before` intervals
-- lie before y at least and `after` from it on, each column has the least cut, or is as it was and its starts are too few
pub record Column (bound rest y n before after g : ℕ) (cost away into cuts cuts' : List ℕ) : Type 0 where
  pub table : Table g cuts'
  pub last : get_or cuts' (y * 17) 0 ≡ pick (leb rest bound) 0 no_cut
  pub here : (j : ℕ) → before + j < n
      → (get_or cuts' (y * 17 + (j + 1)) 0 ≡ lowest_from bound y g cost away into cuts j)
      ⊎ ((get_or cuts' (y * 17 + (j + 1)) 0 ≡ get_or cuts (y * 17 + (j + 1)) 0) × (j + 2 < after))
  pub other : Beside y cuts cuts'

-- no cut stands in the rows below y
pub record Blank (y : ℕ) (cuts : List ℕ) : Type 0 where
  pub blank : (i : ℕ) → i < y * 17 → get_or cuts i 0 ≡ no_cut

-- these cuts are the least from position y on, in the columns of the starts that the intervals before a position leave of n; below y none stands yet
pub record LeastFrom (n g : ℕ) (ok : ℕ → ℕ → Bool) (out : ℕ → ℕ → ℕ) (before : List ℕ) (y : ℕ) (cuts : List ℕ) : Type 0 where
  pub table : Table g cuts
  pub below : Blank y cuts
  pub done : (x j : ℕ) → y ≤ x → x < g → get_or before x 0 + j ≤ n → get_or cuts (x * 17 + j) 0 ≡ cut_in (best g ok out j x)

-- the least start above y whose cut, with what leaves the interval up to it, is that of j + 1 starts after y; or g
abbrev pub leads : (ℕ → ℕ → ℕ) → List ℕ → ℕ → ℕ → ℕ → Bool
leads out cuts j y x = ltb y x && eqb (out y x + get_or cuts (x * 17 + j) 0) (get_or cuts (y * 17 + (j + 1)) 0)

unfoldable pub next_by : ℕ → (ℕ → ℕ → ℕ) → List ℕ → ℕ → ℕ → ℕ
next_by g out cuts j y = first_to g (leads out cuts j y)

-- j starts after y, each the next of the one before
unfoldable pub starts_by : ℕ → (ℕ → ℕ → ℕ) → List ℕ → ℕ → ℕ → List ℕ
starts_by g out cuts zero y = []
starts_by g out cuts (suc j) y = let x = next_by g out cuts j y in x ∷ starts_by g out cuts j x

-- r is the interval of position p, by the first n of the starts
pub record InInterval (starts : List ℕ) (n p r : ℕ) : Type 0 where
  pub is : r ≡ interval_of (take n starts) p
  pub low : r ≤ n
