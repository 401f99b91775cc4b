-- The row that joining leaves, in document 01's numbers.
use Rattle.std.specs.Prelude.{ℕ, ◌<◌, ◌≡◌, Bool, ◌||◌, List, [], ◌∷◌, eqb, length, get_or}
use Rattle.folds.specs.Fold.{pick, count_to, first_to, list_to}
use Rattle.contraction.specs.Rules.{Round, pair_at}

-- the other cluster of the pair that x is in, or x itself
unfoldable pub mate_of : Round → ℕ → ℕ
mate_of [] x = x
mate_of (p ∷ ps) x = pick (eqb x p.from) p.to (pick (eqb x p.to) p.from (mate_of ps x))

-- clusters a and b are one in the next row, where m gives each cluster its mate
unfoldable pub together : (ℕ → ℕ) → ℕ → ℕ → Bool
together m a b = eqb a b || eqb a (m b)

-- for each vertex, the lowest vertex of its group in the next row
unfoldable pub lowest_of : List ℕ → (ℕ → ℕ) → List ℕ
lowest_of row m = list_to (length row) (λ v. first_to (length row) (λ w. together m (get_or row w 0) (get_or row v 0)))

-- w is the lowest vertex of a group
unfoldable pub leads : List ℕ → ℕ → Bool
leads low w = eqb (get_or low w 0) w

-- document 01: groups are numbered from 0 in the order of their lowest blocks,
-- so that a group's number is how many groups have a lower lowest block
unfoldable pub numbered : List ℕ → List ℕ
numbered low = list_to (length low) (λ v. count_to (get_or low v 0) (leads low))

unfoldable pub joined_row : List ℕ → (ℕ → ℕ) → List ℕ
joined_row row m = numbered (lowest_of row m)

-- the row that joining the pairs of a round leaves
abbrev pub next_row_of : List ℕ → Round → List ℕ
next_row_of row ps = joined_row row (mate_of ps)

-- no cluster is in two pairs, nor twice in one
pub record Disjoint (ps : Round) : Type 0 where
  pub same_from : (i k : ℕ) → i < length ps → k < length ps → (pair_at ps i).from ≡ (pair_at ps k).from → i ≡ k
  pub same_to : (i k : ℕ) → i < length ps → k < length ps → (pair_at ps i).to ≡ (pair_at ps k).to → i ≡ k
  pub from_to : (i k : ℕ) → i < length ps → k < length ps → (pair_at ps i).from ≡ (pair_at ps k).to → ⊥
