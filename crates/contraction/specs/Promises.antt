-- What the code that joins a round asks and promises.
use Rattle.std.specs.Prelude.{ℕ, ◌+◌, ◌<◌, ◌≤◌, ◌≡◌, List, eqb, ltb, length, get_or, set}
use Rattle.folds.specs.Fold.{pick, over}
use Rattle.graph.specs.Rows.{clusters}
use Rattle.contraction.specs.Next.{joined_row}

-- mates in an array: past its end a cluster has none
unfoldable pub mate_in : List ℕ → ℕ → ℕ
mate_in mates c = pick (ltb c (length mates)) (get_or mates c 0) c

-- an array of the mates of 512 clusters
pub record Mated (mates : List ℕ) : Type 0 where
  pub tall : length mates ≡ 512
  pub low : (c : ℕ) → c < 512 → get_or mates c 0 < 512
  pub back : (c : ℕ) → mate_in mates (mate_in mates c) ≡ c

-- a row of at most 512 vertices, whose clusters are below 512
pub record Short (row : List ℕ) : Type 0 where
  pub few : length row ≤ 512
  pub low : (v : ℕ) → v < length row → get_or row v 0 < 512

-- c and its mate get the next number, from 1, where c has none: the numbers and how many there are
pub record NamesGiven (mates : List ℕ) (c count : ℕ) (names names' : List ℕ) (r : ℕ) : Type 0 where
  pub names_are : names' ≡ pick (eqb (get_or names c 0) 0) (set (set names c (count + 1)) (get_or mates c 0) (count + 1)) names
  pub count_is : r ≡ pick (eqb (get_or names c 0) 0) (count + 1) count

-- r clusters, numbered by m, stand in the front of out
pub record Joined (row : List ℕ) (m : ℕ → ℕ) (out out' : List ℕ) (r : ℕ) : Type 0 where
  pub count_is : r ≡ clusters (joined_row row m)
  pub row_is : out' ≡ over (joined_row row m) out

-- map gives each cluster of row its number in next
pub record Renamed (row next map : List ℕ) : Type 0 where
  pub tall : length map ≡ 512
  pub is : (v : ℕ) → v < length row → get_or map (get_or row v 0) 0 ≡ get_or next v 0
