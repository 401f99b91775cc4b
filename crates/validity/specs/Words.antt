-- The search for a repeated edge between its turns: each edge tried has a bit in the words that it is lent.
use Rattle.std.specs.Prelude.{ℕ, ◌+◌, ◌*◌, ◌/◌, ◌%◌, ◌<◌, ◌≤◌, ◌≡◌, Bool, ◌&&◌, List, eqb, length, get_or}
use Rattle.folds.specs.Fold.{any_to}
use Rattle.pool.specs.Pool.{word}
use Rattle.validity.specs.Repeat.{tried_of}

-- What the search asks, of the edges that it tries and of no other: past the first find there need be no end to look at. Each start has `stride` of the
-- words, and these have a bit for each end.
pub record WordsRoom (starts ends : List ℕ) (stride words : ℕ) : Type 0 where
  pub ended : tried_of starts ends ≤ length ends
  pub start_low : (j : ℕ) → j < tried_of starts ends → get_or starts j 0 < 512
  pub start_in : (j : ℕ) → j < tried_of starts ends → get_or starts j 0 * stride + stride ≤ words
  pub end_in : (j : ℕ) → j < tried_of starts ends → get_or ends j 0 < stride * 64

-- the word of edge j
unfoldable pub word_of : List ℕ → List ℕ → ℕ → ℕ → ℕ
word_of starts ends stride j = get_or starts j 0 * stride + get_or ends j 0 / 64

-- edge j is bit i of word w
unfoldable pub is_bit : List ℕ → List ℕ → ℕ → ℕ → ℕ → ℕ → Bool
is_bit starts ends stride w i j = eqb (word_of starts ends stride j) w && eqb (get_or ends j 0 % 64) i

-- the bits of the first j edges are set, and no others
pub record BitsSet (starts ends : List ℕ) (stride j : ℕ) (words : List ℕ) : Type 0 where
  pub is : (w : ℕ) → get_or words w 0 ≡ word 64 (λ i. any_to j (is_bit starts ends stride w i))

-- edge j comes next: it is one of those that the search tries
pub record Trying (starts ends : List ℕ) (stride j : ℕ) (words : List ℕ) : Type 0 where
  pub room : WordsRoom starts ends stride (length words)
  pub bits : BitsSet starts ends stride j words
  pub next : j < tried_of starts ends

-- and after it
pub record Tried (starts ends : List ℕ) (stride j : ℕ) (old words : List ℕ) : Type 0 where
  pub same : length words ≡ length old
  pub bits : BitsSet starts ends stride (j + 1) words
