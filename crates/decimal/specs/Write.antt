-- What a writer into a buffer has done.
use Rattle.std.specs.Prelude.{ℕ, ◌+◌, ◌≤◌, ◌≡◌, List, length}
use Rattle.folds.specs.Fold.{put}
use Rattle.decimal.specs.Decimal.{decimal}

-- the text s now stands at place `at` of a buffer that was l and is l', and r is the place past it
pub record Puts (l : List ℕ) (at : ℕ) (s l' : List ℕ) (r : ℕ) : Type 0 where
  pub next : r ≡ at + length s
  pub is : l' ≡ put l at s

-- r is the number of digits of v, a number of 64 bits
pub record Width (v r : ℕ) : Type 0 where
  pub is : r ≡ length (decimal v)
  pub low : r ≤ 20
