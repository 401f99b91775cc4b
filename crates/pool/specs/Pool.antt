-- A set of numbers below 512 in nine words: eight of 64 bits, and one whose bits say which of the eight are not 0.
use Rattle.std.specs.Prelude.{Option, Some, None, ℕ, zero, suc, ◌+◌, ◌*◌, ◌/◌, ◌%◌, ◌^◌, ◌<◌, ◌≡◌, Bool, not, List, eqb, length, get_or, set}
use Rattle.std.specs.Int.Bits.{bit_or, bit_xor}
use Rattle.std.specs.Int.Count.{count_trailing_zeros}
use Rattle.folds.specs.Fold.{pick, when}

-- the word whose lowest k bits are p 0, .., p (k - 1)
unfoldable pub word : ℕ → (ℕ → Bool) → ℕ
word zero p = 0
word (suc k) p = word k (λ i. p (suc i)) * 2 + when (p 0) 1

-- word w is not 0
unfoldable pub busy : List ℕ → ℕ → Bool
busy words w = not (eqb (get_or words w 0) 0)

-- the words of the numbers below 512 that have p
pub record Kept (p : ℕ → Bool) (words : List ℕ) : Type 0 where
  pub tall : length words ≡ 9
  pub is : (w : ℕ) → w < 8 → get_or words w 0 ≡ word 64 (λ i. p (w * 64 + i))
  pub top : get_or words 8 0 ≡ word 8 (busy words)

-- v put in
unfoldable pub put_of : List ℕ → ℕ → List ℕ
put_of words v =
    let l = set words (v / 64) (bit_or (get_or words (v / 64) 0) (2 ^ (v % 64))) in set l 8 (bit_or (get_or l 8 0) (2 ^ (v / 64)))

-- v, which was in, taken out
unfoldable pub taken_of : List ℕ → ℕ → List ℕ
taken_of words v =
    let x = bit_xor (get_or words (v / 64) 0) (2 ^ (v % 64)) in
    let l = set words (v / 64) x in
    pick (eqb x 0) (set l 8 (bit_xor (get_or l 8 0) (2 ^ (v / 64)))) l

-- the lowest that is in, if any
unfoldable pub lowest_of : List ℕ → Option ℕ
lowest_of words =
    let w = count_trailing_zeros 64 (get_or words 8 0) in
    pick (eqb (get_or words 8 0) 0) None (Some (w * 64 + count_trailing_zeros 64 (get_or words w 0)))
