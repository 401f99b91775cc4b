-- Numbers in base ten: how one is printed, and which ones stand in a text.
use Prim.Native.String.{String}
use Prim.Native.Char.{code}
use Rattle.std.specs.Prelude.{ℕ, zero, suc, ◌+◌, ◌-◌, ◌*◌, ◌/◌, ◌%◌, Bool, true, false, List, [], ◌∷◌, ◌++◌, ltb, leb}
use Rattle.folds.specs.Fold.{pick}

-- the bytes of a text
abbrev pub bytes : String → List ℕ
bytes String.[] = []
bytes (String.◌∷◌ c s) = code c ∷ bytes s

-- the digits of v, at most k of them
unfoldable pub digits : ℕ → ℕ → List ℕ
digits zero v = []
digits (suc k) v =
    let longer = digits k (v / 10) ++ ((48 + v % 10) ∷ []) in
    pick (ltb v 10) ((48 + v) ∷ []) longer

-- v in base ten, with no leading zeros
unfoldable pub decimal : ℕ → List ℕ
decimal v = digits (suc v) v

-- whether a byte is a digit
unfoldable pub digit : ℕ → Bool
digit b = pick (ltb b 48) false (leb b 57)

-- the numbers that stand in a text, each a run of digits; v is the run at hand, if o
unfoldable pub numbers : Bool → ℕ → List ℕ → List ℕ
numbers o v [] = pick o (v ∷ []) []
numbers o v (b ∷ s) =
    elim (digit b) [
      | true ↦ numbers true (v * 10 + (b - 48)) s
      | false ↦ pick o (v ∷ []) [] ++ numbers false 0 s
    ]

unfoldable pub numbers_in : List ℕ → List ℕ
numbers_in s = numbers false 0 s
