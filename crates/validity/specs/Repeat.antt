-- Document 02, b: the search for a repeated wire tries them from the lowest up as repeats of earlier ones and ends at the first find.
use Rattle.std.specs.Prelude.{ℕ, ◌+◌, ◌≡◌, List, ltb, length}
use Rattle.folds.specs.Fold.{pick, first_to}
use Rattle.validity.specs.Check.{repeats}

-- its place: the lowest repeating wire, or m
abbrev pub first_repeat : List ℕ → List ℕ → ℕ
first_repeat starts ends = first_to (length starts) (repeats starts ends)

-- how many wires it tried: the place and one more at a find, m otherwise
unfoldable pub tried : ℕ → ℕ → ℕ
tried place m = pick (ltb place m) (place + 1) m

abbrev pub tried_of : List ℕ → List ℕ → ℕ
tried_of starts ends = tried (first_repeat starts ends) (length starts)

-- what it answers
pub record Found (starts ends : List ℕ) (place count : ℕ) : Type 0 where
  pub place_is : place ≡ first_repeat starts ends
  pub count_is : count ≡ tried_of starts ends
