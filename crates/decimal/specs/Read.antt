-- How the readers go along a text. What they find is tied to what is printed by the laws in proofs/Text.antt.
use Rattle.std.specs.Prelude.{Option, Some, None, ℕ, ◌+◌, ◌-◌, ◌*◌, Bool, true, false, List, [], ◌∷◌, ltb, eqb, length, drop}
use Rattle.folds.specs.Fold.{pick}

-- a number that was read, and the place past it; or no number
abbrev pub Number : Type 0
Number = Option (ℕ × ℕ)

pattern abbrev pub Is : ℕ → ℕ → Number
Is v j = Some (v, j)

pattern abbrev pub Not : Number
Not = None

-- the digits of s, which follow those of v and begin at place i
unfoldable pub more_of : ℕ → ℕ → ℕ → List ℕ → Number
more_of most v i [] = Is v i
more_of most v i (b ∷ s) =
    pick (ltb b 48) (Is v i)
    (pick (ltb 57 b) (Is v i)
    (pick (eqb v 0) Not
    (pick (ltb most (v * 10 + (b - 48))) Not (more_of most (v * 10 + (b - 48)) (i + 1) s))))

-- the number that s, which begins at place i, begins with
unfoldable pub number_of : ℕ → ℕ → List ℕ → Number
number_of most i [] = Not
number_of most i (b ∷ s) = pick (ltb b 48) Not (pick (ltb 57 b) Not (more_of most (b - 48) (i + 1) s))

-- whether s begins with p
unfoldable pub starts_of : List ℕ → List ℕ → Bool
starts_of [] s = true
starts_of (a ∷ p) [] = false
starts_of (a ∷ p) (b ∷ s) = pick (eqb b a) (starts_of p s) false

-- the text p and a number, from place i of t on
unfoldable pub field_of : List ℕ → ℕ → List ℕ → ℕ → Number
field_of p most t i = pick (starts_of p (drop i t)) (number_of most (i + length p) (drop (i + length p) t)) Not
