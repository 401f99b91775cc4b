-- The lines of a text, and what the first of them say.
use Rattle.std.specs.Prelude.{ℕ, zero, suc, ◌+◌, ◌≤◌, ◌≡◌, List, [], ◌∷◌, eqb, length, get_or, drop}
use Rattle.std.proofs.Math.Option.{Option, some, none}
use Rattle.folds.specs.Fold.{pick}
use Rattle.line_forms.specs.Form.{Form, as_form}

-- b before the first line of ls
abbrev pub joined : ℕ → List (List ℕ) → List (List ℕ)
joined b [] = (b ∷ []) ∷ []
joined b (l ∷ ls) = (b ∷ l) ∷ ls

-- the lines of a text, each with the byte 10 that ends it; what follows the last byte 10 is a line without one
unfoldable pub lines_of : List ℕ → List (List ℕ)
lines_of [] = []
lines_of (b ∷ s) = pick (eqb b 10) ((b ∷ []) ∷ lines_of s) (joined b (lines_of s))

-- how many bytes 10 a text holds
unfoldable pub newlines : List ℕ → ℕ
newlines [] = 0
newlines (b ∷ s) = pick (eqb b 10) 1 0 + newlines s

-- what the first lines say, at most k of them, each by what `say` makes of the line and its number, from n on
unfoldable pub leading : (ℕ → List ℕ → Option (List ℕ)) → ℕ → ℕ → List (List ℕ) → List (List ℕ)
leading say n zero ls = []
leading say n (suc k) [] = []
leading say n (suc k) (l ∷ ls) = elim (say n l) [ some vs ↦ vs ∷ leading say (suc n) k ls | none ↦ [] ]

-- the numbers of a line, if the first of them is n
abbrev pub numbered : ℕ → Option (List ℕ) → Option (List ℕ)
numbered n (some vs) = pick (eqb (get_or vs 0 0) n) (some vs) none
numbered n none = none

-- the entries in column c
unfoldable pub column : ℕ → List (List ℕ) → List ℕ
column c [] = []
column c (vs ∷ rows) = get_or vs c 0 ∷ column c rows

-- what a line says by itself, whatever its number
abbrev pub of_form : Form → ℕ → List ℕ → Option (List ℕ)
of_form f n l = as_form f l

-- what a line says if its first number is its own, counted from 0
abbrev pub in_order : Form → ℕ → List ℕ → Option (List ℕ)
in_order f n l = numbered n (as_form f l)

-- from place `from` of t on, n lines say something, at most K of them, and i is the place past them
pub record Ran (say : ℕ → List ℕ → Option (List ℕ)) (t : List ℕ) (K from n i : ℕ) : Type 0 where
  pub count : n ≡ length (leading say 0 K (lines_of (drop from t)))
  pub low : n ≤ K
  pub lines : lines_of (drop i t) ≡ drop n (lines_of (drop from t))
