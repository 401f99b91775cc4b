-- A form of a line: words with a number after each, and what closes the line. A line is of a form if printing gives it.
use Rattle.std.specs.Prelude.{ℕ, ◌+◌, Bool, true, false, ◌&&◌, List, [], ◌∷◌, ◌++◌, leb, eqb, length}
use Rattle.std.proofs.Math.Option.{Option, some, none}
use Rattle.folds.specs.Fold.{pick, same}
use Rattle.decimal.specs.Decimal.{decimal, digit, numbers_in}

-- a word, and the most that the number after it may be
pub record Field : Type 0 where
  pub word : List ℕ
  pub most : ℕ

abbrev pub field : List ℕ → ℕ → Field
field p m = record { word = p; most = m }

-- the fields, and what stands between the last number and the byte 10
pub record Form : Type 0 where
  pub fields : List Field
  pub close : List ℕ

abbrev pub form : List Field → List ℕ → Form
form fs e = record { fields = fs; close = e }

-- the words with the numbers vs after them, and the end
unfoldable pub printed_fields : List Field → List ℕ → List ℕ → List ℕ
printed_fields [] end vs = end
printed_fields (f ∷ fs) end [] = end
printed_fields (f ∷ fs) end (v ∷ vs) = f.word ++ (decimal v ++ printed_fields fs end vs)

-- the line of a form with the numbers vs, ended by byte 10
unfoldable pub printed : Form → List ℕ → List ℕ
printed f vs = printed_fields f.fields (f.close ++ (10 ∷ [])) vs

-- whether vs has one number for each field, within its range
unfoldable pub fits : List Field → List ℕ → Bool
fits [] [] = true
fits [] (v ∷ vs) = false
fits (f ∷ fs) [] = false
fits (f ∷ fs) (v ∷ vs) = leb v f.most && fits fs vs

-- the numbers of a line of that form: those that stand in it, if they are within the ranges and printing them gives the line
unfoldable pub as_form : Form → List ℕ → Option (List ℕ)
as_form f l = pick (fits f.fields (numbers_in l) && same (printed f (numbers_in l)) l) (some (numbers_in l)) none

-- the lines of a form, one for each list of numbers
unfoldable pub printed_all : Form → List (List ℕ) → List ℕ
printed_all f [] = []
printed_all f (vs ∷ rows) = printed f vs ++ printed_all f rows

-- how many bytes that takes
unfoldable pub needs_fields : List Field → List ℕ → List ℕ → ℕ
needs_fields [] end vs = length end
needs_fields (f ∷ fs) end [] = length end
needs_fields (f ∷ fs) end (v ∷ vs) = length f.word + (length (decimal v) + needs_fields fs end vs)

unfoldable pub needs : Form → List ℕ → ℕ
needs f vs = needs_fields f.fields (f.close ++ (10 ∷ [])) vs

unfoldable pub needs_all : Form → List (List ℕ) → ℕ
needs_all f [] = 0
needs_all f (vs ∷ rows) = needs f vs + needs_all f rows

-- whether a text has no digit and no byte 10
unfoldable pub plain : List ℕ → Bool
plain [] = true
plain (b ∷ s) = pick (digit b) false (pick (eqb b 10) false (plain s))

unfoldable pub plain_word : List ℕ → Bool
plain_word [] = false
plain_word (b ∷ s) = plain (b ∷ s)

unfoldable pub plain_fields : List Field → Bool
plain_fields [] = true
plain_fields (f ∷ fs) = plain_word f.word && (leb 9 f.most && plain_fields fs)

-- a form whose lines can be told apart from their numbers, and hold one byte 10; each form passes by computing
unfoldable pub clear : Form → Bool
clear f = plain_fields f.fields && plain f.close
