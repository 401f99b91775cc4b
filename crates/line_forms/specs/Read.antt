-- How the readers of lines go along a text. What they find is tied to the lines of the text by the laws in proofs/Lines.antt.
use Rattle.std.specs.Prelude.{Option, Some, None, ℕ, ◌+◌, List, [], ◌∷◌, ◌++◌, eqb, length, get_or, drop}
use Rattle.folds.specs.Fold.{pick}
use Rattle.decimal.specs.Read.{Number, starts_of, field_of}
use Rattle.line_forms.specs.Form.{Field, Form}

-- the numbers of a line that was read, with the place past it
abbrev pub Got : Type 0
Got = Option (List ℕ × ℕ)

pattern abbrev pub got : List ℕ → ℕ → Got
got vs j = Some (vs, j)

pattern abbrev pub nope : Got
nope = None

abbrev pub on_number : Number → (ℕ → ℕ → Got) → Got
on_number (Some (v, j)) f = f v j
on_number None f = nope

abbrev pub after : ℕ → Got → Got
after v (Some (vs, j)) = got (v ∷ vs) j
after v None = nope

-- the fields and the end, from place i of t on
unfoldable pub read_fields : List Field → List ℕ → List ℕ → ℕ → Got
read_fields [] end t i = pick (starts_of end (drop i t)) (got [] (i + length end)) nope
read_fields (f ∷ fs) end t i = on_number (field_of f.word f.most t i) (λ v j. after v (read_fields fs end t j))

-- a line of a form, from place i of t on
unfoldable pub read_form : Form → List ℕ → ℕ → Got
read_form f t i = read_fields f.fields (f.close ++ (10 ∷ [])) t i

-- a line that was read, if its first number is n
abbrev pub if_numbered : ℕ → Got → Got
if_numbered n (Some (vs, j)) = pick (eqb (get_or vs 0 0) n) (got vs j) nope
if_numbered n None = nope
