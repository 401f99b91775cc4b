-- The lines of the answers, and what writing them into a borrowed buffer does.
use Rattle.std.specs.Prelude.{Option, Some, None, ℕ, suc, ◌+◌, ◌<◌, ◌≡◌, List, [], ◌∷◌, ◌++◌, ltb, length}
use Rattle.folds.specs.Fold.{pick, over}
use Rattle.line_forms.specs.Form.{Form, printed, printed_all}
use Rattle.answer_text.specs.Forms.{split_form, entry_form, block_word, start_word, inspected_form, refused_form}
use Rattle.validity.specs.Cause.{Answer, refusal, told, Passed}
use Rattle.validity.specs.declared.Cause.TheVariants as cause

-- the entries of a table, each under its number, from n on
unfoldable pub enumerated : ℕ → List ℕ → List (List ℕ)
enumerated n [] = []
enumerated n (s ∷ entries) = (n ∷ s ∷ []) ∷ enumerated (suc n) entries

-- a head line, and a line for each entry of a table
unfoldable pub table_text : Form → List ℕ → List ℕ → List ℕ → List ℕ
table_text head vs word entries = printed head vs ++ printed_all (entry_form word) (enumerated 0 entries)

-- what the splitting program prints: the cut, rounds kept, rung cut and moves, then each block's stage
abbrev pub split_text : ℕ → ℕ → ℕ → ℕ → List ℕ → List ℕ
split_text cut rungs cutat moves parts = table_text split_form (cut ∷ rungs ∷ cutat ∷ moves ∷ []) block_word parts

-- what the inspecting program prints: the cut, then the stage at each place of the start order
abbrev pub order_text : ℕ → List ℕ → List ℕ
order_text cut order = table_text inspected_form (cut ∷ []) start_word order

-- the refusal line
abbrev pub refusal_text : ℕ → ℕ → List ℕ
refusal_text number place = printed refused_form (number ∷ place ∷ [])

-- writing a text: its length, or 4 where the buffer is shorter
unfoldable pub writing : List ℕ → List ℕ → Answer
writing text buf = pick (ltb (length buf) (length text)) (refusal cause.Room 0) (told Passed (length text ∷ []))

-- the buffer afterwards: with the text over its front, or as it was
unfoldable pub written : List ℕ → List ℕ → List ℕ
written text buf = pick (ltb (length buf) (length text)) buf (over text buf)

-- document 01's number and values: the bytes written, or no room
abbrev pub outcome : Option ℕ → Answer
outcome (Some n) = told Passed (n ∷ [])
outcome None = refusal cause.Room 0

-- whether lines that take `need` bytes fit, and what they leave
abbrev pub RoomIs : ℕ → ℕ → Option ℕ → Type 0
RoomIs size need (Some left) = size ≡ left + need
RoomIs size need None = size < need
