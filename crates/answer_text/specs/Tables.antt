-- What the text of a stage table says: a split line, then the block lines in order.
use Rattle.std.specs.Prelude.{Result, Ok, Err, ℕ, zero, suc, ◌+◌, ◌≤◌, ◌≡◌, Bool, true, ◌&&◌, List, [], ◌∷◌, ◌++◌, ltb, length}
use Rattle.std.proofs.Math.Option.{some, none}
use Rattle.folds.specs.Fold.{pick, over}
use Rattle.line_forms.specs.Form.{fits, as_form}
use Rattle.line_forms.specs.Lines.{lines_of, leading, in_order, column}
use Rattle.answer_text.specs.Forms.{split_form, entry_form, block_word}
use Rattle.line_forms.specs.Stand.{Low, line_at, said, is_of}
use Rattle.validity.specs.Cause.{Answer, refusal, told, Passed}
use Rattle.validity.specs.declared.Cause.TheVariants.{Room, Line}
use Rattle.answer_text.specs.declared.tables.SavedTable.{SavedTable}
use Rattle.answer_text.specs.declared.tables.TableError.{TableError}
use Rattle.answer_text.specs.declared.tables.TableError.TheVariants.{BadLine, Short}

-- the figures of the split line and the entries; or the line, from 1, that is not of the form
pub data Saved : Type 0 where
  saved : List ℕ → List ℕ → Saved
  bad_line : ℕ → Saved

-- the block lines that come first, numbered from 0, at most 512
unfoldable pub entry_rows : List (List ℕ) → List (List ℕ)
entry_rows ls = leading (in_order (entry_form block_word)) 0 512 ls

-- the lines after the split line: block lines and no other
unfoldable pub saved_after : List ℕ → List (List ℕ) → Saved
saved_after head ls = pick (ltb (length (entry_rows ls)) (length ls)) (bad_line (length (entry_rows ls) + 2)) (saved head (column 1 (entry_rows ls)))

unfoldable pub saved_lines : List (List ℕ) → Saved
saved_lines [] = bad_line 1
saved_lines (l ∷ ls) = elim (as_form split_form l) [ some head ↦ saved_after head ls | none ↦ bad_line 1 ]

unfoldable pub saved_in : List ℕ → Saved
saved_in t = saved_lines (lines_of t)

-- the answer of the reading call, with the length of the list that it writes: 15 at the line, 4, or the figures and the number of entries
unfoldable pub table_answer : Saved → ℕ → Answer
table_answer (bad_line p) room = refusal Line p
table_answer (saved head entries) room = pick (ltb room (length entries)) (refusal Room 0) (told Passed (head ++ (length entries ∷ [])))

-- document 01's number and values of each case
abbrev pub answer_of : Result SavedTable TableError → Answer
answer_of (Ok t) = told Passed (t.cut ∷ t.rungs ∷ t.cutat ∷ t.moves ∷ t.entries ∷ [])
answer_of (Err (BadLine line)) = refusal Line line
answer_of (Err Short) = refusal Room 0

-- the list afterwards: with the entries over its front, or as it was
unfoldable pub table_written : Saved → List ℕ → List ℕ
table_written (bad_line p) old = old
table_written (saved head entries) old = pick (ltb (length old) (length entries)) old (over entries old)

-- the figures and entries that have such a text
pub record Savable (head entries : List ℕ) : Type 0 where
  pub figures : fits split_form.fields head ≡ true
  pub few : length entries ≤ 512
  pub low : Low entries

-- whether line p may stand where it does: the split line first, then a block line with its own number, at most 512
unfoldable pub saved_stands : List (List ℕ) → ℕ → Bool
saved_stands ls zero = is_of split_form (line_at ls 0)
saved_stands ls (suc p) = said (in_order (entry_form block_word) p (line_at ls (suc p))) && ltb p 512
