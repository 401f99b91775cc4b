-- The reader of tables, from what the code's branches say.
use Prim.Native.Nat.{ℕ, suc, ◌+◌, ◌≤◌, ◌<◌}
use mathlib.Core.Path.{◌≡◌, refl, sym, ap, ◌∙◌}
use mathlib.Core.Bool.{true}
use mathlib.Core.List.{List, [], ◌∷◌, ◌++◌}
use mathlib.Core.Option.{some, none}
use native.Mathlib.Omega.{arith}
use lib.ListN.{length, get_or, drop, length-drop}
use borrow.Author.Tests.{lt-ltb, le-ltb, eq-eqb, ne_eqb}
use Rattle.folds.specs.Fold.{over}
use Rattle.decimal.specs.Decimal.{digit}
use Rattle.line_forms.specs.Form.{Field, plain, plain_word, plain_fields, clear, as_form, fits}
use Rattle.folds.proofs.Cases.{no_bool}
use Rattle.line_forms.specs.Lines.{lines_of, in_order, of_form, column, Ran}
use Rattle.line_forms.specs.Read.{Got, got, nope, read_form, if_numbered}
use Rattle.line_forms.specs.Run.{Reads}
use Rattle.line_forms.proofs.Form.{fits_cons, read_sound}
use Rattle.line_forms.proofs.Lines.{form_reads, numbered_reads, if_numbered_lem, lines_none, lines_left, length-column}
use Rattle.answer_text.specs.Forms.{split_form, entry_form, block_word}
use Rattle.answer_text.specs.Tables.{Saved, saved, bad_line, entry_rows, saved_after, saved_lines, saved_in, table_answer, table_written}
use Rattle.validity.specs.Cause.{refusal, told as answered, Passed}
use Rattle.validity.specs.declared.Cause.TheVariants.{Room, Line}

pub split_clear : clear split_form ≡ true
unfolding clear plain_fields plain_word plain digit
split_clear = refl

pub entry_clear : clear (entry_form block_word) ≡ true
unfolding clear plain_fields plain_word plain digit
entry_clear = refl

split_reads : (t : List ℕ) → Reads (of_form split_form) (λ n i. read_form split_form t i) t
split_reads t = form_reads split_form split_clear t

pub entry_reads : (t : List ℕ) → Reads (in_order (entry_form block_word)) (λ n i. if_numbered n (read_form (entry_form block_word) t i)) t
entry_reads t = numbered_reads (form_reads (entry_form block_word) entry_clear t)

-- an entry's line under its number
module _ (t : List ℕ) (i n : ℕ) where
  pub entry_missed : read_form (entry_form block_word) t i ≡ nope → nope ≡ if_numbered n (read_form (entry_form block_word) t i)
  entry_missed e = rw e

  module _ {vs : List ℕ} {j : ℕ} (e : read_form (entry_form block_word) t i ≡ got vs j) where
    pub entry_other : (get_or vs 0 0 ≡ n → ⊥) → nope ≡ if_numbered n (read_form (entry_form block_word) t i)
    entry_other h = rw (e, ne_eqb _ _ h)

    pub entry_found : get_or vs 0 0 ≡ n → got vs j ≡ if_numbered n (read_form (entry_form block_word) t i)
    entry_found h = rw (e, eq-eqb _ _ h)

-- the entries are 16-bit numbers
pub entry_low : (t : List ℕ) (i n : ℕ) {b s j : ℕ} → if_numbered n (read_form (entry_form block_word) t i) ≡ got (b ∷ s ∷ []) j → s ≤ 65535
entry_low t i n {b} {s} {j} e =
    let x = if_numbered_lem n (read_form (entry_form block_word) t i) (b ∷ s ∷ []) j e in
    (fits_cons _ _ s [] (fits_cons _ _ b (s ∷ []) (read_sound (entry_form block_word) entry_clear t i (b ∷ s ∷ []) j x.0).1).1).0

-- ---------------------------------------------------------------- the whole table
fits_length : (fs : List Field) (vs : List ℕ) → fits fs vs ≡ true → length vs ≡ length fs
unfolding fits
fits_length [] [] h = refl
fits_length [] (v ∷ vs) h = absurd (no_bool h)
fits_length (f ∷ fs) [] h = absurd (no_bool h)
fits_length (f ∷ fs) (v ∷ vs) h = ap suc (fits_length fs vs (fits_cons f fs v vs h).1)

-- the four figures of a split line
four_of : (vs : List ℕ) → length vs ≡ 4 → vs ≡ get_or vs 0 0 ∷ get_or vs 1 0 ∷ get_or vs 2 0 ∷ get_or vs 3 0 ∷ []
four_of [] h = absurd (omega arith)
four_of (a ∷ []) h = absurd (omega arith)
four_of (a ∷ b ∷ []) h = absurd (omega arith)
four_of (a ∷ b ∷ c ∷ []) h = absurd (omega arith)
four_of (a ∷ b ∷ c ∷ d ∷ []) h = refl
four_of (a ∷ b ∷ c ∷ d ∷ e ∷ vs) h = absurd (omega arith)

pub split_some : (l head : List ℕ) (ls : List (List ℕ)) → as_form split_form l ≡ some head → saved_lines (l ∷ ls) ≡ saved_after head ls
unfolding saved_lines
split_some l head ls h = rw (h, saved_lines)

split_none : (ls : List (List ℕ)) → ((l : List ℕ) (rest : List (List ℕ)) → ls ≡ l ∷ rest → as_form split_form l ≡ none) → saved_lines ls ≡ bad_line 1
unfolding saved_lines
split_none [] h = refl
split_none (l ∷ ls) h = rw (h l ls refl, saved_lines)

-- a table that is refused for a line, and what that leaves
bad_line_lem : (x : Saved) (p : ℕ) (old : List ℕ) → x ≡ bad_line p → (refusal Line p ≡ table_answer x (length old)) × (old ≡ table_written x old)
unfolding table_answer table_written
bad_line_lem x p old e = rw e (refl, refl)

pub no_split_line : (t : List ℕ) (old : List ℕ) {x : Got} → x ≡ read_form split_form t 0 → x ≡ nope → (refusal Line 1 ≡ table_answer (saved_in t) (length old)) × (old ≡ table_written (saved_in t) old)
unfolding saved_in
no_split_line t old e h = bad_line_lem (saved_lines (lines_of t)) 1 old (split_none (lines_of t) ((split_reads t).missed 0 0 (sym e ∙ h)))

module _ (t old : List ℕ) {x : Got} (head : List ℕ) (i n p : ℕ) (e : x ≡ read_form split_form t 0) (h : x ≡ got head i) (run : Ran (in_order (entry_form block_word)) t 512 i n p) where
  four : head ≡ get_or head 0 0 ∷ get_or head 1 0 ∷ get_or head 2 0 ∷ get_or head 3 0 ∷ []
  four = four_of head (fits_length split_form.fields head (read_sound split_form split_clear t 0 head i (sym e ∙ h)).1)

  abbrev rows : List (List ℕ)
  rows = entry_rows (lines_of (drop i t))

  rows_are : n ≡ length rows
  unfolding entry_rows
  rows_are = run.count

  after_head : saved_in t ≡ saved_after head (lines_of (drop i t))
  unfolding saved_in
  after_head =
      let f = (split_reads t).found 0 0 head i (sym e ∙ h) in
      ap saved_lines f.1 ∙ split_some f.0 head _ f.2

  pub bad_entry_lem : p < length t → (refusal Line (n + 2) ≡ table_answer (saved_in t) (length old)) × (old ≡ table_written (saved_in t) old)
  unfolding saved_after
  bad_entry_lem z =
      let l : n < length (lines_of (drop i t)) = omega (arith, lines_left t p z, ap length run.lines, length-drop n (lines_of (drop i t))) in
      bad_line_lem (saved_in t) (n + 2) old (after_head ∙ rw (← rows_are, lt-ltb _ _ l))

  module _ (z : length t ≤ p) where
    all_entries : saved_in t ≡ saved head (column 1 rows)
    unfolding saved_after
    all_entries =
        let l : length (lines_of (drop i t)) ≤ n = omega (arith, ap length (sym run.lines ∙ lines_none t p z), length-drop n (lines_of (drop i t))) in
        after_head ∙ rw (← rows_are, le-ltb _ _ l)

    entries_long : length (column 1 rows) ≡ n
    entries_long = length-column 1 rows ∙ sym rows_are

    pub table_short : length old < n → (refusal Room 0 ≡ table_answer (saved_in t) (length old)) × (old ≡ table_written (saved_in t) old)
    unfolding table_answer table_written
    table_short g = rw (all_entries, entries_long, lt-ltb _ _ g) (refl, refl)

    module _ (g : n ≤ length old) where
      pub parts_room : length rows ≤ length old
      parts_room = omega (arith, rows_are)

      pub table_read : {now : List ℕ} → now ≡ over (column 1 rows) old → (answered Passed (get_or head 0 0 ∷ get_or head 1 0 ∷ get_or head 2 0 ∷ get_or head 3 0 ∷ n ∷ []) ≡ table_answer (saved_in t) (length old)) × (now ≡ table_written (saved_in t) old)
      unfolding table_answer table_written
      table_read q = rw (all_entries, entries_long, le-ltb _ _ g) (ap (λ (vs : List ℕ). answered Passed (vs ++ (n ∷ []))) (sym four), q)
