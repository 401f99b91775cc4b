-- What reading a table answers, exactly.
use Prim.Native.Nat.{ℕ, zero, suc, ◌+◌, ◌*◌, ◌≤◌, ◌<◌}
use mathlib.Core.Path.{◌≡◌, refl, sym, ap, ap₂, ◌∙◌}
use mathlib.Core.Bool.{true, false}
use mathlib.Core.Logic.{◌⊎◌, inl, inr, ◌↔◌}
use mathlib.Core.List.{List, [], ◌∷◌, ◌++◌, append-nil, flatten}
use mathlib.Core.Option.{Option, some, none}
use native.Mathlib.Nat.{not-suc-le-zero, le_of_suc-le-suc}
use native.Mathlib.Omega.{arith}
use lib.Dec.{ltb, eqb}
use lib.ListN.{length, get_or, drop, drop_of_length-le, length-append}
use borrow.Author.Tests.{lt-ltb, le-ltb, le-leb, eq-eqb, ltb-true, ltb-false, eqb-true}
use Rattle.folds.specs.Fold.{over, same}
use Rattle.folds.proofs.Cases.{no_bool, by, and_false}
use Rattle.folds.proofs.Cases.{chose}
use Rattle.decimal.specs.Decimal.{digits, decimal, numbers, numbers_in}
use Rattle.line_forms.specs.Form.{Field, printed_fields, printed, printed_all, fits, as_form}
use Rattle.line_forms.specs.Lines.{lines_of, leading, in_order, numbered, column}
use Rattle.line_forms.specs.Stand.{said, FirstBad, AllStand, Low}
use Rattle.line_forms.proofs.Form.{none_some, fits_cons, as_own, as_sound}
use Rattle.line_forms.proofs.Lines.{flat_lines, leading_some, leading_nil, leading_few, length-column}
use Rattle.line_forms.proofs.Rows.{AllFit, mosts, line_long, lines_long, fits_most, printed_rows, length_rows, lines_line, lines_only, leading_each, leading_last, leading_short}
use Rattle.line_forms.proofs.Stand.{is_some, is_none, one_bad, none_bad}
use Rattle.answer_text.specs.Forms.{split_form, entry_form, block_word}
use Rattle.answer_text.specs.Answers.{enumerated, table_text}
use Rattle.answer_text.specs.Tables.{saved, bad_line, entry_rows, saved_after, saved_lines, saved_in, table_written, Savable, saved_stands}
use Rattle.answer_text.proofs.Saved.{split_clear, entry_clear, split_some}

-- ---------------------------------------------------------------- what was printed is read
entry_fits : (n s : ℕ) → n ≤ 65535 → s ≤ 65535 → fits (entry_form block_word).fields (n ∷ s ∷ []) ≡ true
unfolding fits
entry_fits n s p q = rw (le-leb _ _ p, le-leb _ _ q)

entry_own : (n s : ℕ) → n ≤ 65535 → s ≤ 65535 → in_order (entry_form block_word) n (printed (entry_form block_word) (n ∷ s ∷ [])) ≡ some (n ∷ s ∷ [])
entry_own n s p q = rw (as_own (entry_form block_word) entry_clear (n ∷ s ∷ []) (entry_fits n s p q), eq-eqb n n refl)

entries_own : (entries : List ℕ) (n k : ℕ) → n + length entries ≤ 65535 → length entries ≤ k → Low entries → leading (in_order (entry_form block_word)) n k (printed_rows (entry_form block_word) (enumerated n entries)) ≡ enumerated n entries
unfolding enumerated printed_rows
entries_own [] n k h g l = leading_nil _ n k
entries_own (s ∷ entries) n zero h g l = absurd (not-suc-le-zero g)
entries_own (s ∷ entries) n (suc k) h g l =
    leading_some (in_order (entry_form block_word)) n k _ _ (n ∷ s ∷ []) (entry_own n s (omega arith) (l 0))
    ∙ ap (λ (rows : List (List ℕ)). (n ∷ s ∷ []) ∷ rows) (entries_own entries (suc n) k (omega arith) (le_of_suc-le-suc g) (λ i. l (suc i)))

column-enumerated : (entries : List ℕ) (n : ℕ) → column 1 (enumerated n entries) ≡ entries
unfolding column enumerated
column-enumerated [] n = refl
column-enumerated (s ∷ entries) n = ap (λ (l : List ℕ). s ∷ l) (column-enumerated entries (suc n))

length-enumerated : (entries : List ℕ) (n : ℕ) → length (enumerated n entries) ≡ length entries
unfolding enumerated
length-enumerated [] n = refl
length-enumerated (s ∷ entries) n = ap suc (length-enumerated entries (suc n))

text_lines : (head entries : List ℕ) → lines_of (table_text split_form head block_word entries) ≡ printed split_form head ∷ printed_rows (entry_form block_word) (enumerated 0 entries)
unfolding table_text
text_lines head entries = lines_line split_form split_clear head _ ∙ ap (λ (ls : List (List ℕ)). printed split_form head ∷ ls) (lines_only (entry_form block_word) entry_clear (enumerated 0 entries))

pub saved_own : (head entries : List ℕ) → Savable head entries → saved_in (table_text split_form head block_word entries) ≡ saved head entries
unfolding saved_in saved_after entry_rows
saved_own head entries w =
    let e = enumerated 0 entries in
    let n = length-enumerated entries 0 in
    let r : leading (in_order (entry_form block_word)) 0 512 (printed_rows (entry_form block_word) e) ≡ e = entries_own entries 0 512 (omega (arith, w.few)) w.few w.low in
    let l : length (printed_rows (entry_form block_word) e) ≤ length e = omega (arith, length_rows (entry_form block_word) e) in
    ap saved_lines (text_lines head entries) ∙ (split_some _ head _ (as_own split_form split_clear head w.figures) ∙ rw (r, le-ltb _ _ l, column-enumerated entries 0))

-- ---------------------------------------------------------------- what was read was printed
bad_saved : (p : ℕ) (head entries : List ℕ) → bad_line p ≡ saved head entries → ⊥
bad_saved p head entries e = let z : ◌≡◌ {A = ℕ} 0 1 = cc in omega arith

numbered_some : (n : ℕ) (o : Option (List ℕ)) (vs : List ℕ) → numbered n o ≡ some vs → (o ≡ some vs) × (get_or vs 0 0 ≡ n)
numbered_some n none vs e = absurd (none_some vs e)
numbered_some n (some us) vs e = go (chose _ _ _ _ e)
  where
    go : ((eqb (get_or us 0 0) n ≡ true) × (some us ≡ some vs)) ⊎ ((eqb (get_or us 0 0) n ≡ false) × (none ≡ some vs)) → (some us ≡ some vs) × (get_or vs 0 0 ≡ n)
    go (inl x) = let a : us ≡ vs = cc in (x.1, ap (λ (l : List ℕ). get_or l 0 0) (sym a) ∙ eqb-true (get_or us 0 0) n x.0)
    go (inr x) = absurd (none_some vs x.1)

two_shape : (f g : Field) (vs : List ℕ) → fits (f ∷ g ∷ []) vs ≡ true → get_or vs 0 0 ∷ get_or vs 1 0 ∷ [] ≡ vs
unfolding fits
two_shape f g [] h = absurd (no_bool h)
two_shape f g (a ∷ []) h = absurd (no_bool (fits_cons f (g ∷ []) a [] h).1)
two_shape f g (a ∷ b ∷ []) h = refl
two_shape f g (a ∷ b ∷ c ∷ vs) h = absurd (no_bool (fits_cons g [] b (c ∷ vs) (fits_cons f (g ∷ []) a (b ∷ c ∷ vs) h).1).1)

-- a line that says vs as line n
record Line (n : ℕ) (l vs : List ℕ) : Type 0 where
  is : l ≡ printed (entry_form block_word) vs
  shape : n ∷ get_or vs 1 0 ∷ [] ≡ vs
  low : get_or vs 1 0 ≤ 65535

entry_line : (n : ℕ) (l vs : List ℕ) → in_order (entry_form block_word) n l ≡ some vs → Line n l vs
entry_line n l vs e =
    let x = numbered_some n (as_form (entry_form block_word) l) vs e in
    let a = as_sound (entry_form block_word) entry_clear l vs x.0 in
    record { is = a.0; shape = rw (← x.1) (two_shape _ _ vs a.1); low = fits_most (entry_form block_word).fields vs 1 a.1 }

-- rows that lines from n on say
record Sound (n : ℕ) (ls rows : List (List ℕ)) : Type 0 where
  lines : ls ≡ printed_rows (entry_form block_word) rows ++ drop (length rows) ls
  order : rows ≡ enumerated n (column 1 rows)
  low : Low (column 1 rows)

sound_none : (n : ℕ) (ls : List (List ℕ)) → Sound n ls []
unfolding printed_rows enumerated column
sound_none n ls = record { lines = refl; order = refl; low = λ i. omega arith }

sound_some : (n : ℕ) (l : List ℕ) (ls : List (List ℕ)) (vs : List ℕ) (rows : List (List ℕ)) → Line n l vs → Sound (suc n) ls rows → Sound n (l ∷ ls) (vs ∷ rows)
unfolding printed_rows enumerated column
sound_some n l ls vs rows e s = record { lines = ap₂ ◌∷◌ e.is s.lines; order = ap₂ ◌∷◌ (sym e.shape) s.order; low = low_cons }
  where
    low_cons : Low (get_or vs 1 0 ∷ column 1 rows)
    low_cons zero = e.low
    low_cons (suc i) = s.low i

rows_sound : (n k : ℕ) (ls : List (List ℕ)) → Sound n ls (leading (in_order (entry_form block_word)) n k ls)
unfolding leading
rows_sound n zero ls = sound_none n ls
rows_sound n (suc k) [] = sound_none n []
rows_sound n (suc k) (l ∷ ls) = go (in_order (entry_form block_word) n l) refl (rows_sound (suc n) k ls)
  where
    go : (o : Option (List ℕ)) → in_order (entry_form block_word) n l ≡ o → Sound (suc n) ls (leading (in_order (entry_form block_word)) (suc n) k ls)
        → Sound n (l ∷ ls) (elim o [ some vs ↦ vs ∷ leading (in_order (entry_form block_word)) (suc n) k ls | none ↦ [] ])
    go (some vs) e ih = sound_some n l ls vs _ (entry_line n l vs e) ih
    go none e ih = sound_none n (l ∷ ls)

-- what the lines after the split line come to
module _ (l head : List ℕ) (ls : List (List ℕ)) (a : as_form split_form l ≡ some head) where
  abbrev rows : List (List ℕ)
  rows = entry_rows ls

  abbrev N : ℕ
  N = length rows

  few : N ≤ 512
  unfolding entry_rows
  few = leading_few (in_order (entry_form block_word)) 0 512 ls

  sound : Sound 0 ls rows
  unfolding entry_rows
  sound = rows_sound 0 512 ls

  after : saved_lines (l ∷ ls) ≡ saved_after head ls
  after = split_some l head ls a

  row_says : (q : ℕ) → q < N → in_order (entry_form block_word) q (get_or ls q []) ≡ some (get_or rows q [])
  unfolding entry_rows
  row_says q h = let z : 0 + q ≡ q = omega arith in rw z at (leading_each (in_order (entry_form block_word)) 0 512 ls q h)

  stands_up : (q : ℕ) → q < 1 + N → saved_stands (l ∷ ls) q ≡ true
  unfolding saved_stands
  stands_up zero h = is_some split_form l head a
  stands_up (suc q) h = rw (row_says q (omega arith), lt-ltb q 512 (omega (arith, few)))

  next_none : N < 512 → N < length ls → in_order (entry_form block_word) N (get_or ls N []) ≡ none
  unfolding entry_rows
  next_none h g = let z : 0 + N ≡ N = omega arith in rw z at (leading_last (in_order (entry_form block_word)) 0 512 ls h g)

  next_bad : N < length ls → saved_stands (l ∷ ls) (suc N) ≡ false
  unfolding saved_stands
  next_bad h = by (ltb N 512) (λ e. rw (next_none (ltb-true _ _ e) h)) (λ e. rw e (and_false (said (in_order (entry_form block_word) N (get_or ls N [])))))

  short_of : N ≤ length ls
  unfolding entry_rows
  short_of = leading_short (in_order (entry_form block_word)) 0 512 ls

  all_lines : length ls ≤ N → ls ≡ printed_rows (entry_form block_word) (enumerated 0 (column 1 rows))
  all_lines h = sound.lines ∙ (ap (λ (r : List (List ℕ)). printed_rows (entry_form block_word) rows ++ r) (drop_of_length-le ls h) ∙ (append-nil _ ∙ ap (printed_rows (entry_form block_word)) sound.order))

-- a line that breaks the table's text, or the text of a table
data Comes (ls : List (List ℕ)) : Type 0 where
  breaks : (p : ℕ) → FirstBad (saved_stands ls) (length ls) p → saved_lines ls ≡ bad_line (p + 1) → Comes ls
  reads : (head entries : List ℕ) → AllStand (saved_stands ls) (length ls) → saved_lines ls ≡ saved head entries → Savable head entries
      → ls ≡ printed split_form head ∷ printed_rows (entry_form block_word) (enumerated 0 entries) → Comes ls

comes_over : (l head : List ℕ) (ls : List (List ℕ)) (a : as_form split_form l ≡ some head) → length (entry_rows ls) < length ls → Comes (l ∷ ls)
unfolding saved_after
comes_over l head ls a h =
    let q : length (entry_rows ls) + 2 ≡ suc (length (entry_rows ls)) + 1 = omega arith in
    breaks (suc (length (entry_rows ls))) (record { within = omega arith; bad = next_bad l head ls a h; first = λ r x. stands_up l head ls a r (omega arith) })
    (after l head ls a ∙ rw (lt-ltb _ _ h, q))

comes_under : (l head : List ℕ) (ls : List (List ℕ)) (a : as_form split_form l ≡ some head) → length ls ≤ length (entry_rows ls) → Comes (l ∷ ls)
unfolding saved_after
comes_under l head ls a h =
    let n = short_of l head ls a in
    let s = as_sound split_form split_clear l head a in
    reads head (column 1 (entry_rows ls)) (record { some_line = omega arith; stand = λ r x. stands_up l head ls a r (omega arith) })
    (after l head ls a ∙ rw (le-ltb _ _ h))
    (record { figures = s.1; few = omega (arith, few l head ls a, length-column 1 (entry_rows ls)); low = (sound l head ls a).low })
    (ap₂ ◌∷◌ s.0 (all_lines l head ls a h))

no_line : as_form split_form [] ≡ none
unfolding as_form same printed printed_fields fits numbers_in numbers
no_line = refl

comes : (ls : List (List ℕ)) → Comes ls
unfolding saved_lines saved_stands
comes [] = breaks 0 (record { within = omega arith; bad = is_none split_form [] no_line; first = λ q h. absurd (omega arith) }) refl
comes (l ∷ ls) = at (as_form split_form l) refl
  where
    at : (o : Option (List ℕ)) → as_form split_form l ≡ o → Comes (l ∷ ls)
    at none e = breaks 0 (record { within = omega arith; bad = is_none split_form l e; first = λ q h. absurd (omega arith) }) (rw (e, saved_lines))
    at (some head) e = by (ltb (length (entry_rows ls)) (length ls)) (λ h. comes_over l head ls e (ltb-true _ _ h)) (λ h. comes_under l head ls e (ltb-false _ _ h))

-- ---------------------------------------------------------------- each answer
same_saved : (head entries h e : List ℕ) → saved head entries ≡ saved h e → (head ≡ h) × (entries ≡ e)
same_saved head entries h e q =
    let a : head ≡ h = cc in
    let b : entries ≡ e = cc in
    (a, b)

-- a table is read exactly if the text is what the splitting program prints of it
pub saved_exactly : (t head entries : List ℕ) → (saved_in t ≡ saved head entries) ↔ ((t ≡ table_text split_form head block_word entries) × Savable head entries)
unfolding saved_in
saved_exactly t head entries = (there (comes (lines_of t)), λ x. rw x.0 (saved_own head entries x.1))
  where
    there : Comes (lines_of t) → saved_in t ≡ saved head entries → (t ≡ table_text split_form head block_word entries) × Savable head entries
    there (breaks p b e) h = absurd (bad_saved (p + 1) head entries (sym e ∙ h))
    there (reads g r a e w l) h =
        let q = same_saved g r head entries (sym e ∙ h) in
        let x : t ≡ table_text split_form g block_word r = sym (flat_lines t) ∙ (ap flatten (l ∙ sym (text_lines g r)) ∙ flat_lines _) in
        rw (← q.0, ← q.1) (x, w)

-- BadLine p exactly if line p, from 1, is the first that is not of the form
pub bad_line_exactly : (t : List ℕ) (p : ℕ) → (saved_in t ≡ bad_line p) ↔ ((q : ℕ) × (p ≡ q + 1) × FirstBad (saved_stands (lines_of t)) (length (lines_of t)) q)
unfolding saved_in
bad_line_exactly t p = (there (comes (lines_of t)), back (comes (lines_of t)))
  where
    same_line : (m n : ℕ) → bad_line m ≡ bad_line n → m ≡ n
    same_line m n e = cc

    there : Comes (lines_of t) → saved_in t ≡ bad_line p → (q : ℕ) × (p ≡ q + 1) × FirstBad (saved_stands (lines_of t)) (length (lines_of t)) q
    there (breaks q b e) h = (q, sym (same_line (q + 1) p (sym e ∙ h)), b)
    there (reads g r a e w l) h = absurd (bad_saved p g r (sym h ∙ e))

    back : Comes (lines_of t) → ((q : ℕ) × (p ≡ q + 1) × FirstBad (saved_stands (lines_of t)) (length (lines_of t)) q) → saved_in t ≡ bad_line p
    back (breaks q b e) h = let z : q + 1 ≡ p = omega (arith, h.1, one_bad q h.0 b h.2) in e ∙ ap bad_line z
    back (reads g r a e w l) h = absurd (none_bad h.0 a h.2)

-- what the writer of a split's lines wrote is read back
pub table_round_trip : (head entries old : List ℕ) → Savable head entries → length entries ≤ length old
    → (saved_in (table_text split_form head block_word entries) ≡ saved head entries) × (table_written (saved_in (table_text split_form head block_word entries)) old ≡ over entries old)
unfolding table_written
table_round_trip head entries old w h = let e = saved_own head entries w in (e, rw (e, le-ltb _ _ h))

-- ---------------------------------------------------------------- how long a table's text is
entries_fit : (entries : List ℕ) (n : ℕ) → n + length entries ≤ 65535 → Low entries → AllFit (entry_form block_word) (enumerated n entries)
unfolding enumerated
entries_fit [] n h l = tt
entries_fit (s ∷ entries) n h l = (entry_fits n s (omega arith) (l 0), entries_fit entries (suc n) (omega arith) (λ i. l (suc i)))

longest_split : length (printed split_form (mosts split_form.fields)) ≡ 74
unfolding printed printed_fields decimal digits
longest_split = refl

longest_entry : length (printed (entry_form block_word) (mosts (entry_form block_word).fields)) ≡ 28
unfolding printed printed_fields decimal digits
longest_entry = refl

-- the text of a table has at most 14,410 bytes
pub table_long : (head entries : List ℕ) → Savable head entries → length (table_text split_form head block_word entries) ≤ 14410
unfolding table_text
table_long head entries w =
    let a : length (printed split_form head) ≤ 74 = rw longest_split at (line_long split_form head w.figures) in
    let b : length (printed_all (entry_form block_word) (enumerated 0 entries)) ≤ length (enumerated 0 entries) * 28 = rw longest_entry at (lines_long (entry_form block_word) (enumerated 0 entries) (entries_fit entries 0 (omega (arith, w.few)) w.low)) in
    omega (arith, w.few, length-enumerated entries 0, length-append (printed split_form head) (printed_all (entry_form block_word) (enumerated 0 entries)))
