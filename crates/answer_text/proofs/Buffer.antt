-- Writing an answer into a buffer, from what the code's branches say.
use Prim.Native.Nat.{ℕ, ◌+◌, ◌-◌, ◌^◌, ◌≤◌, ◌<◌}
use mathlib.Core.Path.{◌≡◌, refl, sym, ap, ◌∙◌}
use mathlib.Core.Bool.{Bool, true, false, not}
use mathlib.Core.List.{List, [], ◌∷◌, ◌++◌}
use native.Mathlib.Omega.{arith}
use lib.Dec.{ltb}
use lib.ListN.{length, length-append}
use borrow.Author.Tests.{lt-ltb, le-ltb, ltb-false}
use Rattle.folds.specs.Fold.{put, over}
use Rattle.decimal.specs.Write.{Puts}
use Rattle.decimal.proofs.Writing.{puts_then, room_then, decimal_short}
use Rattle.line_forms.specs.Form.{Form, printed, printed_all, needs_fields, needs, needs_all}
use Rattle.line_forms.proofs.Rows.{needs_are, needs_all_lem}
use Rattle.answer_text.specs.Forms.{split_form, entry_form, inspected_form, refused_form}
use Rattle.validity.specs.Cause.{refusal, told, Passed}
use Rattle.validity.specs.declared.Cause.TheVariants as cause
use Rattle.answer_text.specs.Answers.{enumerated, table_text, writing, written, RoomIs}
use Rattle.std.specs.Prelude.{Option, Some, None, is_some}
use Rattle.folds.proofs.Cases.{no_bool}

-- a text at the front
put_front : (l s : List ℕ) → put l 0 s ≡ over s l
unfolding put over
put_front l s = let z : 0 + length s ≡ length s = omega arith in rw z

-- a buffer that is too short, and one that is not
module _ (text buf : List ℕ) where
  pub short_of : true ≡ ltb (length buf) (length text) → (refusal cause.Room 0 ≡ writing text buf) × (buf ≡ written text buf)
  unfolding writing written
  short_of e = rw (← e) (refl, refl)

  pub long_for : false ≡ ltb (length buf) (length text) → {now : List ℕ} {n : ℕ} → Puts buf 0 text now n → (told Passed (n ∷ []) ≡ writing text buf) × (now ≡ written text buf)
  unfolding writing written
  long_for e {now} {n} p =
      let z : n ≡ length text = omega (arith, p.next) in
      rw (← e) (ap (λ (m : ℕ). told Passed (m ∷ [])) z, p.is ∙ put_front buf text)

-- a head line and the lines of a table
module _ (head : Form) (vs word entries : List ℕ) where
  abbrev text : List ℕ
  text = table_text head vs word entries

  -- the bytes that were counted are the length of the text
  table_length : needs head vs + needs_all (entry_form word) (enumerated 0 entries) ≡ length text
  unfolding table_text
  table_length = rw (needs_are head vs, needs_all_lem (entry_form word) (enumerated 0 entries)) (sym (length-append (printed head vs) (printed_all (entry_form word) (enumerated 0 entries))))

  of_length : (buf : List ℕ) (b : Bool) → b ≡ ltb (length buf) (needs head vs + needs_all (entry_form word) (enumerated 0 entries)) → b ≡ ltb (length buf) (length text)
  of_length buf b e = e ∙ ap (ltb (length buf)) table_length

  module _ (buf : List ℕ) (over-is : false ≡ ltb (length buf) (needs head vs + needs_all (entry_form word) (enumerated 0 entries))) where
    table_fits : 0 + length (printed head vs ++ printed_all (entry_form word) (enumerated 0 entries)) ≤ length buf
    unfolding table_text
    table_fits = omega (arith, ltb-false (length buf) _ (sym over-is), table_length)

    pub head_room : 0 + length (printed head vs) ≤ length buf
    head_room = omega (arith, table_fits, length-append (printed head vs) (printed_all (entry_form word) (enumerated 0 entries)))

    module _ {l : List ℕ} {i : ℕ} (h : Puts buf 0 (printed head vs) l i) where
      pub rest_room : i + length (printed_all (entry_form word) (enumerated 0 entries)) ≤ length l
      rest_room = room_then _ h table_fits

      pub table_written_lem : {now : List ℕ} {n : ℕ} → Puts l i (printed_all (entry_form word) (enumerated 0 entries)) now n → (told Passed (n ∷ []) ≡ writing text buf) × (now ≡ written text buf)
      table_written_lem r = long_for text buf (of_length buf false over-is) (unfold table_text in puts_then h r table_fits)

  pub table_short : (buf : List ℕ) → true ≡ ltb (length buf) (needs head vs + needs_all (entry_form word) (enumerated 0 entries)) → (refusal cause.Room 0 ≡ writing text buf) × (buf ≡ written text buf)
  table_short buf e = short_of text buf (of_length buf true e)

-- what the test of a head line of h bytes told
pub over_told : (size rest : ℕ) {h n : ℕ} (r t : Bool) → r ≡ ltb size (h + rest) → h ≡ n → r ≡ t → t ≡ ltb size (n + rest)
over_told size rest r t e q z = sym z ∙ (e ∙ ap (λ (m : ℕ). ltb size (m + rest)) q)

pub head_over : (size head need : ℕ) → size < head → true ≡ ltb size (head + need)
head_over size head need h = sym (lt-ltb size (head + need) (omega arith))

-- a line by itself, of n bytes
module _ (f : Form) (vs buf : List ℕ) {n : ℕ} (e : n ≡ needs f vs) where
  pub line_short : length buf < n → (refusal cause.Room 0 ≡ writing (printed f vs) buf) × (buf ≡ written (printed f vs) buf)
  line_short h = short_of (printed f vs) buf (sym (lt-ltb (length buf) (length (printed f vs)) (omega (arith, needs_are f vs))))

  pub line_room : n ≤ length buf → length (printed f vs) ≤ length buf
  line_room h = omega (arith, needs_are f vs)

  pub line_front : n ≤ length buf → 0 + length (printed f vs) ≤ length buf
  line_front h = omega (arith, needs_are f vs)

  pub line_written : n ≤ length buf → {now : List ℕ} {r : ℕ} → Puts buf 0 (printed f vs) now r → (told Passed (r ∷ []) ≡ writing (printed f vs) buf) × (now ≡ written (printed f vs) buf)
  line_written h p = long_for (printed f vs) buf (sym (le-ltb (length buf) (length (printed f vs)) (line_room h))) p

-- what the lines need fits 64 bits
pub entry_needs : (word : List ℕ) (n s : ℕ) → length word ≤ 16 → n < 2 ^ 64 → s < 2 ^ 64 → needs (entry_form word) (n ∷ s ∷ []) < 2 ^ 64
unfolding needs needs_fields
entry_needs word n s h a b = omega (arith, decimal_short n a, decimal_short s b)

pub split_low : (a b c d : ℕ) → a < 2 ^ 64 → b < 2 ^ 64 → c < 2 ^ 64 → d < 2 ^ 64 → needs split_form (a ∷ b ∷ c ∷ d ∷ []) < 2 ^ 64
unfolding needs needs_fields
split_low a b c d p q r s = omega (arith, decimal_short a p, decimal_short b q, decimal_short c r, decimal_short d s)

pub order_low : (a : ℕ) → a < 2 ^ 64 → needs inspected_form (a ∷ []) < 2 ^ 64
unfolding needs needs_fields
order_low a p = omega (arith, decimal_short a p)

pub refusal_low : (a b : ℕ) → a < 2 ^ 64 → b < 2 ^ 64 → needs refused_form (a ∷ b ∷ []) < 2 ^ 64
unfolding needs needs_fields
refusal_low a b p q = omega (arith, decimal_short a p, decimal_short b q)

-- no room left, or some
pub room_none : (size head need : ℕ) (x : Option ℕ) (r : Bool) → head ≤ size → RoomIs (size - head) need x → is_some x ≡ not r → r ≡ ltb size (head + need)
room_none size head need None true h q e = sym (lt-ltb size (head + need) (omega arith))
room_none size head need None false h q e = absurd (no_bool e)
room_none size head need (Some l) true h q e = absurd (no_bool (sym e))
room_none size head need (Some l) false h q e = sym (le-ltb size (head + need) (omega arith))
