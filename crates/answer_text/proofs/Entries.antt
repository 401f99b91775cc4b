-- Lines of a table that are written one after another.
use Prim.Native.Nat.{ℕ, ◌+◌, ◌≤◌, ◌<◌}
use mathlib.Core.Path.{◌≡◌, refl, sym, ap, ◌∙◌}
use mathlib.Core.List.{List, [], ◌∷◌, ◌++◌, append_assoc, append-nil}
use native.Mathlib.Numerals.{add-one}
use native.Mathlib.Omega.{arith}
use lib.ListN.{length, get_or, drop, length-append, drop_of_length-le}
use Rattle.folds.proofs.Lists.{left_cons}
use Rattle.folds.proofs.Parts.{put_none}
use Rattle.decimal.specs.Write.{Puts}
use Rattle.decimal.proofs.Writing.{puts_then, puts_length, room_then}
use Rattle.line_forms.specs.Form.{Form, printed, printed_all, needs, needs_all}
use Rattle.answer_text.specs.Answers.{enumerated}

module _ (f : Form) (entries : List ℕ) where
  -- the rows from n on
  abbrev pub rows_from : ℕ → List (List ℕ)
  rows_from n = enumerated n (drop n entries)

  module _ (n : ℕ) (h : n < length entries) where
    rows_step : rows_from n ≡ (n ∷ get_or entries n 0 ∷ []) ∷ rows_from (n + 1)
    unfolding enumerated
    rows_step = rw (left_cons entries n 0 h, add-one n)

    pub needs_step : needs_all f (rows_from n) ≡ needs f (n ∷ get_or entries n 0 ∷ []) + needs_all f (rows_from (n + 1))
    unfolding needs_all
    needs_step = rw rows_step

    pub text_step : printed_all f (rows_from n) ≡ printed f (n ∷ get_or entries n 0 ∷ []) ++ printed_all f (rows_from (n + 1))
    unfolding printed_all
    text_step = rw rows_step

  rows_end : (n : ℕ) → length entries ≤ n → rows_from n ≡ []
  unfolding enumerated
  rows_end n h = rw (drop_of_length-le entries h)

  pub needs_end : (n : ℕ) → length entries ≤ n → needs_all f (rows_from n) ≡ 0
  unfolding needs_all
  needs_end n h = rw (rows_end n h)

  text_end : (n : ℕ) → length entries ≤ n → printed_all f (rows_from n) ≡ []
  unfolding printed_all
  text_end n h = rw (rows_end n h)

  -- the lines before line n are written from place `at` on, and i is the place past them
  pub record Putting (l₀ : List ℕ) (at : ℕ) (l : List ℕ) (i n : ℕ) : Type 0 where
    pub low : n ≤ length entries
    pub done : List ℕ
    pub all : done ++ printed_all f (rows_from n) ≡ printed_all f (rows_from 0)
    pub puts : Puts l₀ at done l i
    pub kept : length l ≡ length l₀

  pub putting_start : (l : List ℕ) (at : ℕ) → Putting l at l at 0
  putting_start l at = record { low = omega arith; done = []; all = refl; puts = record { next = omega arith; is = sym (put_none l at) }; kept = refl }

  module _ {l₀ : List ℕ} {at : ℕ} {l : List ℕ} {i n : ℕ} (p : Putting l₀ at l i n) (room : at + length (printed_all f (rows_from 0)) ≤ length l₀) where
    module _ (h : n < length entries) where
      line_all : (p.done ++ printed f (n ∷ get_or entries n 0 ∷ [])) ++ printed_all f (rows_from (n + 1)) ≡ printed_all f (rows_from 0)
      line_all = append_assoc p.done _ _ ∙ (ap (λ (s : List ℕ). p.done ++ s) (sym (text_step n h)) ∙ p.all)

      line_room : at + length (p.done ++ printed f (n ∷ get_or entries n 0 ∷ [])) ≤ length l₀
      line_room = omega (arith, room, ap length line_all, length-append (p.done ++ printed f (n ∷ get_or entries n 0 ∷ [])) (printed_all f (rows_from (n + 1))))

      pub putting_room : i + length (printed f (n ∷ get_or entries n 0 ∷ [])) ≤ length l
      putting_room = room_then _ p.puts line_room

      pub putting_turn : {l' : List ℕ} {j : ℕ} → Puts l i (printed f (n ∷ get_or entries n 0 ∷ [])) l' j → Putting l₀ at l' j (n + 1)
      putting_turn {l'} {j} x =
          record {
            low = omega arith;
            done = p.done ++ printed f (n ∷ get_or entries n 0 ∷ []);
            all = line_all;
            puts = puts_then p.puts x line_room;
            kept = puts_length x putting_room ∙ p.kept;
          }

    pub putting_end : length entries ≤ n → Puts l₀ at (printed_all f (rows_from 0)) l i
    putting_end h =
        let q : p.done ≡ printed_all f (rows_from 0) = sym (append-nil p.done) ∙ (ap (λ (s : List ℕ). p.done ++ s) (sym (text_end n h)) ∙ p.all) in
        rw q at p.puts
