-- Check 4 and the lists afterwards, from what the code's branches say.
use Prim.Native.Nat.{ℕ, ◌≤◌, ◌<◌}
use mathlib.Core.Path.{◌≡◌, refl, sym, ◌∙◌}
use mathlib.Core.List.{List, [], ◌∷◌}
use lib.Dec.{ltb}
use lib.ListN.{length}
use borrow.Author.Tests.{le-ltb, lt-ltb}
use Rattle.folds.specs.Fold.{pick, over}
use Rattle.line_forms.specs.Lines.{lines_of, column}
use Rattle.line_forms.proofs.Lines.{length-column}
use Rattle.kit_lines.specs.Kit.{Says, refused, kit_lines, kit_of}
use Rattle.validity.specs.Cause.{Answer, refusal, told, Passed}
use Rattle.validity.specs.declared.Cause.TheVariants.{Room, Length}
use Rattle.kit_text.specs.Reading.{Lists, lists, figures, roomed, reading_of, written}
use Rattle.kit_lines.specs.Scan.{blocks_at, wires_at, laid_out, IsFine}
use Rattle.kit_lines.specs.declared.Layout.{Layout}
use Rattle.validity.specs.declared.Cause.{Cause}

module _ (t : List ℕ) (y : Layout) (f : IsFine t y) (old : Lists) where
  room_tests : Says → Says
  room_tests k =
      pick (ltb (length old.costs) y.blocks) (refused Room 0)
      (pick (ltb (length old.starts) y.wires) (refused Room 0)
      (pick (ltb (length old.ends) y.wires) (refused Room 0)
      (pick (ltb (length old.widths) y.wires) (refused Room 0) k)))

  wires_long : (c : ℕ) → length (column c (wires_at t y.first_wire)) ≡ y.wires
  wires_long c = length-column c _ ∙ sym f.wires

  room_is : roomed old (laid_out t y) ≡ room_tests (laid_out t y)
  unfolding roomed room_tests
  room_is = rw (length-column 0 (blocks_at t y.first_block), ← f.blocks, wires_long 0, wires_long 1, wires_long 2)

  -- a list is too short
  pub too_short : refused Room 0 ≡ roomed old (laid_out t y) → (refusal Room 0 ≡ figures (roomed old (laid_out t y))) × (old ≡ written (roomed old (laid_out t y)) old)
  unfolding written
  too_short e = rw (← e) (refl, refl)

  pub short_costs : length old.costs < y.blocks → refused Room 0 ≡ roomed old (laid_out t y)
  unfolding room_tests
  short_costs a = sym (room_is ∙ rw (lt-ltb _ _ a))

  module _ (a : y.blocks ≤ length old.costs) where
    pub short_starts : length old.starts < y.wires → refused Room 0 ≡ roomed old (laid_out t y)
    unfolding room_tests
    short_starts b = sym (room_is ∙ rw (le-ltb _ _ a, lt-ltb _ _ b))

    module _ (b : y.wires ≤ length old.starts) where
      pub short_ends : length old.ends < y.wires → refused Room 0 ≡ roomed old (laid_out t y)
      unfolding room_tests
      short_ends c = sym (room_is ∙ rw (le-ltb _ _ a, le-ltb _ _ b, lt-ltb _ _ c))

      module _ (c : y.wires ≤ length old.ends) where
        pub short_widths : length old.widths < y.wires → refused Room 0 ≡ roomed old (laid_out t y)
        unfolding room_tests
        short_widths d = sym (room_is ∙ rw (le-ltb _ _ a, le-ltb _ _ b, le-ltb _ _ c, lt-ltb _ _ d))

        long_enough : y.wires ≤ length old.widths → laid_out t y ≡ roomed old (laid_out t y)
        unfolding room_tests
        long_enough d = sym (room_is ∙ rw (le-ltb _ _ a, le-ltb _ _ b, le-ltb _ _ c, le-ltb _ _ d))

        pub all_written : y.wires ≤ length old.widths → (costs starts ends widths : List ℕ)
            → costs ≡ over (column 0 (blocks_at t y.first_block)) old.costs
            → (starts ≡ over (column 0 (wires_at t y.first_wire)) old.starts)
            × ((ends ≡ over (column 1 (wires_at t y.first_wire)) old.ends) × (widths ≡ over (column 2 (wires_at t y.first_wire)) old.widths))
            → (told Passed (y.blocks ∷ y.wires ∷ y.stages ∷ y.limit ∷ []) ≡ figures (roomed old (laid_out t y))) × (lists costs starts ends widths ≡ written (roomed old (laid_out t y)) old)
        unfolding written
        all_written d costs starts ends widths g h =
            rw (← long_enough d) (rw (length-column 0 (blocks_at t y.first_block), ← f.blocks, wires_long 0), rw (g, h.0, h.1.0, h.1.1))

-- the answer of the checks before
module _ (t : List ℕ) (old : Lists) where
  pub too_long : 65536 < length t → (refusal Length 0 ≡ figures (reading_of t old)) × (old ≡ written (reading_of t old) old)
  unfolding reading_of kit_of roomed written
  too_long h = rw (lt-ltb _ _ h) (refl, refl)

  module _ (h : length t ≤ 65536) where
    pub bad_lines : (fault : Cause) (place : ℕ) → kit_lines (lines_of t) ≡ refused fault place → (refusal fault place ≡ figures (reading_of t old)) × (old ≡ written (reading_of t old) old)
    unfolding reading_of kit_of roomed written
    bad_lines fault place e = rw (le-ltb _ _ h, e) (refl, refl)

    pub loaded : (y : Layout) → IsFine t y → (a : Answer) (now : Lists) → (a ≡ figures (roomed old (laid_out t y))) × (now ≡ written (roomed old (laid_out t y)) old) → (a ≡ figures (reading_of t old)) × (now ≡ written (reading_of t old) old)
    unfolding reading_of kit_of
    loaded y f a now e = let q : kit_lines (lines_of t) ≡ laid_out t y = f.says in rw (le-ltb _ _ h, q) e
