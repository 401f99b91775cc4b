-- The checks of the lines, from what the code's branches say.
use Prim.Native.Nat.{ℕ, ◌+◌, ◌≤◌, ◌<◌}
use mathlib.Core.Path.{◌≡◌, refl, sym, ap, ◌∙◌}
use mathlib.Core.List.{List, [], ◌∷◌}
use mathlib.Core.Option.{none}
use native.Mathlib.Omega.{arith}
use lib.ListN.{length, get_or, drop, length-drop}
use lib.Seq.{drop-drop}
use borrow.Author.Tests.{lt-ltb, le-ltb, eq-eqb, ne_eqb}
use Rattle.line_forms.specs.Form.{as_form}
use Rattle.line_forms.specs.Lines.{lines_of, leading, of_form}
use Rattle.line_forms.specs.Read.{Got, got, nope, read_form}
use Rattle.kit_lines.specs.Forms.{kit_form}
use Rattle.line_forms.proofs.Lines.{lines_none, lines_left, leading_some}
use Rattle.kit_lines.specs.Kit.{refused, kit_with, kit_after, kit_lines, block_rows, wire_rows}
use Rattle.kit_lines.specs.Scan.{blocks_at, wires_at, Passed, IsFine}
use Rattle.validity.specs.declared.Cause.TheVariants.{Line, Lines}
use Rattle.kit_lines.proofs.Accepted.{kit_some}
use Rattle.kit_lines.proofs.Lines.{kit_reads}

-- ---------------------------------------------------------------- the checks
-- the kit line was read, or not
kit_none : (ls : List (List ℕ)) → ((l : List ℕ) (rest : List (List ℕ)) → ls ≡ l ∷ rest → as_form kit_form l ≡ none) → kit_lines ls ≡ refused Line 1
unfolding kit_lines
kit_none [] h = refl
kit_none (l ∷ ls) h = rw (h l ls refl, kit_lines)

pub no_kit_line : (t : List ℕ) {x : Got} → x ≡ read_form kit_form t 0 → x ≡ nope → kit_lines (lines_of t) ≡ refused Line 1
no_kit_line t e h = kit_none (lines_of t) ((kit_reads t).missed 0 0 (sym e ∙ h))

first_only : (ls : List (List ℕ)) (vs : List ℕ) → length (vs ∷ leading (of_form kit_form) 1 0 ls) ≡ 1
unfolding leading
first_only ls vs = refl

module _ (t : List ℕ) {x : Got} (vs : List ℕ) (h : ℕ) (e : x ≡ read_form kit_form t 0) (is : x ≡ got vs h) (i n j m p : ℕ) (r : Passed t i n j m p) where
  -- the reader has passed that kit line
  past_kit : lines_of (drop i t) ≡ lines_of (drop h t)
  past_kit =
      let f = (kit_reads t).found 0 0 vs h (sym e ∙ is) in
      let one : length (leading (of_form kit_form) 0 1 (lines_of t)) ≡ 1 = rw (f.1, leading_some (of_form kit_form) 0 0 f.0 (lines_of (drop h t)) vs f.2) (first_only (lines_of (drop h t)) vs) in
      r.kit.lines ∙ rw (r.kit.count, one, f.1)

  past_all : lines_of (drop p t) ≡ drop (n + m) (lines_of (drop i t))
  past_all = r.wires.lines ∙ (ap (drop m) r.blocks.lines ∙ drop-drop m n (lines_of (drop i t)))

  -- the lines after the kit line, as the rows that were counted
  kit_line_is : kit_lines (lines_of t) ≡ kit_with vs (blocks_at t i) (wires_at t j) (length (lines_of (drop i t)))
  unfolding kit_after
  kit_line_is =
      let f = (kit_reads t).found 0 0 vs h (sym e ∙ is) in
      let q : drop (length (blocks_at t i)) (lines_of (drop i t)) ≡ lines_of (drop j t) = unfold block_rows in rw (← r.blocks.count) (sym r.blocks.lines) in
      ap kit_lines f.1 ∙ (kit_some f.0 vs _ f.2 ∙ rw (← past_kit, q))

  blocks_are : n ≡ length (blocks_at t i)
  unfolding block_rows
  blocks_are = r.blocks.count

  wires_are : m ≡ length (wires_at t j)
  unfolding wire_rows
  wires_are = r.wires.count

  pub line_too_many : p < length t → kit_lines (lines_of t) ≡ refused Line (n + m + 2)
  unfolding kit_with
  line_too_many z =
      let a : n + m < length (lines_of (drop i t)) = omega (arith, lines_left t p z, ap length past_all, length-drop (n + m) (lines_of (drop i t))) in
      kit_line_is ∙ rw (← blocks_are, ← wires_are, lt-ltb _ _ a)

  module _ (z : length t ≤ p) where
    no_more : length (lines_of (drop i t)) ≤ n + m
    no_more = omega (arith, ap length (sym past_all ∙ lines_none t p z), length-drop (n + m) (lines_of (drop i t)))

    pub block_count_differs : (n ≡ get_or vs 0 0 → ⊥) → kit_lines (lines_of t) ≡ refused Lines 0
    unfolding kit_with
    block_count_differs y = kit_line_is ∙ rw (← blocks_are, ← wires_are, le-ltb _ _ no_more, ne_eqb _ _ y)

    pub is_fine : n ≡ get_or vs 0 0 → IsFine t (record { stages = get_or vs 1 0; limit = get_or vs 2 0; blocks = n; wires = m; first_block = i; first_wire = j })
    unfolding kit_with
    is_fine y =
        record {
          says = kit_line_is ∙ rw (← blocks_are, ← wires_are, le-ltb _ _ no_more, eq-eqb _ _ y);
          blocks = blocks_are;
          wires = wires_are;
        }
