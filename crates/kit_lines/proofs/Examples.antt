-- Document 01's kit text, read by the definitions.
use Prim.Native.String.{String, ◌++◌}
use mathlib.Core.Path.{◌≡◌, refl}
use mathlib.Core.List.{[], ◌∷◌}
use Rattle.folds.specs.Fold.{same}
use Rattle.decimal.specs.Decimal.{bytes, digits, decimal, digit, numbers, numbers_in}
use Rattle.validity.specs.declared.Cause.TheVariants.{Line}
use Rattle.line_forms.specs.Form.{printed_fields, printed, fits, as_form}
use Rattle.line_forms.specs.Lines.{lines_of, leading, column}
use Rattle.kit_lines.specs.Kit.{accepted, refused, block_rows, wire_rows, kit_with, kit_after, kit_lines, kit_of}

abbrev blocks : String
blocks = "(block (cost 1))\n(block (cost 1))\n(block (cost 1))\n(block (cost 1))\n(block (cost 1))\n(block (cost 1))\n"

abbrev wires : String
wires = "(wire (from 0) (to 1) (width 4))\n(wire (from 1) (to 2) (width 1))\n(wire (from 2) (to 3) (width 4))\n(wire (from 3) (to 4) (width 1))\n(wire (from 4) (to 5) (width 4))\n"

case_one : kit_of (bytes ("(kit (blocks 6) (stages 2) (limit 4))\n" ++ blocks ++ wires))
    ≡ accepted (record { stages = 2; limit = 4; costs = 1 ∷ 1 ∷ 1 ∷ 1 ∷ 1 ∷ 1 ∷ []; starts = 0 ∷ 1 ∷ 2 ∷ 3 ∷ 4 ∷ []; ends = 1 ∷ 2 ∷ 3 ∷ 4 ∷ 5 ∷ []; widths = 4 ∷ 1 ∷ 4 ∷ 1 ∷ 4 ∷ [] })
unfolding kit_of kit_lines kit_after kit_with block_rows wire_rows leading column lines_of as_form same fits printed printed_fields numbers_in numbers digit decimal digits
case_one = refl

empty_text : kit_of [] ≡ refused Line 1
unfolding kit_of kit_lines lines_of
empty_text = refl
