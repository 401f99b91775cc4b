-- What a kit text says (document 01, "Kit text", refusals 14, 15 and 16).
use Rattle.std.specs.Prelude.{ℕ, ◌+◌, List, [], ◌∷◌, ltb, eqb, length, get_or, drop}
use Rattle.std.proofs.Math.Option.{some, none}
use Rattle.folds.specs.Fold.{pick}
use Rattle.validity.specs.declared.Cause.{Cause}
use Rattle.validity.specs.declared.Cause.TheVariants.{Length, Line, Lines}
use Rattle.line_forms.specs.Form.{as_form}
use Rattle.line_forms.specs.Lines.{lines_of, leading, of_form, column}
use Rattle.kit_lines.specs.Forms.{kit_form, block_form, wire_form}

-- a kit as its text gives it: the stage count, the limit, the costs of its blocks, and its wires
pub record Kit : Type 0 where
  pub stages : ℕ
  pub limit : ℕ
  pub costs : List ℕ
  pub starts : List ℕ
  pub ends : List ℕ
  pub widths : List ℕ

-- what a text says: a kit, or why it says none, and the place
pub data Says : Type 0 where
  accepted : Kit → Says
  refused : Cause → ℕ → Says

-- the kit of a kit line's numbers and the rows of its block and wire lines
abbrev pub kit_from : List ℕ → List (List ℕ) → List (List ℕ) → Kit
kit_from head blocks wires =
    record {
      stages = get_or head 1 0;
      limit = get_or head 2 0;
      costs = column 0 blocks;
      starts = column 0 wires;
      ends = column 1 wires;
      widths = column 2 wires;
    }

-- the block lines that come first, at most 512
unfoldable pub block_rows : List (List ℕ) → List (List ℕ)
block_rows ls = leading (of_form block_form) 0 512 ls

-- the wire lines that come first, at most 1,024
unfoldable pub wire_rows : List (List ℕ) → List (List ℕ)
wire_rows ls = leading (of_form wire_form) 0 1024 ls

-- block lines, wire lines and no other line; as many block lines as the kit line says
unfoldable pub kit_with : List ℕ → List (List ℕ) → List (List ℕ) → ℕ → Says
kit_with head blocks wires lines =
    pick (ltb (length blocks + length wires) lines) (refused Line (length blocks + length wires + 2))
    (pick (eqb (length blocks) (get_or head 0 0)) (accepted (kit_from head blocks wires)) (refused Lines 0))

-- the lines after the kit line
unfoldable pub kit_after : List ℕ → List (List ℕ) → Says
kit_after head ls = kit_with head (block_rows ls) (wire_rows (drop (length (block_rows ls)) ls)) (length ls)

-- exactly one kit line, then block lines, then wire lines
unfoldable pub kit_lines : List (List ℕ) → Says
kit_lines [] = refused Line 1
kit_lines (l ∷ ls) = elim (as_form kit_form l) [ some head ↦ kit_after head ls | none ↦ refused Line 1 ]

-- what a text says
unfoldable pub kit_of : List ℕ → Says
kit_of t = pick (ltb 65536 (length t)) (refused Length 0) (kit_lines (lines_of t))
