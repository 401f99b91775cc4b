-- The lines of a text as the reader passes them, and what that leaves for the pass that writes.
use Rattle.std.specs.Prelude.{Result, Ok, Err, ℕ, ◌≡◌, List, [], ◌∷◌, length, drop, eqb}
use Rattle.std.proofs.Math.Option.{Option}
use Rattle.folds.specs.Fold.{pick}
use Rattle.line_forms.specs.Form.{Form}
use Rattle.line_forms.specs.Lines.{lines_of, of_form, Ran}
use Rattle.kit_lines.specs.Forms.{kit_form, block_form, wire_form}
use Rattle.kit_lines.specs.Kit.{Says, accepted, refused, kit_from, kit_lines, block_rows, wire_rows}
use Rattle.kit_lines.specs.declared.Layout.{Layout}
use Rattle.kit_lines.specs.declared.Kind.{Kind}
use Rattle.kit_lines.specs.declared.Kind.TheVariants as kind
use Rattle.validity.specs.declared.Refusal.{Refusal}

-- the kind of the lines whose word begins with a letter: k, b, or any other for w
abbrev pub kind_of : ℕ → Kind
kind_of letter = pick (eqb letter 107) kind.Kit (pick (eqb letter 98) kind.Block kind.Wire)

-- the form of the lines of a kind
abbrev pub form_of : Kind → Form
form_of kind.Kit = kit_form
form_of kind.Block = block_form
form_of kind.Wire = wire_form

-- and how many of them there may be
abbrev pub most_of : Kind → ℕ
most_of kind.Kit = 1
most_of kind.Block = 512
most_of kind.Wire = 1024

abbrev pub of_kind : Kind → ℕ → List ℕ → Option (List ℕ)
of_kind k = of_form (form_of k)

-- the kit line of t has been passed, n block lines from place i on, and m wire lines from place j on; e is the place past them
pub record Passed (t : List ℕ) (i n j m e : ℕ) : Type 0 where
  pub kits : ℕ
  pub kit : Ran (of_form kit_form) t 1 0 kits i
  pub blocks : Ran (of_form block_form) t 512 i n j
  pub wires : Ran (of_form wire_form) t 1024 j m e

-- the rows of the block lines and of the wire lines that begin at place i of t
abbrev pub blocks_at : List ℕ → ℕ → List (List ℕ)
blocks_at t i = block_rows (lines_of (drop i t))

abbrev pub wires_at : List ℕ → ℕ → List (List ℕ)
wires_at t i = wire_rows (lines_of (drop i t))

-- the kit of a text that is laid out so
abbrev pub laid_out : List ℕ → Layout → Says
laid_out t y = accepted (kit_from (y.blocks ∷ y.stages ∷ y.limit ∷ []) (blocks_at t y.first_block) (wires_at t y.first_wire))

-- the text is a kit text, laid out so
pub record IsFine (t : List ℕ) (y : Layout) : Type 0 where
  pub says : kit_lines (lines_of t) ≡ laid_out t y
  pub blocks : y.blocks ≡ length (blocks_at t y.first_block)
  pub wires : y.wires ≡ length (wires_at t y.first_wire)

-- what the checks of the lines answer
abbrev pub Scanned : List ℕ → Result Layout Refusal → Type 0
Scanned t (Ok y) = IsFine t y
Scanned t (Err r) = kit_lines (lines_of t) ≡ refused r.cause r.place
