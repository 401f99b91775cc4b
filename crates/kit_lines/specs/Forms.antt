-- The forms of the lines of a kit text (document 01, "Kit text").
use Rattle.std.specs.Prelude.{[], ◌∷◌}
use Rattle.decimal.specs.Decimal.{bytes}
use Rattle.line_forms.specs.Form.{Form, form, field}

-- the kit line, as `(kit (blocks 6) (stages 2) (limit 4))`
abbrev pub kit_form : Form
kit_form = form (field (bytes "(kit (blocks ") 65535 ∷ field (bytes ") (stages ") 65535 ∷ field (bytes ") (limit ") 99999999 ∷ []) (bytes "))")

-- a block line, as `(block (cost 1))`
abbrev pub block_form : Form
block_form = form (field (bytes "(block (cost ") 65535 ∷ []) (bytes "))")

-- a wire line, as `(wire (from 0) (to 1) (width 4))`
abbrev pub wire_form : Form
wire_form = form (field (bytes "(wire (from ") 65535 ∷ field (bytes ") (to ") 65535 ∷ field (bytes ") (width ") 65535 ∷ []) (bytes "))")
