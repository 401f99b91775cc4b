-- The forms of the lines of the answers (document 01, "Kit text").
use Rattle.std.specs.Prelude.{ℕ, List, [], ◌∷◌}
use Rattle.decimal.specs.Decimal.{bytes}
use Rattle.line_forms.specs.Form.{Field, Form, form, field}

-- a line of some fields, closed as every line is
abbrev pub headed : List Field → Form
headed fs = form fs (bytes "))")

-- the head of a split's lines, as `(split (cut 1) (rungs 1) (cutat 1) (moves 0))`
abbrev pub split_form : Form
split_form =
    form
    (field (bytes "(split (cut ") 99999999 ∷ field (bytes ") (rungs ") 99999999 ∷ field (bytes ") (cutat ") 99999999 ∷ field (bytes ") (moves ") 99999999 ∷ [])
    (bytes "))")

-- an entry of a table under its number
abbrev pub entry_form : List ℕ → Form
entry_form word = form (field word 65535 ∷ field (bytes " (stage ") 65535 ∷ []) (bytes "))")

-- as `(block 0 (stage 0))`
abbrev pub block_word : List ℕ
block_word = bytes "(block "

-- as `(start 0 (stage 0))`
abbrev pub start_word : List ℕ
start_word = bytes "(start "

-- the head of a start order's lines, as `(inspected (cut 1))`
abbrev pub inspected_form : Form
inspected_form = form (field (bytes "(inspected (cut ") 99999999 ∷ []) (bytes "))")

-- as `(refused (number 9) (place 0))`
abbrev pub refused_form : Form
refused_form = form (field (bytes "(refused (number ") 65535 ∷ field (bytes ") (place ") 65535 ∷ []) (bytes "))")
