-- Lines that may stand where they do, and the first that may not.
use Rattle.std.specs.Prelude.{ℕ, ◌-◌, ◌≤◌, ◌<◌, ◌≡◌, Bool, true, false, List, [], get_or}
use Rattle.std.proofs.Math.Option.{Option, some, none}
use Rattle.line_forms.specs.Form.{Form, as_form}

-- whether a line says something
abbrev pub said : Option (List ℕ) → Bool
said (some vs) = true
said none = false

-- whether a line is of a form
unfoldable pub is_of : Form → List ℕ → Bool
is_of f l = said (as_form f l)

-- line p of a text, from 0
abbrev pub line_at : List (List ℕ) → ℕ → List ℕ
line_at ls p = get_or ls p []

-- line p, from 0, of n lines is the first that may not stand where it does; a text of no lines has none at 0
pub record FirstBad (ok : ℕ → Bool) (n p : ℕ) : Type 0 where
  pub within : p ≤ n - 1
  pub bad : ok p ≡ false
  pub first : (q : ℕ) → q < p → ok q ≡ true

-- there are lines, and every one may stand where it does
pub record AllStand (ok : ℕ → Bool) (n : ℕ) : Type 0 where
  pub some_line : 0 < n
  pub stand : (q : ℕ) → q < n → ok q ≡ true

-- numbers of 16 bits
abbrev pub Low : List ℕ → Type 0
Low l = (i : ℕ) → get_or l i 0 ≤ 65535
