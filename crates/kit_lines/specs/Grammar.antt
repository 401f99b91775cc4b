-- The grammar of kit text in document 01's words: the text of a kit, and the line at which a text breaks.
use Rattle.std.specs.Prelude.{ℕ, zero, suc, ◌≤◌, ◌≡◌, Bool, ◌&&◌, List, [], ◌∷◌, ◌++◌, ltb, eqb, length, get_or}
use Rattle.std.proofs.Math.Option.{some}
use Rattle.folds.specs.Fold.{pick, count_to}
use Rattle.line_forms.specs.Form.{Form, printed, printed_all, as_form}
use Rattle.line_forms.specs.Stand.{is_of, line_at, Low}
use Rattle.kit_lines.specs.Forms.{kit_form, block_form, wire_form}
use Rattle.kit_lines.specs.Kit.{Kit}

-- ---------------------------------------------------------------- the text of a kit
unfoldable pub single : List ℕ → List (List ℕ)
single [] = []
single (c ∷ costs) = (c ∷ []) ∷ single costs

unfoldable pub triples : List ℕ → List ℕ → List ℕ → List (List ℕ)
triples [] ends widths = []
triples (a ∷ starts) [] widths = []
triples (a ∷ starts) (b ∷ ends) [] = []
triples (a ∷ starts) (b ∷ ends) (w ∷ widths) = (a ∷ b ∷ w ∷ []) ∷ triples starts ends widths

-- one kit line, a block line for each block, a wire line for each wire
unfoldable pub kit_text : Kit → List ℕ
kit_text k =
    printed kit_form (length k.costs ∷ k.stages ∷ k.limit ∷ [])
    ++ (printed_all block_form (single k.costs) ++ printed_all wire_form (triples k.starts k.ends k.widths))

-- the kits that have a text: limits to 99,999,999, other values to 65,535, at most 512 blocks and 1,024 wires
pub record InRanges (k : Kit) : Type 0 where
  pub stages : k.stages ≤ 65535
  pub limit : k.limit ≤ 99999999
  pub blocks : length k.costs ≤ 512
  pub wires : length k.starts ≤ 1024
  pub ends_all : length k.ends ≡ length k.starts
  pub widths_all : length k.widths ≡ length k.starts
  pub costs : Low k.costs
  pub starts : Low k.starts
  pub ends : Low k.ends
  pub widths : Low k.widths

-- ---------------------------------------------------------------- the line at which a text breaks
-- how many of the lines before line p are of a form
unfoldable pub count_of : Form → List (List ℕ) → ℕ → ℕ
count_of f ls p = count_to p (λ q. is_of f (line_at ls q))

-- whether line p may stand where it does, after lines that may: the kit line first;
-- a block line after fewer than 512 block lines and no wire line; a wire line after fewer than 1,024 wire lines
unfoldable pub stands : List (List ℕ) → ℕ → Bool
stands ls zero = is_of kit_form (line_at ls 0)
stands ls (suc p) =
    pick (is_of block_form (line_at ls (suc p))) (eqb (count_of wire_form ls (suc p)) 0 && ltb (count_of block_form ls (suc p)) 512)
    (is_of wire_form (line_at ls (suc p)) && ltb (count_of wire_form ls (suc p)) 1024)

-- the number of block lines is not what the kit line says
pub record Miscounted (ls : List (List ℕ)) : Type 0 where
  pub head : List ℕ
  pub says : as_form kit_form (line_at ls 0) ≡ some head
  pub differs : count_of block_form ls (length ls) ≡ get_or head 0 0 → ⊥
