-- The readers of block and wire lines, from what the code's branches say, and the kinds of lines by their letters.
use Prim.Native.Nat.{ℕ, ◌≤◌}
use mathlib.Core.Path.{◌≡◌, refl}
use mathlib.Core.Bool.{true}
use mathlib.Core.List.{List, [], ◌∷◌}
use lib.Dec.{eqb}
use Rattle.folds.specs.Fold.{pick}
use Rattle.folds.proofs.Cases.{by}
use Rattle.decimal.specs.Decimal.{digit}
use Rattle.line_forms.specs.Form.{plain, plain_word, plain_fields, clear}
use Rattle.line_forms.specs.Lines.{of_form}
use Rattle.line_forms.specs.Read.{got, read_form}
use Rattle.line_forms.proofs.Form.{fits_cons, read_sound}
use Rattle.line_forms.specs.Run.{Reads}
use Rattle.line_forms.proofs.Lines.{form_reads}
use Rattle.kit_lines.specs.Forms.{kit_form, block_form, wire_form}
use Rattle.kit_lines.specs.Scan.{kind_of, form_of, most_of}

pub kit_clear : clear kit_form ≡ true
unfolding clear plain_fields plain_word plain digit
kit_clear = refl

pub block_clear : clear block_form ≡ true
unfolding clear plain_fields plain_word plain digit
block_clear = refl

pub wire_clear : clear wire_form ≡ true
unfolding clear plain_fields plain_word plain digit
wire_clear = refl

pub kit_reads : (t : List ℕ) → Reads (of_form kit_form) (λ n i. read_form kit_form t i) t
kit_reads t = form_reads kit_form kit_clear t

pub block_reads : (t : List ℕ) → Reads (of_form block_form) (λ n i. read_form block_form t i) t
block_reads t = form_reads block_form block_clear t

pub wire_reads : (t : List ℕ) → Reads (of_form wire_form) (λ n i. read_form wire_form t i) t
wire_reads t = form_reads wire_form wire_clear t

-- the value of a block line is a 16-bit number
pub block_low : (t : List ℕ) (i : ℕ) {v j : ℕ} → read_form block_form t i ≡ got (v ∷ []) j → v ≤ 65535
block_low t i {v} {j} e = (fits_cons _ _ v [] (read_sound block_form block_clear t i (v ∷ []) j e).1).0

pub wire_low : (t : List ℕ) (i : ℕ) {a b c j : ℕ} → read_form wire_form t i ≡ got (a ∷ b ∷ c ∷ []) j → (a ≤ 65535) × (b ≤ 65535) × (c ≤ 65535)
wire_low t i {a} {b} {c} {j} e =
    let x = fits_cons _ _ a (b ∷ c ∷ []) (read_sound wire_form wire_clear t i (a ∷ b ∷ c ∷ []) j e).1 in
    let y = fits_cons _ _ b (c ∷ []) x.1 in
    (x.0, y.0, (fits_cons _ _ c [] y.1).0)

-- the form of the lines that a letter stands for, and the most of them
pub letter_form : (letter : ℕ) → form_of (kind_of letter) ≡ pick (eqb letter 107) kit_form (pick (eqb letter 98) block_form wire_form)
letter_form letter = by (eqb letter 107) (λ e. rw e) (λ e. by (eqb letter 98) (λ f. rw (e, f)) (λ f. rw (e, f)))

pub letter_most : (letter : ℕ) → most_of (kind_of letter) ≡ pick (eqb letter 107) 1 (pick (eqb letter 98) 512 1024)
letter_most letter = by (eqb letter 107) (λ e. rw e) (λ e. by (eqb letter 98) (λ f. rw (e, f)) (λ f. rw (e, f)))
