-- The rows that the first lines of a text give, both ways: what was printed is read, and what was read was printed.
use Prim.Native.Nat.{ℕ, zero, suc, ◌+◌, ◌-◌, ◌*◌, ◌≤◌, ◌<◌}
use mathlib.Core.Path.{◌≡◌, refl, sym, ap, ap₂, ◌∙◌}
use mathlib.Core.Bool.{true}
use mathlib.Core.List.{List, [], ◌∷◌, ◌++◌, append_assoc, flatten}
use mathlib.Core.Option.{Option, some, none}
use native.Mathlib.Nat.{not-suc-le-zero, le_of_suc-le-suc, suc-mul}
use native.Mathlib.Omega.{arith}
use lib.ListN.{length, get_or, drop, length-append}
use Rattle.folds.proofs.Cases.{no_bool}
use Rattle.decimal.specs.Decimal.{decimal}
use Rattle.decimal.proofs.Text.{decimal_mono}
use Rattle.std.specs.Prelude.{Some, None}
use Rattle.std.specs.Prelude as std
use Rattle.line_forms.specs.Read.{Got, got, read_form, if_numbered}
use Rattle.line_forms.specs.Run.{entry_of}
use Rattle.line_forms.proofs.Form.{read_sound}
use Rattle.line_forms.proofs.Lines.{if_numbered_lem}
use Rattle.line_forms.specs.Form.{Field, field, Form, form, printed_fields, printed, printed_all, fits, as_form, clear, needs_fields, needs, needs_all}
use Rattle.line_forms.specs.Lines.{lines_of, leading, of_form, column}
use Rattle.line_forms.proofs.Form.{one_lines, form_line, fits_cons, as_own, as_sound}
use Rattle.line_forms.proofs.Lines.{leading_some, none_or}

-- every row has the numbers of a line of the form
abbrev pub AllFit : Form → List (List ℕ) → Type 0
AllFit f [] = Unit
AllFit f (vs ∷ rows) = (fits f.fields vs ≡ true) × AllFit f rows

-- the lines of rows
unfoldable pub printed_rows : Form → List (List ℕ) → List (List ℕ)
printed_rows f [] = []
printed_rows f (vs ∷ rows) = printed f vs ∷ printed_rows f rows

pub length_rows : (f : Form) (rows : List (List ℕ)) → length (printed_rows f rows) ≡ length rows
unfolding printed_rows
length_rows f [] = refl
length_rows f (vs ∷ rows) = ap suc (length_rows f rows)

pub flat_rows : (f : Form) (rows ls : List (List ℕ)) → flatten (printed_rows f rows ++ ls) ≡ printed_all f rows ++ flatten ls
unfolding printed_rows printed_all flatten
flat_rows f [] ls = refl
flat_rows f (vs ∷ rows) ls = ap (λ (s : List ℕ). printed f vs ++ s) (flat_rows f rows ls) ∙ sym (append_assoc (printed f vs) (printed_all f rows) (flatten ls))

module _ (f : Form) (c : clear f ≡ true) where
  -- what was printed is read
  pub lines_line : (vs s : List ℕ) → lines_of (printed f vs ++ s) ≡ printed f vs ∷ lines_of s
  lines_line vs s = one_lines (printed f vs) s (form_line f c vs)

  pub lines_all : (rows : List (List ℕ)) (s : List ℕ) → lines_of (printed_all f rows ++ s) ≡ printed_rows f rows ++ lines_of s
  unfolding printed_all printed_rows
  lines_all [] s = refl
  lines_all (vs ∷ rows) s = rw append_assoc (lines_line vs (printed_all f rows ++ s) ∙ ap (λ (ls : List (List ℕ)). printed f vs ∷ ls) (lines_all rows s))

  pub lines_only : (rows : List (List ℕ)) → lines_of (printed_all f rows) ≡ printed_rows f rows
  unfolding printed_all printed_rows lines_of
  lines_only [] = refl
  lines_only (vs ∷ rows) = lines_line vs (printed_all f rows) ∙ ap (λ (ls : List (List ℕ)). printed f vs ∷ ls) (lines_only rows)

  pub leading_own : (rows : List (List ℕ)) (n k : ℕ) (ls : List (List ℕ)) → AllFit f rows → length rows ≤ k → leading (of_form f) n k (printed_rows f rows ++ ls) ≡ rows ++ leading (of_form f) (n + length rows) (k - length rows) ls
  unfolding printed_rows
  leading_own [] n k ls a h = let q : n + 0 ≡ n = omega arith in let r : k - 0 ≡ k = omega arith in rw (q, r)
  leading_own (vs ∷ rows) n zero ls a h = absurd (not-suc-le-zero h)
  leading_own (vs ∷ rows) n (suc k) ls a h =
      let q : suc n + length rows ≡ n + suc (length rows) = omega arith in
      let r : suc k - suc (length rows) ≡ k - length rows = omega arith in
      leading_some (of_form f) n k (printed f vs) _ vs (as_own f c vs a.0) ∙ ap (λ (l : List (List ℕ)). vs ∷ l) (rw r (rw q at (leading_own rows (suc n) k ls a.1 (le_of_suc-le-suc h))))

  -- what was read was printed
  pub leading_fit : (n k : ℕ) (ls : List (List ℕ)) → AllFit f (leading (of_form f) n k ls)
  unfolding leading
  leading_fit n zero ls = tt
  leading_fit n (suc k) [] = tt
  leading_fit n (suc k) (l ∷ ls) = go (as_form f l) refl (leading_fit (suc n) k ls)
    where
      go : (o : Option (List ℕ)) → as_form f l ≡ o → AllFit f (leading (of_form f) (suc n) k ls) → AllFit f (elim o [ some vs ↦ vs ∷ leading (of_form f) (suc n) k ls | none ↦ [] ])
      go (some vs) e ih = ((as_sound f c l vs e).1, ih)
      go none e ih = tt

  pub leading_sound : (n k : ℕ) (ls : List (List ℕ)) → ls ≡ printed_rows f (leading (of_form f) n k ls) ++ drop (length (leading (of_form f) n k ls)) ls
  unfolding leading printed_rows
  leading_sound n zero ls = refl
  leading_sound n (suc k) [] = refl
  leading_sound n (suc k) (l ∷ ls) = go (as_form f l) refl (leading_sound (suc n) k ls)
    where
      go : (o : Option (List ℕ)) → as_form f l ≡ o → ls ≡ printed_rows f (leading (of_form f) (suc n) k ls) ++ drop (length (leading (of_form f) (suc n) k ls)) ls
          → l ∷ ls ≡ printed_rows f (elim o [ some vs ↦ vs ∷ leading (of_form f) (suc n) k ls | none ↦ [] ]) ++ drop (length {A = List ℕ} (elim o [ some vs ↦ vs ∷ leading (of_form f) (suc n) k ls | none ↦ [] ])) (l ∷ ls)
      go (some vs) e ih = ap₂ ◌∷◌ (as_sound f c l vs e).0 ih
      go none e ih = refl

leads_at : (a b : ℕ) (w : List ℕ) (m : ℕ) (fs : List Field) (e vs : List ℕ) → fits (field (a ∷ b ∷ w) m ∷ fs) vs ≡ true → get_or (printed (form (field (a ∷ b ∷ w) m ∷ fs) e) vs) 1 0 ≡ b
unfolding fits printed printed_fields
leads_at a b w m fs e [] h = absurd (no_bool h)
leads_at a b w m fs e (v ∷ vs) h = refl

-- a line of a form whose second byte is x
pub record Leads (f : Form) (x : ℕ) : Type 0 where
  pub second : (vs : List ℕ) → fits f.fields vs ≡ true → get_or (printed f vs) 1 0 ≡ x

pub leads : (a b : ℕ) (w : List ℕ) (m : ℕ) (fs : List Field) (e : List ℕ) → Leads (form (field (a ∷ b ∷ w) m ∷ fs) e) b
leads a b w m fs e = record { second = leads_at a b w m fs e }

-- forms that can be told apart by it
pub apart : {f g : Form} {x y : ℕ} → clear f ≡ true → clear g ≡ true → Leads f x → Leads g y → (x ≡ y → ⊥) → (l vs : List ℕ) → as_form f l ≡ some vs → as_form g l ≡ none
apart {f} {g} c d p q n l vs e =
    none_or (as_form g l)
    (λ us h. let a = as_sound f c l vs e in
    let b = as_sound g d l us h in
    n (sym (p.second vs a.1) ∙ (ap (λ (s : List ℕ). get_or s 1 0) (sym a.0 ∙ b.0) ∙ q.second us b.1)))

-- each of the first lines, and the line past them
module _ (say : ℕ → List ℕ → Option (List ℕ)) where
  pub leading_each : (n k : ℕ) (ls : List (List ℕ)) (q : ℕ) → q < length (leading say n k ls) → say (n + q) (get_or ls q []) ≡ some (get_or (leading say n k ls) q [])
  unfolding leading
  leading_each n zero ls q h = absurd (not-suc-le-zero h)
  leading_each n (suc k) [] q h = absurd (not-suc-le-zero h)
  leading_each n (suc k) (l ∷ ls) q h = go (say n l) refl q h (leading_each (suc n) k ls)
    where
      go : (o : Option (List ℕ)) → say n l ≡ o → (q : ℕ) → q < length {A = List ℕ} (elim o [ some vs ↦ vs ∷ leading say (suc n) k ls | none ↦ [] ])
          → ((r : ℕ) → r < length (leading say (suc n) k ls) → say (suc n + r) (get_or ls r []) ≡ some (get_or (leading say (suc n) k ls) r []))
          → say (n + q) (get_or (l ∷ ls) q []) ≡ some (get_or {A = List ℕ} (elim o [ some vs ↦ vs ∷ leading say (suc n) k ls | none ↦ [] ]) q [])
      go none e q h ih = absurd (not-suc-le-zero h)
      go (some vs) e zero h ih = let z : n + 0 ≡ n = omega arith in rw z e
      go (some vs) e (suc r) h ih = let z : n + suc r ≡ suc n + r = omega arith in rw z (ih r (le_of_suc-le-suc h))

  pub leading_last : (n k : ℕ) (ls : List (List ℕ)) → length (leading say n k ls) < k → length (leading say n k ls) < length ls → say (n + length (leading say n k ls)) (get_or ls (length (leading say n k ls)) []) ≡ none
  unfolding leading
  leading_last n zero ls h g = absurd (not-suc-le-zero h)
  leading_last n (suc k) [] h g = absurd (not-suc-le-zero g)
  leading_last n (suc k) (l ∷ ls) h g = go (say n l) refl h g (leading_last (suc n) k ls)
    where
      go : (o : Option (List ℕ)) → say n l ≡ o → length {A = List ℕ} (elim o [ some vs ↦ vs ∷ leading say (suc n) k ls | none ↦ [] ]) < suc k
          → length {A = List ℕ} (elim o [ some vs ↦ vs ∷ leading say (suc n) k ls | none ↦ [] ]) < suc (length ls)
          → (length (leading say (suc n) k ls) < k → length (leading say (suc n) k ls) < length ls → say (suc n + length (leading say (suc n) k ls)) (get_or ls (length (leading say (suc n) k ls)) []) ≡ none)
          → say (n + length {A = List ℕ} (elim o [ some vs ↦ vs ∷ leading say (suc n) k ls | none ↦ [] ])) (get_or (l ∷ ls) (length {A = List ℕ} (elim o [ some vs ↦ vs ∷ leading say (suc n) k ls | none ↦ [] ])) []) ≡ none
      go none e h g ih = let z : n + 0 ≡ n = omega arith in rw z e
      go (some vs) e h g ih = let z : n + suc (length (leading say (suc n) k ls)) ≡ suc n + length (leading say (suc n) k ls) = omega arith in rw z (ih (le_of_suc-le-suc h) (le_of_suc-le-suc g))

  pub leading_short : (n k : ℕ) (ls : List (List ℕ)) → length (leading say n k ls) ≤ length ls
  unfolding leading
  leading_short n zero ls = omega arith
  leading_short n (suc k) [] = omega arith
  leading_short n (suc k) (l ∷ ls) = go (say n l) (leading_short (suc n) k ls)
    where
      go : (o : Option (List ℕ)) → length (leading say (suc n) k ls) ≤ length ls → length {A = List ℕ} (elim o [ some vs ↦ vs ∷ leading say (suc n) k ls | none ↦ [] ]) ≤ suc (length ls)
      go (some vs) ih = omega arith
      go none ih = omega arith

-- ---------------------------------------------------------------- the numbers of a row, and how long its line is
-- the highest numbers that a form has
abbrev pub mosts : List Field → List ℕ
mosts [] = []
mosts (f ∷ fs) = f.most ∷ mosts fs

fields_long : (fs : List Field) (end vs : List ℕ) → fits fs vs ≡ true → length (printed_fields fs end vs) ≤ length (printed_fields fs end (mosts fs))
unfolding printed_fields fits
fields_long [] end vs h = omega arith
fields_long (f ∷ fs) end [] h = absurd (no_bool h)
fields_long (f ∷ fs) end (v ∷ vs) h =
    let a = fits_cons f fs v vs h in
    let p = fields_long fs end vs a.1 in
    let q = decimal_mono f.most v a.0 in
    simp length-append (omega arith)

pub lines_long : (f : Form) (rows : List (List ℕ)) → AllFit f rows → length (printed_all f rows) ≤ length rows * length (printed f (mosts f.fields))
unfolding printed_all
lines_long f [] a = omega arith
lines_long f (vs ∷ rows) a =
    let p : length (printed f vs) ≤ length (printed f (mosts f.fields)) = unfold printed in fields_long f.fields _ vs a.0 in
    omega (arith, p, lines_long f rows a.1, length-append (printed f vs) (printed_all f rows), suc-mul (length rows) (length (printed f (mosts f.fields))))

pub line_long : (f : Form) (vs : List ℕ) → fits f.fields vs ≡ true → length (printed f vs) ≤ length (printed f (mosts f.fields))
unfolding printed
line_long f vs h = fields_long f.fields _ vs h

-- each number is at most its field's highest
pub fits_most : (fs : List Field) (vs : List ℕ) (c : ℕ) → fits fs vs ≡ true → get_or vs c 0 ≤ get_or (mosts fs) c 0
unfolding fits
fits_most [] [] c h = omega arith
fits_most [] (v ∷ vs) c h = absurd (no_bool h)
fits_most (f ∷ fs) [] c h = absurd (no_bool h)
fits_most (f ∷ fs) (v ∷ vs) zero h = (fits_cons f fs v vs h).0
fits_most (f ∷ fs) (v ∷ vs) (suc c) h = fits_most fs vs c (fits_cons f fs v vs h).1

pub column_most : (f : Form) (c : ℕ) (rows : List (List ℕ)) → AllFit f rows → (i : ℕ) → get_or (column c rows) i 0 ≤ get_or (mosts f.fields) c 0
unfolding column
column_most f c [] a i = omega arith
column_most f c (vs ∷ rows) a zero = fits_most f.fields vs c a.0
column_most f c (vs ∷ rows) a (suc i) = column_most f c rows a.1 i

-- ---------------------------------------------------------------- what lines need
needs_fields_lem : (fs : List Field) (end vs : List ℕ) → needs_fields fs end vs ≡ length (printed_fields fs end vs)
unfolding needs_fields printed_fields
needs_fields_lem [] end vs = refl
needs_fields_lem (f ∷ fs) end [] = refl
needs_fields_lem (f ∷ fs) end (v ∷ vs) = rw (needs_fields_lem fs end vs) (sym (length-append f.word _ ∙ ap (λ (n : ℕ). length f.word + n) (length-append (decimal v) _)))

pub needs_are : (f : Form) (vs : List ℕ) → needs f vs ≡ length (printed f vs)
unfolding needs printed
needs_are f vs = needs_fields_lem f.fields _ vs

pub needs_all_lem : (f : Form) (rows : List (List ℕ)) → needs_all f rows ≡ length (printed_all f rows)
unfolding needs_all printed_all
needs_all_lem f [] = refl
needs_all_lem f (vs ∷ rows) = rw (needs_are f vs, needs_all_lem f rows) (sym (length-append (printed f vs) (printed_all f rows)))

-- ---------------------------------------------------------------- the numbers of a line that was read
pub line_most : (f : Form) → clear f ≡ true → (t : List ℕ) (i : ℕ) (vs : List ℕ) (j : ℕ) → read_form f t i ≡ got vs j → (c : ℕ) → get_or vs c 0 ≤ get_or (mosts f.fields) c 0
line_most f c t i vs j e k = fits_most f.fields vs k (read_sound f c t i vs j e).1

none_entry : (p : ℕ × ℕ) → ◌≡◌ {A = std.Option (ℕ × ℕ)} (Some p) None → ⊥
none_entry p e = let z : ◌≡◌ {A = ℕ} 0 1 = cc in omega arith

same_entry : (v j w k : ℕ) → ◌≡◌ {A = std.Option (ℕ × ℕ)} (Some (v, j)) (Some (w, k)) → v ≡ w
same_entry v j w k e = let p : ◌≡◌ {A = ℕ × ℕ} (v, j) (w, k) = cc in ap (λ (x : ℕ × ℕ). x.0) p

-- and of an entry that a reader tells
pub entry_most : (f : Form) → clear f ≡ true → (t : List ℕ) (i c v j : ℕ) → Some (v, j) ≡ entry_of c (read_form f t i) → v ≤ get_or (mosts f.fields) c 0
entry_most f d t i c v j e = go (read_form f t i) refl
  where
    go : (g : Got) → read_form f t i ≡ g → v ≤ get_or (mosts f.fields) c 0
    go None q = absurd (none_entry _ (e ∙ ap (entry_of c) q))
    go (Some (vs, k)) q = omega (arith, same_entry _ _ _ _ (e ∙ ap (entry_of c) q), line_most f d t i vs k q c)

pub entry_most_numbered : (f : Form) → clear f ≡ true → (t : List ℕ) (n i c v j : ℕ) → Some (v, j) ≡ entry_of c (if_numbered n (read_form f t i)) → v ≤ get_or (mosts f.fields) c 0
entry_most_numbered f d t n i c v j e = go (if_numbered n (read_form f t i)) refl
  where
    go : (g : Got) → if_numbered n (read_form f t i) ≡ g → v ≤ get_or (mosts f.fields) c 0
    go None q = absurd (none_entry _ (e ∙ ap (entry_of c) q))
    go (Some (vs, k)) q = omega (arith, same_entry _ _ _ _ (e ∙ ap (entry_of c) q), line_most f d t i vs k (if_numbered_lem n _ vs k q).0 c)
