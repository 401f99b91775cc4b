-- One law of forms: a line is of a form exactly if it is printed of numbers within the ranges, and it is read exactly so.
use Prim.Native.Nat.{ℕ, ◌+◌, ◌%◌, ◌≤◌}
use mathlib.Core.Path.{◌≡◌, refl, sym, ap, ap₂, ◌∙◌}
use mathlib.Core.Bool.{Bool, true, false, ◌&&◌}
use mathlib.Core.Logic.{◌⊎◌, inl, inr}
use mathlib.Core.List.{List, [], ◌∷◌, ◌++◌, append_assoc}
use mathlib.Core.Option.{Option, some, none}
use native.Mathlib.Omega.{arith}
use lib.Dec.{leb, eqb}
use lib.ListN.{length, drop, length-append}
use lib.Seq.{append_snoc, drop-drop}
use borrow.Author.Tests.{eq-eqb, ne_eqb, le-leb, leb-true, eqb-true}
use Rattle.folds.specs.Fold.{pick, same}
use Rattle.folds.proofs.Cases.{no_bool, both, both_i}
use Rattle.folds.proofs.Cases.{chose}
use Rattle.decimal.specs.Decimal.{decimal, digit, numbers, numbers_in}
use Rattle.decimal.specs.Read.{Number, Is, Not, starts_of}
use Rattle.decimal.proofs.Text.{stops, by_digits, decimal_one, decimal_long, numbers_decimal, numbers_skip, starts_sound, starts_own, past, field_sound, field_own}
use Rattle.line_forms.specs.Form.{Field, Form, printed_fields, printed, fits, as_form, plain, plain_word, plain_fields, clear}
use Rattle.line_forms.specs.Lines.{lines_of, joined, newlines}
use Rattle.line_forms.specs.Read.{Got, got, nope, on_number, after, read_fields, read_form}

pub none_some : (vs : List ℕ) → ◌≡◌ {A = Option (List ℕ)} none (some vs) → ⊥
none_some vs e = let z : ◌≡◌ {A = ℕ} 0 1 = cc in omega arith

pub nope_got : (vs : List ℕ) (j : ℕ) → nope ≡ got vs j → ⊥
nope_got vs j e = let z : ◌≡◌ {A = ℕ} 0 1 = cc in omega arith

-- ---------------------------------------------------------------- texts
pub same_sound : (s t : List ℕ) → same s t ≡ true → s ≡ t
unfolding same
same_sound [] [] e = refl
same_sound [] (b ∷ t) e = absurd (no_bool e)
same_sound (a ∷ s) [] e = absurd (no_bool e)
same_sound (a ∷ s) (b ∷ t) e = let h = both _ _ e in ap₂ ◌∷◌ (eqb-true a b h.0) (same_sound s t h.1)

pub same_own : (s : List ℕ) → same s s ≡ true
unfolding same
same_own [] = refl
same_own (a ∷ s) = both_i _ _ (eq-eqb a a refl) (same_own s)

-- what a plain byte is
plain_cons : (b : ℕ) (s : List ℕ) → plain (b ∷ s) ≡ true → (digit b ≡ false) × (eqb b 10 ≡ false) × (plain s ≡ true)
unfolding plain
plain_cons b s e = first (chose _ _ _ _ e)
  where
    second : digit b ≡ false → ((eqb b 10 ≡ true) × (false ≡ true)) ⊎ ((eqb b 10 ≡ false) × (plain s ≡ true)) → (digit b ≡ false) × (eqb b 10 ≡ false) × (plain s ≡ true)
    second h (inl x) = absurd (no_bool x.1)
    second h (inr x) = (h, x.0, x.1)

    first : ((digit b ≡ true) × (false ≡ true)) ⊎ ((digit b ≡ false) × (pick (eqb b 10) false (plain s) ≡ true)) → (digit b ≡ false) × (eqb b 10 ≡ false) × (plain s ≡ true)
    first (inl x) = absurd (no_bool x.1)
    first (inr x) = second x.0 (chose _ _ _ _ x.1)

plain_numbers : (p s : List ℕ) → plain p ≡ true → numbers_in (p ++ s) ≡ numbers_in s
plain_numbers [] s e = refl
plain_numbers (b ∷ p) s e = let h = plain_cons b p e in numbers_skip b (p ++ s) h.0 ∙ plain_numbers p s h.2

-- a line: one byte 10, at its end
abbrev empty : List ℕ → Bool
empty [] = true
empty (b ∷ s) = false

unfoldable pub one_line : List ℕ → Bool
one_line [] = false
one_line (b ∷ s) = pick (eqb b 10) (empty s) (one_line s)

one_skip : (b : ℕ) (s : List ℕ) → eqb b 10 ≡ false → one_line (b ∷ s) ≡ one_line s
unfolding one_line
one_skip b s e = rw e

one_plain : (p s : List ℕ) → plain p ≡ true → one_line (p ++ s) ≡ one_line s
one_plain [] s e = refl
one_plain (b ∷ p) s e = let h = plain_cons b p e in one_skip b (p ++ s) h.1 ∙ one_plain p s h.2

one_digit : (d : ℕ) (s : List ℕ) → one_line ((48 + d) ∷ s) ≡ one_line s
one_digit d s = one_skip (48 + d) s (ne_eqb (48 + d) 10 (λ z. omega arith))

one_decimal : (v : ℕ) (s : List ℕ) → one_line (decimal v ++ s) ≡ one_line s
one_decimal v = by_digits (λ (w : ℕ). (s : List ℕ) → one_line (decimal w ++ s) ≡ one_line s)
    (λ d h s. rw (decimal_one d h) (one_digit d s))
    (λ w h ih s. rw (decimal_long w h, append_snoc) (ih ((48 + w % 10) ∷ s) ∙ one_digit (w % 10) s))
    v

pub one_lines : (p s : List ℕ) → one_line p ≡ true → lines_of (p ++ s) ≡ p ∷ lines_of s
unfolding lines_of one_line
one_lines [] s e = absurd (no_bool e)
one_lines (b ∷ p) s e = go (chose _ _ _ _ e) (one_lines p s)
  where
    last : (q : List ℕ) → eqb b 10 ≡ true → empty q ≡ true → pick (eqb b 10) ((b ∷ []) ∷ lines_of (q ++ s)) (joined b (lines_of (q ++ s))) ≡ (b ∷ q) ∷ lines_of s
    last [] h z = rw h
    last (c ∷ q) h z = absurd (no_bool z)

    go : ((eqb b 10 ≡ true) × (empty p ≡ true)) ⊎ ((eqb b 10 ≡ false) × (one_line p ≡ true)) → (one_line p ≡ true → lines_of (p ++ s) ≡ p ∷ lines_of s)
        → pick (eqb b 10) ((b ∷ []) ∷ lines_of (p ++ s)) (joined b (lines_of (p ++ s))) ≡ (b ∷ p) ∷ lines_of s
    go (inl x) ih = last p x.0 x.1
    go (inr x) ih = rw (x.0, ih x.1)

pub one_newline : (p : List ℕ) → one_line p ≡ true → newlines p ≡ 1
unfolding newlines one_line
one_newline [] e = absurd (no_bool e)
one_newline (b ∷ p) e = go (chose _ _ _ _ e) (one_newline p)
  where
    last : (q : List ℕ) → empty q ≡ true → 1 + newlines q ≡ 1
    last [] z = refl
    last (c ∷ q) z = absurd (no_bool z)

    go : ((eqb b 10 ≡ true) × (empty p ≡ true)) ⊎ ((eqb b 10 ≡ false) × (one_line p ≡ true)) → (one_line p ≡ true → newlines p ≡ 1) → pick (eqb b 10) 1 0 + newlines p ≡ 1
    go (inl x) ih = rw x.0 (last p x.1)
    go (inr x) ih = rw (x.0, ih x.1)

-- ---------------------------------------------------------------- fields
-- what closes a line
record Ends (end : List ℕ) : Type 0 where
  none_in : numbers_in end ≡ []
  stop : stops end ≡ true
  line : one_line end ≡ true

plain_stops : (p s : List ℕ) → plain_word p ≡ true → stops (p ++ s) ≡ true
unfolding plain_word
plain_stops [] s e = absurd (no_bool e)
plain_stops (b ∷ p) s e = rw (plain_cons b p e).0

plain_word_lem : (p : List ℕ) → plain_word p ≡ true → plain p ≡ true
unfolding plain_word
plain_word_lem [] e = absurd (no_bool e)
plain_word_lem (b ∷ p) e = e

stop_close : (e : List ℕ) → plain e ≡ true → stops (e ++ (10 ∷ [])) ≡ true
unfolding digit
stop_close [] h = refl
stop_close (b ∷ e) h = rw (plain_cons b e h).0

newline : digit 10 ≡ false
unfolding digit
newline = refl

ends_close : (e : List ℕ) → plain e ≡ true → Ends (e ++ (10 ∷ []))
ends_close e h =
    record {
      none_in = plain_numbers e (10 ∷ []) h ∙ (numbers_skip 10 [] newline ∙ unfold numbers_in numbers in refl);
      stop = stop_close e h;
      line = one_plain e (10 ∷ []) h ∙ unfold one_line in refl;
    }

stops_more : (p s : List ℕ) → one_line p ≡ true → stops p ≡ true → stops (p ++ s) ≡ true
unfolding one_line
stops_more [] s e h = absurd (no_bool e)
stops_more (b ∷ p) s e h = h

fields_cons : (f : Field) (fs : List Field) → plain_fields (f ∷ fs) ≡ true → (plain_word f.word ≡ true) × (9 ≤ f.most) × (plain_fields fs ≡ true)
unfolding plain_fields
fields_cons f fs e =
    let a = both (plain_word f.word) (leb 9 f.most && plain_fields fs) e in
    let b = both (leb 9 f.most) (plain_fields fs) a.1 in
    (a.0, leb-true _ _ b.0, b.1)

pub fits_cons : (f : Field) (fs : List Field) (v : ℕ) (vs : List ℕ) → fits (f ∷ fs) (v ∷ vs) ≡ true → (v ≤ f.most) × (fits fs vs ≡ true)
unfolding fits
fits_cons f fs v vs e = let a = both (leb v f.most) (fits fs vs) e in (leb-true _ _ a.0, a.1)

fields_stops : (fs : List Field) (end vs : List ℕ) → plain_fields fs ≡ true → Ends end → stops (printed_fields fs end vs) ≡ true
unfolding printed_fields
fields_stops [] end vs h g = g.stop
fields_stops (f ∷ fs) end [] h g = g.stop
fields_stops (f ∷ fs) end (v ∷ vs) h g = plain_stops f.word _ (fields_cons f fs h).0

fields_line : (fs : List Field) (end vs : List ℕ) → plain_fields fs ≡ true → Ends end → one_line (printed_fields fs end vs) ≡ true
unfolding printed_fields
fields_line [] end vs h g = g.line
fields_line (f ∷ fs) end [] h g = g.line
fields_line (f ∷ fs) end (v ∷ vs) h g =
    let p = fields_cons f fs h in
    one_plain f.word _ (plain_word_lem _ p.0) ∙ (one_decimal v _ ∙ fields_line fs end vs p.2 g)

fields_numbers : (fs : List Field) (end vs : List ℕ) → plain_fields fs ≡ true → Ends end → fits fs vs ≡ true → numbers_in (printed_fields fs end vs) ≡ vs
unfolding printed_fields fits
fields_numbers [] end [] h g w = g.none_in
fields_numbers [] end (v ∷ vs) h g w = absurd (no_bool w)
fields_numbers (f ∷ fs) end [] h g w = absurd (no_bool w)
fields_numbers (f ∷ fs) end (v ∷ vs) h g w =
    let p = fields_cons f fs h in
    plain_numbers f.word _ (plain_word_lem _ p.0) ∙ (numbers_decimal v _ (fields_stops fs end vs p.2 g) ∙ ap (λ (l : List ℕ). v ∷ l) (fields_numbers fs end vs p.2 g (fits_cons f fs v vs w).1))

-- ---------------------------------------------------------------- reading fields
got_after : (v : ℕ) (g : Got) (vs : List ℕ) (j : ℕ) → after v g ≡ got vs j → (us : List ℕ) × (g ≡ got us j) × (v ∷ us ≡ vs)
got_after v (got us k) vs j e =
    let q : ◌≡◌ {A = List ℕ × ℕ} (v ∷ us, k) (vs, j) = cc in
    let a : k ≡ j = ap (λ (x : List ℕ × ℕ). x.1) q in
    let b : v ∷ us ≡ vs = ap (λ (x : List ℕ × ℕ). x.0) q in
    (us, rw a, b)
got_after v nope vs j e = absurd (nope_got vs j e)

went : (x : Number) (f : ℕ → ℕ → Got) (vs : List ℕ) (k : ℕ) → on_number x f ≡ got vs k → (v : ℕ) × (j : ℕ) × (x ≡ Is v j) × (f v j ≡ got vs k)
went (Is v j) f vs k e = (v, j, refl, e)
went Not f vs k e = absurd (nope_got vs k e)

fields_sound : (fs : List Field) (end t : List ℕ) (i : ℕ) (vs : List ℕ) (j : ℕ) → plain_fields fs ≡ true → read_fields fs end t i ≡ got vs j → (drop i t ≡ printed_fields fs end vs ++ drop j t) × (fits fs vs ≡ true)
unfolding read_fields printed_fields fits
fields_sound [] end t i vs j p e = go vs (chose _ _ _ _ e)
  where
    is : (us : List ℕ) → starts_of end (drop i t) ≡ true → got [] (i + length end) ≡ got us j → (drop i t ≡ printed_fields [] end us ++ drop j t) × (fits [] us ≡ true)
    is [] h q =
        let w : ◌≡◌ {A = List ℕ × ℕ} ([], i + length end) ([], j) = cc in
        let a : i + length end ≡ j = ap (λ (x : List ℕ × ℕ). x.1) w in
        (starts_sound end (drop i t) h ∙ ap (λ (s : List ℕ). end ++ s) (drop-drop (length end) i t ∙ ap (λ (k : ℕ). drop k t) a), refl)
    is (u ∷ us) h q =
        let w : ◌≡◌ {A = List ℕ × ℕ} ([], i + length end) (u ∷ us, j) = cc in
        let z : ◌≡◌ {A = List ℕ} [] (u ∷ us) = ap (λ (x : List ℕ × ℕ). x.0) w in
        absurd (omega (arith, ap length z))

    go : (us : List ℕ) → ((starts_of end (drop i t) ≡ true) × (got [] (i + length end) ≡ got us j)) ⊎ ((starts_of end (drop i t) ≡ false) × (nope ≡ got us j)) → (drop i t ≡ printed_fields [] end us ++ drop j t) × (fits [] us ≡ true)
    go us (inl x) = is us x.0 x.1
    go us (inr x) = absurd (nope_got us j x.1)
fields_sound (f ∷ fs) end t i vs j p e =
    let w = went _ _ vs j e in
    let g = got_after w.0 _ vs j w.3 in
    let q = fields_cons f fs p in
    let s = field_sound f.word f.most t i w.0 w.1 q.1 w.2 in
    let ih = fields_sound fs end t w.1 g.0 j q.2 g.1 in
    put vs w.0 g.0 w.1 g.2 s ih
  where
    put : (vs : List ℕ) (v : ℕ) (us : List ℕ) (k : ℕ) → v ∷ us ≡ vs → (drop i t ≡ f.word ++ (decimal v ++ drop k t)) × (v ≤ f.most) → (drop k t ≡ printed_fields fs end us ++ drop j t) × (fits fs us ≡ true)
        → (drop i t ≡ printed_fields (f ∷ fs) end vs ++ drop j t) × (fits (f ∷ fs) vs ≡ true)
    put vs v us k z a b = rw (← z) (simp append_assoc (rw b.0 at a.0), both_i (leb v f.most) (fits fs us) (le-leb _ _ a.1) b.1)

fields_own : (fs : List Field) (end t : List ℕ) (i : ℕ) (vs s : List ℕ) → plain_fields fs ≡ true → Ends end → fits fs vs ≡ true → drop i t ≡ printed_fields fs end vs ++ s → read_fields fs end t i ≡ got vs (i + length (printed_fields fs end vs))
unfolding read_fields printed_fields fits
fields_own [] end t i [] s p g w e = rw (e, starts_own end s)
fields_own [] end t i (v ∷ vs) s p g w e = absurd (no_bool w)
fields_own (f ∷ fs) end t i [] s p g w e = absurd (no_bool w)
fields_own (f ∷ fs) end t i (v ∷ vs) s p g w e =
    let r = (fields_cons f fs p).2 in
    let y = fits_cons f fs v vs w in
    let rest = printed_fields fs end vs in
    let x : drop i t ≡ f.word ++ (decimal v ++ (rest ++ s)) = simp append_assoc at e in
    let a : stops (rest ++ s) ≡ true = stops_more rest s (fields_line fs end vs r g) (fields_stops fs end vs r g) in
    let j = i + length f.word + length (decimal v) in
    let z : drop j t ≡ rest ++ s = past (decimal v) _ t (i + length f.word) (past f.word _ t i x) in
    let n : j + length rest ≡ i + length (f.word ++ (decimal v ++ rest)) = simp length-append (omega arith) in
    rw (field_own f.word f.most t i v (rest ++ s) y.0 a x, fields_own fs end t j vs s r g y.1 z, n)

-- ---------------------------------------------------------------- forms
module _ (f : Form) (c : clear f ≡ true) where
  clear_fields : plain_fields f.fields ≡ true
  unfolding clear
  clear_fields = (both (plain_fields f.fields) (plain f.close) c).0

  clear_close : Ends (f.close ++ (10 ∷ []))
  unfolding clear
  clear_close = ends_close f.close (both (plain_fields f.fields) (plain f.close) c).1

  -- each line of a form is one line: it holds one byte 10, its last
  pub form_line : (vs : List ℕ) → one_line (printed f vs) ≡ true
  unfolding printed
  form_line vs = fields_line f.fields _ vs clear_fields clear_close

  pub form_newline : (vs : List ℕ) → newlines (printed f vs) ≡ 1
  form_newline vs = one_newline (printed f vs) (form_line vs)

  pub as_own : (vs : List ℕ) → fits f.fields vs ≡ true → as_form f (printed f vs) ≡ some vs
  unfolding as_form printed
  as_own vs w =
      let n = fields_numbers f.fields (f.close ++ (10 ∷ [])) vs clear_fields clear_close w in
      rw (n, w, same_own (printed_fields f.fields (f.close ++ (10 ∷ [])) vs))

  pub as_sound : (l vs : List ℕ) → as_form f l ≡ some vs → (l ≡ printed f vs) × (fits f.fields vs ≡ true)
  unfolding as_form
  as_sound l vs e = go (chose _ _ _ _ e)
    where
      go : ((fits f.fields (numbers_in l) && same (printed f (numbers_in l)) l ≡ true) × (some (numbers_in l) ≡ some vs)) ⊎ ((fits f.fields (numbers_in l) && same (printed f (numbers_in l)) l ≡ false) × (none ≡ some vs)) → (l ≡ printed f vs) × (fits f.fields vs ≡ true)
      go (inl x) =
          let n : numbers_in l ≡ vs = cc in
          let h = both (fits f.fields (numbers_in l)) (same (printed f (numbers_in l)) l) x.0 in
          rw (← n) (sym (same_sound _ _ h.1), h.0)
      go (inr x) = absurd (none_some vs x.1)

  pub read_sound : (t : List ℕ) (i : ℕ) (vs : List ℕ) (j : ℕ) → read_form f t i ≡ got vs j → (drop i t ≡ printed f vs ++ drop j t) × (fits f.fields vs ≡ true)
  unfolding printed read_form
  read_sound t i vs j e = fields_sound f.fields _ t i vs j clear_fields e

  pub read_own : (t : List ℕ) (i : ℕ) (vs s : List ℕ) → fits f.fields vs ≡ true → drop i t ≡ printed f vs ++ s → read_form f t i ≡ got vs (i + length (printed f vs))
  unfolding printed read_form
  read_own t i vs s w e = fields_own f.fields _ t i vs s clear_fields clear_close w e
