-- Lines of a text that are read one after another from a place on: one law for every form.
use Prim.Native.Nat.{ℕ, min, zero, suc, ◌+◌, ◌-◌, ◌≤◌, ◌<◌}
use mathlib.Core.Path.{◌≡◌, refl, sym, ap, ◌∙◌}
use mathlib.Core.Bool.{Bool, true, false}
use mathlib.Core.Logic.{◌⊎◌, inl, inr}
use mathlib.Core.List.{List, [], ◌∷◌, ◌++◌, flatten}
use mathlib.Core.Option.{Option, some, none}
use native.Mathlib.Nat.{not-suc-le-zero, le_of_suc-le-suc}
use native.Mathlib.Numerals.{add-one}
use native.Mathlib.Omega.{arith}
use lib.Dec.{eqb, ltb}
use lib.ListN.{length, get_or, set, take, drop, length-drop, drop_of_length-le}
use lib.Seq.{drop-drop}
use Rattle.folds.specs.Fold.{pick, Wrote, over}
use Rattle.folds.proofs.Cases.{chose, by}
use borrow.Author.Tests.{ltb-true, ltb-false}
use Rattle.folds.proofs.Slices.{wrote_none, wrote_turn, wrote_done}
use Rattle.line_forms.specs.Form.{Form, printed, as_form, clear}
use Rattle.line_forms.specs.Lines.{lines_of, joined, newlines, numbered, leading, column, of_form, Ran}
use Rattle.line_forms.specs.Read.{Got, got, nope, read_form, if_numbered}
use Rattle.line_forms.specs.Run.{Reads, place_of, entry_of}
use Rattle.std.specs.Prelude.{Some, None}
use Rattle.std.specs.Prelude as std
use Rattle.line_forms.proofs.Form.{nope_got, one_lines, form_line, as_own, as_sound, read_sound, read_own}

-- ---------------------------------------------------------------- the lines make the text
flat_joined : (b : ℕ) (ls : List (List ℕ)) → flatten (joined b ls) ≡ b ∷ flatten ls
unfolding flatten
flat_joined b [] = refl
flat_joined b (l ∷ ls) = refl

pub flat_lines : (t : List ℕ) → flatten (lines_of t) ≡ t
unfolding lines_of flatten
flat_lines [] = refl
flat_lines (b ∷ t) = go (eqb b 10) (flat_lines t)
  where
    go : (q : Bool) → flatten (lines_of t) ≡ t → flatten (pick q ((b ∷ []) ∷ lines_of t) (joined b (lines_of t))) ≡ b ∷ t
    go true ih = ap (λ (s : List ℕ). b ∷ s) ih
    go false ih = flat_joined b (lines_of t) ∙ ap (λ (s : List ℕ). b ∷ s) ih

-- lines are counted by bytes 10: p of them stand before line p, from 0
pub line_number : (t : List ℕ) (p : ℕ) → p < length (lines_of t) → newlines (flatten (take p (lines_of t))) ≡ p
unfolding lines_of flatten newlines
line_number [] p h = absurd (not-suc-le-zero h)
line_number (b ∷ t) p h = go (eqb b 10) refl (lines_of t) p (line_number t) h
  where
    go : (q : Bool) → eqb b 10 ≡ q → (ls : List (List ℕ)) (p : ℕ) → ((m : ℕ) → m < length ls → newlines (flatten (take m ls)) ≡ m)
        → p < length (pick q ((b ∷ []) ∷ ls) (joined b ls)) → newlines (flatten (take p (pick q ((b ∷ []) ∷ ls) (joined b ls)))) ≡ p
    go true e ls zero ih h = refl
    go true e ls (suc p) ih h = rw e (omega (arith, ih p (le_of_suc-le-suc h)))
    go false e [] zero ih h = refl
    go false e [] (suc p) ih h = absurd (not-suc-le-zero (le_of_suc-le-suc h))
    go false e (l ∷ ls) zero ih h = refl
    go false e (l ∷ ls) (suc p) ih h = rw e (omega (arith, ih (suc p) h))

-- where a text ends
lines_some : (b : ℕ) (t : List ℕ) → 0 < length (lines_of (b ∷ t))
unfolding lines_of
lines_some b t = go (eqb b 10) (lines_of t)
  where
    go : (q : Bool) (ls : List (List ℕ)) → 0 < length (pick q ((b ∷ []) ∷ ls) (joined b ls))
    go true ls = omega arith
    go false [] = omega arith
    go false (l ∷ ls) = omega arith

pub lines_none : (t : List ℕ) (i : ℕ) → length t ≤ i → lines_of (drop i t) ≡ []
unfolding lines_of
lines_none t i h = rw (drop_of_length-le t h)

pub lines_left : (t : List ℕ) (i : ℕ) → i < length t → 0 < length (lines_of (drop i t))
lines_left t i h = go (drop i t) refl
  where
    go : (s : List ℕ) → drop i t ≡ s → 0 < length (lines_of s)
    go [] e = absurd (omega (arith, ap length e, length-drop i t))
    go (b ∷ s) e = lines_some b s

-- ---------------------------------------------------------------- one line, read from a place on
none_place : (j : ℕ) → ◌≡◌ {A = std.Option ℕ} None (Some j) → ⊥
none_place j e = let z : ◌≡◌ {A = ℕ} 0 1 = cc in omega arith

pub none_or : (o : Option (List ℕ)) → ((vs : List ℕ) → o ≡ some vs → ⊥) → o ≡ none
none_or none h = refl
none_or (some vs) h = absurd (h vs refl)

pub form_reads : (f : Form) → clear f ≡ true → (t : List ℕ) → Reads (of_form f) (λ n i. read_form f t i) t
unfolding flatten
form_reads f c t =
    record {
      found =
          λ n i vs j e.
          let a = read_sound f c t i vs j e in
          (printed f vs, rw a.0 (one_lines (printed f vs) (drop j t) (form_line f c vs)), as_own f c vs a.1);
      missed =
          λ n i e l ls h.
          none_or (as_form f l)
          (λ vs q. let a = as_sound f c l vs q in
          let d : drop i t ≡ printed f vs ++ flatten ls = sym (flat_lines (drop i t)) ∙ (ap flatten h ∙ ap (λ (s : List ℕ). s ++ flatten ls) a.0) in
          nope_got vs _ (sym e ∙ read_own f c t i vs (flatten ls) a.1 d));
    }

pub if_numbered_lem : (n : ℕ) (g : Got) (vs : List ℕ) (j : ℕ) → if_numbered n g ≡ got vs j → (g ≡ got vs j) × (eqb (get_or vs 0 0) n ≡ true)
if_numbered_lem n nope vs j e = absurd (nope_got vs j e)
if_numbered_lem n (got us k) vs j e = go (chose _ _ _ _ e)
  where
    go : ((eqb (get_or us 0 0) n ≡ true) × (got us k ≡ got vs j)) ⊎ ((eqb (get_or us 0 0) n ≡ false) × (nope ≡ got vs j)) → (got us k ≡ got vs j) × (eqb (get_or vs 0 0) n ≡ true)
    go (inl x) =
        let q : ◌≡◌ {A = List ℕ × ℕ} (us, k) (vs, j) = cc in
        let a : us ≡ vs = ap (λ (y : List ℕ × ℕ). y.0) q in
        (x.1, rw a at x.0)
    go (inr x) = absurd (nope_got vs j x.1)

-- the same where the first number has to be the line's
pub numbered_reads : {say : ℕ → List ℕ → Option (List ℕ)} {read : ℕ → ℕ → Got} {t : List ℕ} → Reads say read t → Reads (λ n l. numbered n (say n l)) (λ n i. if_numbered n (read n i)) t
numbered_reads {say} {read} {t} r =
    record {
      found =
          λ n i vs j e.
          let x = if_numbered_lem n (read n i) vs j e in
          let f = r.found n i vs j x.0 in
          (f.0, f.1, rw (f.2, x.1));
      missed = λ n i e l ls h. missed_at n i (read n i) refl e l ls h;
    }
  where
    missed_at : (n i : ℕ) (g : Got) → read n i ≡ g → if_numbered n g ≡ nope → (l : List ℕ) (ls : List (List ℕ)) → lines_of (drop i t) ≡ l ∷ ls → numbered n (say n l) ≡ none
    missed_at n i nope q e l ls h = rw (r.missed n i q l ls h)
    missed_at n i (got us k) q e l ls h = go (chose _ _ _ _ e)
      where
        go : ((eqb (get_or us 0 0) n ≡ true) × (got us k ≡ nope)) ⊎ ((eqb (get_or us 0 0) n ≡ false) × (nope ≡ nope)) → numbered n (say n l) ≡ none
        go (inl x) = absurd (nope_got us k (sym x.1))
        go (inr x) =
            let f = r.found n i us k q in
            let a : f.0 ≡ l = cc f.1 in
            rw (← a, f.2, x.0)

-- ---------------------------------------------------------------- one line after another
module _ (say : ℕ → List ℕ → Option (List ℕ)) where
  pub leading_some : (n k : ℕ) (l : List ℕ) (ls : List (List ℕ)) (vs : List ℕ) → say n l ≡ some vs → leading say n (suc k) (l ∷ ls) ≡ vs ∷ leading say (suc n) k ls
  unfolding leading
  leading_some n k l ls vs h = rw (h, leading)

  pub leading_none : (n k : ℕ) (l : List ℕ) (ls : List (List ℕ)) → say n l ≡ none → leading say n k (l ∷ ls) ≡ []
  unfolding leading
  leading_none n zero l ls h = refl
  leading_none n (suc k) l ls h = rw (h, leading)

  pub leading_nil : (n k : ℕ) → leading say n k [] ≡ []
  unfolding leading
  leading_nil n zero = refl
  leading_nil n (suc k) = refl

  pub leading_zero : (n : ℕ) (ls : List (List ℕ)) → leading say n 0 ls ≡ []
  unfolding leading
  leading_zero n ls = refl

  pub leading_few : (n k : ℕ) (ls : List (List ℕ)) → length (leading say n k ls) ≤ k
  unfolding leading
  leading_few n zero ls = omega arith
  leading_few n (suc k) [] = omega arith
  leading_few n (suc k) (l ∷ ls) = go (say n l) (leading_few (suc n) k ls)
    where
      go : (o : Option (List ℕ)) → length (leading say (suc n) k ls) ≤ k → length {A = List ℕ} (elim o [ some vs ↦ vs ∷ leading say (suc n) k ls | none ↦ [] ]) ≤ suc k
      go (some vs) ih = omega arith
      go none ih = omega arith

-- n lines of at most K, from place `from` on, were read, and the reading stands at i
pub record Left (say : ℕ → List ℕ → Option (List ℕ)) (t : List ℕ) (K from n i : ℕ) : Type 0 where
  pub low : n ≤ K
  pub few : n ≤ length (leading say 0 K (lines_of (drop from t)))
  pub rest : drop n (leading say 0 K (lines_of (drop from t))) ≡ leading say n (K - n) (lines_of (drop i t))
  pub lines : lines_of (drop i t) ≡ drop n (lines_of (drop from t))

module _ {say : ℕ → List ℕ → Option (List ℕ)} {read : ℕ → ℕ → Got} {t : List ℕ} (r : Reads say read t) where
  abbrev all : ℕ → ℕ → List (List ℕ)
  all K from = leading say 0 K (lines_of (drop from t))

  pub left_start : (K from : ℕ) → Left say t K from 0 from
  left_start K from = let q : K - 0 ≡ K = omega arith in record { low = omega arith; few = omega arith; rest = rw q; lines = refl }

  module _ {K from n i : ℕ} (z : Left say t K from n i) where
    -- what a turn that reads vs adds
    pub left_next : (vs : List ℕ) (j : ℕ) → n < K → read n i ≡ got vs j → leading say n (K - n) (lines_of (drop i t)) ≡ vs ∷ leading say (n + 1) (K - (n + 1)) (lines_of (drop j t))
    left_next vs j h g =
        let q : K - n ≡ suc (K - (n + 1)) = omega arith in
        let f = r.found n i vs j g in
        rw (q, f.1, add-one n) (leading_some say n (K - suc n) f.0 _ vs f.2)

    left_full_at : leading say n (K - n) (lines_of (drop i t)) ≡ [] → Ran say t K from n i
    left_full_at e = record { count = omega (arith, z.few, ap length (z.rest ∙ e), length-drop n (all K from)); low = z.low; lines = z.lines }

    pub left_turn : (vs : List ℕ) (j : ℕ) → n < K → read n i ≡ got vs j → Left say t K from (n + 1) j
    left_turn vs j h g =
        let m = z.rest ∙ left_next vs j h g in
        let f = r.found n i vs j g in
        record {
          low = omega arith;
          few = omega (arith, ap length m, length-drop n (all K from));
          rest = sym (drop-drop 1 n (all K from)) ∙ ap (drop 1) m;
          lines = ap (drop 1) (sym f.1 ∙ z.lines) ∙ drop-drop 1 n (lines_of (drop from t));
        }

    pub left_none : read n i ≡ nope → leading say n (K - n) (lines_of (drop i t)) ≡ []
    left_none g = go (lines_of (drop i t)) refl
      where
        go : (ls : List (List ℕ)) → lines_of (drop i t) ≡ ls → leading say n (K - n) ls ≡ []
        go [] e = leading_nil say n (K - n)
        go (l ∷ ls) e = leading_none say n (K - n) l ls (r.missed n i g l ls e)

    pub left_out : K ≤ n → leading say n (K - n) (lines_of (drop i t)) ≡ []
    left_out h = let q : K - n ≡ 0 = omega arith in rw q (leading_zero say n _)

    pub left_stop : read n i ≡ nope → Ran say t K from n i
    left_stop g = left_full_at (left_none g)

    -- of a reader that answers the place past the line alone
    pub left_ended : (o : std.Option ℕ) → o ≡ place_of (read n i) → o ≡ None → Ran say t K from n i
    left_ended o e h = go (read n i) refl
      where
        go : (g : Got) → read n i ≡ g → Ran say t K from n i
        go None q = left_stop q
        go (Some (vs, j)) q = absurd (none_place _ (sym h ∙ (e ∙ ap place_of q)))

    pub left_passed : (o : std.Option ℕ) (j : ℕ) → n < K → o ≡ place_of (read n i) → o ≡ Some j → Left say t K from (n + 1) j
    left_passed o j l e h = go (read n i) refl
      where
        go : (g : Got) → read n i ≡ g → Left say t K from (n + 1) j
        go None q = absurd (none_place _ (sym (ap place_of q) ∙ (sym e ∙ h)))
        go (Some (vs, k)) q =
            let w : ◌≡◌ {A = std.Option ℕ} (Some k) (Some j) = sym (ap place_of q) ∙ (sym e ∙ h) in
            let a : k ≡ j = cc in
            rw (← a) (left_turn vs k l q)

    pub left_full : K ≤ n → Ran say t K from n i
    left_full h = left_full_at (left_out h)

    pub left_whole : n ≡ K → Ran say t K from K i
    left_whole h = rw h at (left_full (omega arith))

    pub left_below : (vs : List ℕ) (j : ℕ) → n < K → read n i ≡ got vs j → n < length (all K from)
    left_below vs j h g = omega (arith, ap length (z.rest ∙ left_next vs j h g), length-drop n (all K from))

-- ---------------------------------------------------------------- a loop that writes a column of what it reads
pub record Writing (say : ℕ → List ℕ → Option (List ℕ)) (t : List ℕ) (K from c : ℕ) (l₀ l : List ℕ) (n i : ℕ) : Type 0 where
  pub wrote : Wrote l₀ l n (column c (leading say n (K - n) (lines_of (drop i t)))) (column c (leading say 0 K (lines_of (drop from t))))
  pub room : length (leading say 0 K (lines_of (drop from t))) ≤ length l₀

pub column_none : (c : ℕ) (rows : List (List ℕ)) → rows ≡ [] → column c rows ≡ []
unfolding column
column_none c rows e = rw e

pub column_cons : (c : ℕ) (vs : List ℕ) (rows : List (List ℕ)) → column c (vs ∷ rows) ≡ get_or vs c 0 ∷ column c rows
unfolding column
column_cons c vs rows = refl

module _ {say : ℕ → List ℕ → Option (List ℕ)} {read : ℕ → ℕ → Got} {t : List ℕ} (r : Reads say read t) where
  pub writing_start : (K from c : ℕ) (l : List ℕ) → length (leading say 0 K (lines_of (drop from t))) ≤ length l → Writing say t K from c l l 0 from
  writing_start K from c l h = let q : K - 0 ≡ K = omega arith in record { wrote = rw q (wrote_none l _); room = h }

  module _ {K from c n i : ℕ} {l₀ l : List ℕ} (w : Writing say t K from c l₀ l n i) (z : Left say t K from n i) where
    pub writing_room : (vs : List ℕ) (j : ℕ) → n < K → read n i ≡ got vs j → n < length l
    writing_room vs j h g = omega (arith, left_below r z vs j h g, w.room, w.wrote.same)

    pub writing_turn : (vs : List ℕ) (j v : ℕ) → n < K → read n i ≡ got vs j → v ≡ get_or vs c 0 → Writing say t K from c l₀ (set l n v) (n + 1) j
    writing_turn vs j v h g e =
        record {
          wrote = rw e (wrote_turn w.wrote (ap (column c) (left_next r z vs j h g) ∙ column_cons c vs _) (writing_room vs j h g));
          room = w.room;
        }

    pub writing_stop : read n i ≡ nope → l ≡ over (column c (leading say 0 K (lines_of (drop from t)))) l₀
    writing_stop g = (wrote_done w.wrote (column_none c _ (left_none r z g))).1

    pub writing_full : K ≤ n → l ≡ over (column c (leading say 0 K (lines_of (drop from t)))) l₀
    writing_full h = (wrote_done w.wrote (column_none c _ (left_out r z h))).1

pub length-column : (c : ℕ) (rows : List (List ℕ)) → length (column c rows) ≡ length rows
unfolding column
length-column c [] = refl
length-column c (vs ∷ rows) = ap suc (length-column c rows)

-- ---------------------------------------------------------------- entries of lines that a function tells
nil_of : {A : Type 0} (l : List A) → length l ≡ 0 → l ≡ []
nil_of [] h = refl
nil_of (x ∷ l) h = absurd (omega arith)

-- n entries have been written, and the writing stands at i
pub record Entered (say : ℕ → List ℕ → Option (List ℕ)) (t : List ℕ) (K from c : ℕ) (l₀ l : List ℕ) (n i : ℕ) : Type 0 where
  pub left : Left say t K from n i
  pub wrote : Writing say t K from c l₀ l n i

none_entry : (p : ℕ × ℕ) → ◌≡◌ {A = std.Option (ℕ × ℕ)} None (Some p) → ⊥
none_entry p e = let z : ◌≡◌ {A = ℕ} 0 1 = cc in omega arith

module _ {say : ℕ → List ℕ → Option (List ℕ)} {read : ℕ → ℕ → Got} {t : List ℕ} (r : Reads say read t) where
  pub entered_start : (K from c : ℕ) (l : List ℕ) → length (leading say 0 K (lines_of (drop from t))) ≤ length l → Entered say t K from c l l 0 from
  entered_start K from c l h = record { left = left_start r K from; wrote = writing_start r K from c l h }

  module _ {K from c n i : ℕ} {l₀ l : List ℕ} (w : Entered say t K from c l₀ l n i) where
    pub entered_stop : (o : std.Option (ℕ × ℕ)) → o ≡ entry_of c (read n i) → o ≡ None → l ≡ over (column c (leading say 0 K (lines_of (drop from t)))) l₀
    entered_stop o e h = go (read n i) refl
      where
        go : (g : Got) → read n i ≡ g → l ≡ over (column c (leading say 0 K (lines_of (drop from t)))) l₀
        go None q = writing_stop r w.wrote w.left q
        go (Some (vs, j)) q = absurd (none_entry _ (sym h ∙ (e ∙ ap (entry_of c) q)))

    pub entered_turn : (o : std.Option (ℕ × ℕ)) (v j : ℕ) → n < K → o ≡ entry_of c (read n i) → o ≡ Some (v, j) → Entered say t K from c l₀ (set l n v) (n + 1) j
    entered_turn o v j h e z = go (read n i) refl
      where
        go : (g : Got) → read n i ≡ g → Entered say t K from c l₀ (set l n v) (n + 1) j
        go None q = absurd (none_entry _ (sym (ap (entry_of c) q) ∙ (sym e ∙ z)))
        go (Some (vs, k)) q =
            let y : ◌≡◌ {A = std.Option (ℕ × ℕ)} (Some (get_or vs c 0, k)) (Some (v, j)) = sym (ap (entry_of c) q) ∙ (sym e ∙ z) in
            let x : ◌≡◌ {A = ℕ × ℕ} (get_or vs c 0, k) (v, j) = cc in
            let a : k ≡ j = ap (λ (p : ℕ × ℕ). p.1) x in
            let b : v ≡ get_or vs c 0 = sym (ap (λ (p : ℕ × ℕ). p.0) x) in
            record { left = rw (← a) (left_turn r w.left vs k h q); wrote = rw (← a) (writing_turn r w.wrote w.left vs k v h q b) }

    -- the same of a reader's numbers
    module _ (vs : List ℕ) (j : ℕ) (h : n < K) (g : read n i ≡ got vs j) where
      pub entered_room : n < length l
      entered_room = writing_room r w.wrote w.left vs j h g

      pub entered_line : Entered say t K from c l₀ (set l n (get_or vs c 0)) (n + 1) j
      entered_line = record { left = left_turn r w.left vs j h g; wrote = writing_turn r w.wrote w.left vs j _ h g refl }

    pub entered_none : read n i ≡ nope → l ≡ over (column c (leading say 0 K (lines_of (drop from t)))) l₀
    entered_none g = writing_stop r w.wrote w.left g

    pub entered_full : K ≤ n → l ≡ over (column c (leading say 0 K (lines_of (drop from t)))) l₀
    entered_full h = writing_full r w.wrote w.left h

    -- all lines have been read, or the list is full
    pub entered_end : min K (length l) ≤ n → l ≡ over (column c (leading say 0 K (lines_of (drop from t)))) l₀
    entered_end h =
        by (ltb n K)
        (λ e. let g = ltb-true n K e in (wrote_done w.wrote.wrote (column_none c _ (full (omega arith)))).1)
        (λ e. writing_full r w.wrote w.left (ltb-false n K e))
      where
        full : length l ≤ n → leading say n (K - n) (lines_of (drop i t)) ≡ []
        full g =
            nil_of (leading say n (K - n) (lines_of (drop i t)))
            (omega (arith, ap length w.left.rest, length-drop n (leading say 0 K (lines_of (drop from t))), w.wrote.room, w.wrote.wrote.same))
