-- The line at which a text is refused: the first that may not stand where it does.
use Prim.Native.Nat.{ℕ, zero, suc, ◌+◌, ◌-◌, ◌≤◌, ◌<◌}
use mathlib.Core.Path.{◌≡◌, refl, sym, ap, ◌∙◌}
use mathlib.Core.Bool.{Bool, true, false, ◌&&◌}
use mathlib.Core.Logic.{◌⊎◌, inl, inr, ◌↔◌}
use mathlib.Core.List.{List, [], ◌∷◌}
use mathlib.Core.Option.{Option, some, none}
use native.Mathlib.Omega.{arith}
use lib.Dec.{ltb, eqb}
use lib.ListN.{length, get_or, drop, length-drop}
use lib.Seq.{get_or-drop}
use borrow.Author.Tests.{lt-ltb, le-ltb, ne_eqb, ltb-true, ltb-false, eqb-true, eqb-false}
use Rattle.folds.specs.Fold.{pick, same}
use Rattle.folds.proofs.Cases.{no_bool, by, and_false}
use Rattle.folds.proofs.Counts.{count_run, count_past}
use Rattle.decimal.specs.Decimal.{numbers, numbers_in}
use Rattle.line_forms.specs.Form.{printed_fields, printed, fits, as_form}
use Rattle.line_forms.specs.Lines.{of_form}
use Rattle.line_forms.proofs.Lines.{leading_few}
use Rattle.line_forms.proofs.Rows.{apart, leading_each, leading_last, leading_short}
use Rattle.kit_lines.specs.Forms.{kit_form, block_form, wire_form}
use Rattle.line_forms.specs.Stand.{is_of, line_at, FirstBad, AllStand}
use Rattle.line_forms.proofs.Stand.{is_some, is_none, one_bad, none_bad}
use Rattle.kit_lines.specs.Kit.{Kit, accepted, refused, kit_from, block_rows, wire_rows, kit_with, kit_after, kit_lines}
use Rattle.kit_lines.specs.Grammar.{count_of, stands, Miscounted}
use Rattle.validity.specs.declared.Cause.{Cause}
use Rattle.validity.specs.declared.Cause.TheVariants.{Line, Lines}
use Rattle.kit_lines.proofs.Says.{refused_accepted, same_refusal}
use Rattle.kit_lines.proofs.Lines.{kit_clear, block_clear, wire_clear}
use Rattle.kit_lines.proofs.Accepted.{kit_leads, block_leads, wire_leads, kit_some}

-- what the lines of a text come to: a line that breaks it, or lines that all stand
data Comes (ls : List (List ℕ)) : Type 0 where
  breaks : (p : ℕ) → FirstBad (stands ls) (length ls) p → kit_lines ls ≡ refused Line (p + 1) → Comes ls
  stand : (head : List ℕ) → AllStand (stands ls) (length ls) → as_form kit_form (line_at ls 0) ≡ some head → (k : Kit) → kit_lines ls ≡ pick (eqb (count_of block_form ls (length ls)) (get_or head 0 0)) (accepted k) (refused Lines 0) → Comes ls

-- the kit line, then ls: which of its lines are of which form
module _ (l head : List ℕ) (ls : List (List ℕ)) (a : as_form kit_form l ≡ some head) where
  abbrev bs : List (List ℕ)
  bs = block_rows ls

  abbrev ws : List (List ℕ)
  ws = wire_rows (drop (length bs) ls)

  abbrev B : ℕ
  B = length bs

  abbrev W : ℕ
  W = length ws

  abbrev is_block : ℕ → Bool
  is_block q = is_of block_form (line_at (l ∷ ls) q)

  abbrev is_wire : ℕ → Bool
  is_wire q = is_of wire_form (line_at (l ∷ ls) q)

  bs_few : B ≤ 512
  unfolding block_rows
  bs_few = leading_few (of_form block_form) 0 512 ls

  ws_few : W ≤ 1024
  unfolding wire_rows
  ws_few = leading_few (of_form wire_form) 0 1024 (drop B ls)

  both_fit : B + W ≤ length ls
  both_fit =
      let x : B ≤ length ls = unfold block_rows in leading_short (of_form block_form) 0 512 ls in
      let y : W ≤ length (drop B ls) = unfold wire_rows in leading_short (of_form wire_form) 0 1024 (drop B ls) in
      omega (arith, length-drop B ls)

  line_past : (q : ℕ) → get_or (drop B ls) q [] ≡ get_or ls (B + q) []
  line_past q = get_or-drop B ls q []

  block_line : (q : ℕ) → q < B → as_form block_form (get_or ls q []) ≡ some (get_or bs q [])
  unfolding block_rows
  block_line q h = leading_each (of_form block_form) 0 512 ls q h

  wire_line : (q : ℕ) → q < W → as_form wire_form (get_or ls (B + q) []) ≡ some (get_or ws q [])
  wire_line q h = rw line_past at w
    where
      w : as_form wire_form (get_or (drop B ls) q []) ≡ some (get_or ws q [])
      w = unfold wire_rows in leading_each (of_form wire_form) 0 1024 (drop B ls) q h

  -- lines 1 to B are block lines, and the wire lines come after them
  block_yes : (q : ℕ) → 1 ≤ q → q < 1 + B → is_block q ≡ true
  block_yes zero h g = absurd (omega arith)
  block_yes (suc q) h g = is_some block_form _ _ (block_line q (omega arith))

  block_no : (q : ℕ) → q < 1 → is_block q ≡ false
  block_no zero h = is_none block_form l (apart kit_clear block_clear kit_leads block_leads (λ z. omega arith) l head a)
  block_no (suc q) h = absurd (omega arith)

  wire_no : (q : ℕ) → q < 1 + B → is_wire q ≡ false
  wire_no zero h = is_none wire_form l (apart kit_clear wire_clear kit_leads wire_leads (λ z. omega arith) l head a)
  wire_no (suc q) h = is_none wire_form _ (apart block_clear wire_clear block_leads wire_leads (λ z. omega arith) _ _ (block_line q (omega arith)))

  wire_some : (q : ℕ) → 1 + B ≤ q → q < 1 + B + W → (vs : List ℕ) × (as_form wire_form (line_at (l ∷ ls) q) ≡ some vs)
  wire_some zero h g = absurd (omega arith)
  wire_some (suc q) h g = let z : B + (q - B) ≡ q = omega arith in (get_or ws (q - B) [], rw z at (wire_line (q - B) (omega arith)))

  wire_yes : (q : ℕ) → 1 + B ≤ q → q < 1 + B + W → is_wire q ≡ true
  wire_yes q h g = let x = wire_some q h g in is_some wire_form _ x.0 x.1

  late_no : (q : ℕ) → 1 + B ≤ q → q < 1 + B + W → is_block q ≡ false
  late_no q h g = let x = wire_some q h g in is_none block_form _ (apart wire_clear block_clear wire_leads block_leads (λ z. omega arith) _ x.0 x.1)

  -- how many came before
  blocks_before : (q : ℕ) → q ≤ B → count_of block_form (l ∷ ls) (suc q) ≡ q
  unfolding count_of
  blocks_before q h = let z : suc q ≡ 1 + q = omega arith in rw z (count_run is_block 1 q block_no (λ r x y. block_yes r x (omega arith)))

  wires_none : (q : ℕ) → q ≤ 1 + B → count_of wire_form (l ∷ ls) q ≡ 0
  unfolding count_of
  wires_none q h = let z : q + 0 ≡ q = omega arith in rw z at (count_run is_wire q 0 (λ r x. wire_no r (omega arith)) (λ r x y. absurd (omega arith)))

  wires_before : (q : ℕ) → q ≤ W → count_of wire_form (l ∷ ls) (1 + B + q) ≡ q
  unfolding count_of
  wires_before q h = count_run is_wire (1 + B) q wire_no (λ r x y. wire_yes r x (omega arith))

  pub blocks_all : count_of block_form (l ∷ ls) (1 + B + W) ≡ B
  unfolding count_of
  blocks_all = count_past is_block (1 + B) (1 + B + W) (omega arith) late_no ∙ count_run is_block 1 B block_no block_yes

  -- the lines up to there may stand
  pub good : (q : ℕ) → q < 1 + B + W → stands (l ∷ ls) q ≡ true
  unfolding stands
  good zero h = is_some kit_form l head a
  good (suc q) h = by (ltb q B) block wire
    where
      block : ltb q B ≡ true → stands (l ∷ ls) (suc q) ≡ true
      block e = let x = ltb-true q B e in rw (block_yes (suc q) (omega arith) (omega arith), wires_none (suc q) (omega arith), blocks_before q (omega arith), lt-ltb q 512 (omega (arith, bs_few)))

      wire : ltb q B ≡ false → stands (l ∷ ls) (suc q) ≡ true
      wire e =
          let x = ltb-false q B e in
          let z : 1 + B + (q - B) ≡ suc q = omega arith in
          let c : count_of wire_form (l ∷ ls) (suc q) ≡ q - B = rw z at (wires_before (q - B) (omega arith)) in
          rw (late_no (suc q) (omega arith) h, wire_yes (suc q) (omega arith) h, c, lt-ltb (q - B) 1024 (omega (arith, ws_few)))

  -- the line past them is of neither form that may follow
  no_block : B < 512 → W ≡ 0 → B + W < length ls → is_block (suc (B + W)) ≡ false
  unfolding block_rows
  no_block h z g = let q : B + W ≡ B = omega arith in rw q (is_none block_form _ (leading_last (of_form block_form) 0 512 ls h (omega arith)))

  no_wire : W < 1024 → B + W < length ls → is_wire (suc (B + W)) ≡ false
  no_wire h g = is_none wire_form _ (rw line_past at w)
    where
      w : as_form wire_form (get_or (drop B ls) W []) ≡ none
      w = unfold wire_rows in leading_last (of_form wire_form) 0 1024 (drop B ls) h (omega (arith, length-drop B ls))

  wires_count : count_of wire_form (l ∷ ls) (suc (B + W)) ≡ W
  wires_count = let z : 1 + B + W ≡ suc (B + W) = omega arith in rw z at (wires_before W (omega arith))

  pub bad : B + W < length ls → stands (l ∷ ls) (suc (B + W)) ≡ false
  unfolding stands
  bad h = rw wires_count (go (is_block (suc (B + W))) refl)
    where
      block : is_block (suc (B + W)) ≡ true → eqb W 0 && ltb (count_of block_form (l ∷ ls) (suc (B + W))) 512 ≡ false
      block e = by (eqb W 0) (λ z. by (ltb B 512) (λ u. absurd (no_bool (sym (no_block (ltb-true _ _ u) (eqb-true _ _ z) h) ∙ e)))
          (λ u. let q : B + W ≡ B = omega (arith, eqb-true W 0 z) in rw (q, blocks_before B (omega arith), u) (and_false (eqb W 0)))) (λ z. rw z)

      wire : is_wire (suc (B + W)) && ltb W 1024 ≡ false
      wire = by (ltb W 1024) (λ u. rw (no_wire (ltb-true _ _ u) h)) (λ u. rw u (and_false (is_wire (suc (B + W)))))

      go : (t : Bool) → is_block (suc (B + W)) ≡ t → pick t (eqb W 0 && ltb (count_of block_form (l ∷ ls) (suc (B + W))) 512) (is_wire (suc (B + W)) && ltb W 1024) ≡ false
      go true e = block e
      go false e = wire

  comes_over : B + W < length ls → Comes (l ∷ ls)
  unfolding kit_after kit_with
  comes_over h =
      let q : B + W + 2 ≡ suc (B + W) + 1 = omega arith in
      breaks (suc (B + W)) (record { within = omega arith; bad = bad h; first = λ r x. good r (omega arith) })
      (kit_some l head ls a ∙ rw (lt-ltb _ _ h, q))

  comes_under : length ls ≤ B + W → Comes (l ∷ ls)
  unfolding kit_after kit_with
  comes_under h =
      let n : length (l ∷ ls) ≡ 1 + B + W = omega (arith, both_fit) in
      stand head (record { some_line = omega arith; stand = λ r x. good r (omega arith) }) a (kit_from head bs ws)
      (kit_some l head ls a ∙ rw (n, blocks_all, le-ltb _ _ h))

no_line : as_form kit_form [] ≡ none
unfolding as_form same printed printed_fields fits numbers_in numbers
no_line = refl

comes : (ls : List (List ℕ)) → Comes ls
unfolding kit_lines stands
comes [] = breaks 0 (record { within = omega arith; bad = is_none kit_form [] no_line; first = λ q h. absurd (omega arith) }) refl
comes (l ∷ ls) = at (as_form kit_form l) refl
  where
    at : (o : Option (List ℕ)) → as_form kit_form l ≡ o → Comes (l ∷ ls)
    at none e = breaks 0 (record { within = omega arith; bad = is_none kit_form l e; first = λ q h. absurd (omega arith) }) (rw (e, kit_lines))
    at (some head) e =
        by (ltb (length (block_rows ls) + length (wire_rows (drop (length (block_rows ls)) ls))) (length ls))
        (λ h. comes_over l head ls e (ltb-true _ _ h)) (λ h. comes_under l head ls e (ltb-false _ _ h))

-- ---------------------------------------------------------------- 15 and 16, of the lines
other_cause : Line ≡ Lines → ⊥
other_cause e = let z : ◌≡◌ {A = ℕ} 0 1 = cc in omega arith

sixteen_or : (t : Bool) (k : Kit) (c : Cause) (p : ℕ) → pick t (accepted k) (refused Lines 0) ≡ refused c p → (t ≡ false) × (c ≡ Lines) × (p ≡ 0)
sixteen_or true k c p e = absurd (refused_accepted c p k (sym e))
sixteen_or false k c p e = let x = same_refusal Lines c 0 p e in (refl, sym x.0, sym x.1)

pub lines_fifteen : (ls : List (List ℕ)) (p : ℕ) → (kit_lines ls ≡ refused Line p) ↔ ((q : ℕ) × (p ≡ q + 1) × FirstBad (stands ls) (length ls) q)
lines_fifteen ls p = (there (comes ls), back (comes ls))
  where
    there : Comes ls → kit_lines ls ≡ refused Line p → (q : ℕ) × (p ≡ q + 1) × FirstBad (stands ls) (length ls) q
    there (breaks q b e) h = (q, sym (same_refusal Line Line (q + 1) p (sym e ∙ h)).1, b)
    there (stand head a f k e) h = absurd (other_cause (sixteen_or (eqb (count_of block_form ls (length ls)) (get_or head 0 0)) k Line p (sym e ∙ h)).1)

    back : Comes ls → ((q : ℕ) × (p ≡ q + 1) × FirstBad (stands ls) (length ls) q) → kit_lines ls ≡ refused Line p
    back (breaks q b e) h = let z : q + 1 ≡ p = omega (arith, h.1, one_bad q h.0 b h.2) in e ∙ ap (λ (m : ℕ). refused Line m) z
    back (stand head a f k e) h = absurd (none_bad h.0 a h.2)

pub lines_sixteen : (ls : List (List ℕ)) (p : ℕ) → (kit_lines ls ≡ refused Lines p) ↔ ((p ≡ 0) × AllStand (stands ls) (length ls) × Miscounted ls)
lines_sixteen ls p = (there (comes ls), back (comes ls))
  where
    there : Comes ls → kit_lines ls ≡ refused Lines p → (p ≡ 0) × AllStand (stands ls) (length ls) × Miscounted ls
    there (breaks q b e) h = absurd (other_cause (same_refusal Line Lines (q + 1) p (sym e ∙ h)).0)
    there (stand head a f k e) h = let x = sixteen_or (eqb (count_of block_form ls (length ls)) (get_or head 0 0)) k Lines p (sym e ∙ h) in (x.2, a, record { head = head; says = f; differs = eqb-false _ _ x.0 })

    back : Comes ls → (p ≡ 0) × AllStand (stands ls) (length ls) × Miscounted ls → kit_lines ls ≡ refused Lines p
    back (breaks q b e) h = absurd (none_bad q h.1 b)
    back (stand head a f k e) h =
        let w = h.2 in
        let z : w.head ≡ head = cc (f, w.says) in
        let n : eqb (count_of block_form ls (length ls)) (get_or head 0 0) ≡ false = ne_eqb _ _ (rw z at w.differs) in
        e ∙ rw (n, h.0)

-- the lines are refused with 15 or 16
pub lines_causes : (ls : List (List ℕ)) (c : Cause) (p : ℕ) → kit_lines ls ≡ refused c p → (c ≡ Line) ⊎ (c ≡ Lines)
lines_causes ls c p e = go (comes ls)
  where
    go : Comes ls → (c ≡ Line) ⊎ (c ≡ Lines)
    go (breaks q b h) = inl (sym (same_refusal Line c (q + 1) p (sym h ∙ e)).0)
    go (stand head a f k h) = inr (sixteen_or (eqb (count_of block_form ls (length ls)) (get_or head 0 0)) k c p (sym h ∙ e)).1
