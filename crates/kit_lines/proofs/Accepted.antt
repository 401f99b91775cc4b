-- A text is accepted exactly if it is the text of a kit within the ranges.
use Prim.Native.Nat.{ℕ, suc, ◌+◌, ◌-◌, ◌*◌, ◌≤◌}
use mathlib.Core.Path.{◌≡◌, refl, sym, ap, ap₂, ◌∙◌}
use mathlib.Core.Bool.{true, false}
use mathlib.Core.Logic.{⊎_elim, ◌⊎◌, inl, inr}
use mathlib.Core.List.{List, [], ◌∷◌, ◌++◌, append-nil, flatten}
use mathlib.Core.Option.{Option, some, none}
use native.Mathlib.Omega.{arith}
use lib.Dec.{ltb, eqb}
use lib.ListN.{length, get_or, drop, length-append, length-drop, drop_of_length-le}
use lib.Seq.{drop_at}
use borrow.Author.Tests.{le-ltb, le-leb, eq-eqb, ltb-false, eqb-true}
use Rattle.folds.specs.Fold.{pick}
use Rattle.folds.proofs.Cases.{no_bool}
use Rattle.folds.proofs.Cases.{chose}
use Rattle.decimal.specs.Decimal.{digits, decimal}
use Rattle.line_forms.specs.Form.{Field, printed, printed_fields, printed_all, fits, as_form}
use Rattle.line_forms.specs.Lines.{lines_of, leading, of_form, column}
use Rattle.line_forms.proofs.Form.{fits_cons, as_own, as_sound}
use Rattle.line_forms.proofs.Lines.{flat_lines, leading_none, leading_nil, leading_few, length-column}
use Rattle.line_forms.proofs.Rows.{AllFit, printed_rows, length_rows, flat_rows, lines_line, lines_all, lines_only, leading_own, leading_fit, leading_sound, Leads, leads, apart, mosts, line_long, lines_long, fits_most, column_most}
use Rattle.kit_lines.specs.Forms.{kit_form, block_form, wire_form}
use Rattle.line_forms.specs.Stand.{Low}
use Rattle.validity.specs.declared.Cause.TheVariants.{Length, Line, Lines}
use Rattle.kit_lines.proofs.Says.{refused_accepted}
use Rattle.kit_lines.specs.Kit.{Kit, Says, accepted, refused, kit_from, block_rows, wire_rows, kit_with, kit_after, kit_lines, kit_of}
use Rattle.kit_lines.specs.Grammar.{single, triples, kit_text, InRanges}
use Rattle.kit_lines.proofs.Lines.{kit_clear, block_clear, wire_clear}

-- ---------------------------------------------------------------- the three forms are told apart by their second byte
pub kit_leads : Leads kit_form 107
kit_leads = leads 40 107 _ _ _ _

pub block_leads : Leads block_form 98
block_leads = leads 40 98 _ _ _ _

pub wire_leads : Leads wire_form 119
wire_leads = leads 40 119 _ _ _ _

pub wire_no_block : (l vs : List ℕ) → as_form wire_form l ≡ some vs → as_form block_form l ≡ none
wire_no_block = apart wire_clear block_clear wire_leads block_leads (λ z. omega arith)

-- ---------------------------------------------------------------- rows and lists
column-single : (costs : List ℕ) → column 0 (single costs) ≡ costs
unfolding column single
column-single [] = refl
column-single (c ∷ costs) = ap (λ (l : List ℕ). c ∷ l) (column-single costs)

length-single : (costs : List ℕ) → length (single costs) ≡ length costs
unfolding single
length-single [] = refl
length-single (c ∷ costs) = ap suc (length-single costs)

block_fits : (c : ℕ) → c ≤ 65535 → fits block_form.fields (c ∷ []) ≡ true
unfolding fits
block_fits c h = rw (le-leb _ _ h)

wire_fits : (a b w : ℕ) → a ≤ 65535 → b ≤ 65535 → w ≤ 65535 → fits wire_form.fields (a ∷ b ∷ w ∷ []) ≡ true
unfolding fits
wire_fits a b w p q r = rw (le-leb _ _ p, le-leb _ _ q, le-leb _ _ r)

kit_fits : (n s l : ℕ) → n ≤ 65535 → s ≤ 65535 → l ≤ 99999999 → fits kit_form.fields (n ∷ s ∷ l ∷ []) ≡ true
unfolding fits
kit_fits n s l p q r = rw (le-leb _ _ p, le-leb _ _ q, le-leb _ _ r)

single_fit : (costs : List ℕ) → Low costs → AllFit block_form (single costs)
unfolding single
single_fit [] h = tt
single_fit (c ∷ costs) h = (block_fits c (h 0), single_fit costs (λ i. h (suc i)))

one_shape : (f : Field) (vs : List ℕ) → fits (f ∷ []) vs ≡ true → get_or vs 0 0 ∷ [] ≡ vs
unfolding fits
one_shape f [] h = absurd (no_bool h)
one_shape f (a ∷ []) h = refl
one_shape f (a ∷ b ∷ vs) h = absurd (no_bool (fits_cons f [] a (b ∷ vs) h).1)

pub three_shape : (f g k : Field) (vs : List ℕ) → fits (f ∷ g ∷ k ∷ []) vs ≡ true → get_or vs 0 0 ∷ get_or vs 1 0 ∷ get_or vs 2 0 ∷ [] ≡ vs
unfolding fits
three_shape f g k [] h = absurd (no_bool h)
three_shape f g k (a ∷ []) h = absurd (no_bool (fits_cons f (g ∷ k ∷ []) a [] h).1)
three_shape f g k (a ∷ b ∷ []) h = absurd (no_bool (fits_cons g (k ∷ []) b [] (fits_cons f (g ∷ k ∷ []) a (b ∷ []) h).1).1)
three_shape f g k (a ∷ b ∷ c ∷ []) h = refl
three_shape f g k (a ∷ b ∷ c ∷ d ∷ vs) h = absurd (no_bool (fits_cons k [] c (d ∷ vs) (fits_cons g (k ∷ []) b (c ∷ d ∷ vs) (fits_cons f (g ∷ k ∷ []) a (b ∷ c ∷ d ∷ vs) h).1).1).1)

single-column : (rows : List (List ℕ)) → AllFit block_form rows → single (column 0 rows) ≡ rows
unfolding single column
single-column [] a = refl
single-column (vs ∷ rows) a = ap₂ ◌∷◌ (one_shape _ vs a.0) (single-column rows a.1)

triples-column : (rows : List (List ℕ)) → AllFit wire_form rows → triples (column 0 rows) (column 1 rows) (column 2 rows) ≡ rows
unfolding triples column
triples-column [] a = refl
triples-column (vs ∷ rows) a = ap₂ ◌∷◌ (three_shape _ _ _ vs a.0) (triples-column rows a.1)

-- three lists of one length, as rows
record Rows (starts ends widths : List ℕ) : Type 0 where
  first : column 0 (triples starts ends widths) ≡ starts
  second : column 1 (triples starts ends widths) ≡ ends
  third : column 2 (triples starts ends widths) ≡ widths
  fit : AllFit wire_form (triples starts ends widths)

triples_rows : (starts ends widths : List ℕ) → length ends ≡ length starts → length widths ≡ length starts → Low starts → Low ends → Low widths → Rows starts ends widths
unfolding triples column
triples_rows [] [] [] p q s e w = record { first = refl; second = refl; third = refl; fit = tt }
triples_rows [] [] (c ∷ widths) p q s e w = absurd (omega arith)
triples_rows [] (b ∷ ends) widths p q s e w = absurd (omega arith)
triples_rows (a ∷ starts) [] widths p q s e w = absurd (omega arith)
triples_rows (a ∷ starts) (b ∷ ends) [] p q s e w = absurd (omega arith)
triples_rows (a ∷ starts) (b ∷ ends) (c ∷ widths) p q s e w =
    let ih = triples_rows starts ends widths (omega arith) (omega arith) (λ i. s (suc i)) (λ i. e (suc i)) (λ i. w (suc i)) in
    record {
      first = ap (λ (l : List ℕ). a ∷ l) ih.first;
      second = ap (λ (l : List ℕ). b ∷ l) ih.second;
      third = ap (λ (l : List ℕ). c ∷ l) ih.third;
      fit = (wire_fits a b c (s 0) (e 0) (w 0), ih.fit);
    }

-- ---------------------------------------------------------------- the text of a kit is accepted
longest_kit : length (printed kit_form (mosts kit_form.fields)) ≡ 53
unfolding printed printed_fields decimal digits
longest_kit = refl

longest_block : length (printed block_form (mosts block_form.fields)) ≡ 21
unfolding printed printed_fields decimal digits
longest_block = refl

longest_wire : length (printed wire_form (mosts wire_form.fields)) ≡ 45
unfolding printed printed_fields decimal digits
longest_wire = refl

-- every kit within the ranges has a text of at most 65,536 bytes
pub text_short : (k : Kit) → InRanges k → length (kit_text k) ≤ 65536
unfolding kit_text
text_short k w =
    let r = triples_rows k.starts k.ends k.widths w.ends_all w.widths_all w.starts w.ends w.widths in
    let bs = single k.costs in
    let ws = triples k.starts k.ends k.widths in
    let a = line_long kit_form (length k.costs ∷ k.stages ∷ k.limit ∷ []) (kit_fits _ _ _ (omega (arith, w.blocks)) w.stages w.limit) in
    let b : length (printed_all block_form bs) ≤ length bs * 21 = rw longest_block at (lines_long block_form bs (single_fit k.costs w.costs)) in
    let c : length (printed_all wire_form ws) ≤ length ws * 45 = rw longest_wire at (lines_long wire_form ws r.fit) in
    let m : length ws ≡ length k.starts = sym (length-column 0 ws) ∙ ap length r.first in
    rw (length-append, length-append) (omega (arith, a, b, c, m, longest_kit, length-single k.costs, w.blocks, w.wires))

-- block lines, then wire lines
module _ (bs ws : List (List ℕ)) (fb : AllFit block_form bs) (fw : AllFit wire_form ws) (nb : length bs ≤ 512) (nw : length ws ≤ 1024) where
  abbrev body : List (List ℕ)
  body = printed_rows block_form bs ++ printed_rows wire_form ws

  no_block_next : (n k : ℕ) (rows : List (List ℕ)) → AllFit wire_form rows → leading (of_form block_form) n k (printed_rows wire_form rows) ≡ []
  unfolding printed_rows
  no_block_next n k [] a = leading_nil (of_form block_form) n k
  no_block_next n k (vs ∷ rows) a = leading_none (of_form block_form) n k _ _ (wire_no_block _ vs (as_own wire_form wire_clear vs a.0))

  blocks_read : block_rows body ≡ bs
  unfolding block_rows
  blocks_read = leading_own block_form block_clear bs 0 512 (printed_rows wire_form ws) fb nb ∙ (ap (λ (l : List (List ℕ)). bs ++ l) (no_block_next _ _ ws fw) ∙ append-nil bs)

  rest_is : drop (length (block_rows body)) body ≡ printed_rows wire_form ws
  rest_is = rw blocks_read (drop_at (printed_rows block_form bs) (printed_rows wire_form ws) (length bs) (length_rows block_form bs))

  wires_read : wire_rows (printed_rows wire_form ws) ≡ ws
  unfolding wire_rows
  wires_read =
      let q = leading_own wire_form wire_clear ws 0 1024 [] fw nw in
      rw (append-nil (printed_rows wire_form ws), leading_nil (of_form wire_form) (0 + length ws) (1024 - length ws), append-nil ws) at q

  body_long : length body ≡ length bs + length ws
  body_long = length-append (printed_rows block_form bs) (printed_rows wire_form ws) ∙ ap₂ ◌+◌ (length_rows block_form bs) (length_rows wire_form ws)

  body_read : (head : List ℕ) → length bs ≡ get_or head 0 0 → kit_after head body ≡ accepted (kit_from head bs ws)
  unfolding kit_after kit_with
  body_read head e =
      let l : length body ≤ length bs + length ws = omega (arith, body_long) in
      rw (rest_is, wires_read, blocks_read, le-ltb _ _ l, eq-eqb _ _ e)

pub kit_some : (l head : List ℕ) (ls : List (List ℕ)) → as_form kit_form l ≡ some head → kit_lines (l ∷ ls) ≡ kit_after head ls
unfolding kit_lines
kit_some l head ls h = rw (h, kit_lines)

text_lines : (k : Kit) → lines_of (kit_text k) ≡ printed kit_form (length k.costs ∷ k.stages ∷ k.limit ∷ []) ∷ (printed_rows block_form (single k.costs) ++ printed_rows wire_form (triples k.starts k.ends k.widths))
unfolding kit_text
text_lines k =
    lines_line kit_form kit_clear _ _
    ∙ ap (λ (ls : List (List ℕ)). printed kit_form (length k.costs ∷ k.stages ∷ k.limit ∷ []) ∷ ls)
    (lines_all block_form block_clear (single k.costs) _ ∙ ap (λ (ls : List (List ℕ)). printed_rows block_form (single k.costs) ++ ls) (lines_only wire_form wire_clear (triples k.starts k.ends k.widths)))

pub accepted_own : (k : Kit) → InRanges k → kit_of (kit_text k) ≡ accepted k
unfolding kit_of
accepted_own k w =
    let r = triples_rows k.starts k.ends k.widths w.ends_all w.widths_all w.starts w.ends w.widths in
    let bs = single k.costs in
    let ws = triples k.starts k.ends k.widths in
    let head = length k.costs ∷ k.stages ∷ k.limit ∷ [] in
    let n = length-single k.costs in
    let m : length ws ≡ length k.starts = sym (length-column 0 ws) ∙ ap length r.first in
    let fb = single_fit k.costs w.costs in
    let h = as_own kit_form kit_clear head (kit_fits _ _ _ (omega (arith, w.blocks)) w.stages w.limit) in
    let a = body_read bs ws fb r.fit (omega (arith, w.blocks, n)) (omega (arith, w.wires, m)) head n in
    rw (le-ltb _ _ (text_short k w), text_lines k) (kit_some _ head _ h ∙ (a ∙ rw (column-single k.costs, r.first, r.second, r.third)))

-- ---------------------------------------------------------------- an accepted text is the text of that kit
flat_cons : (l : List ℕ) (ls : List (List ℕ)) → flatten (l ∷ ls) ≡ l ++ flatten ls
unfolding flatten
flat_cons l ls = refl

-- what passing the checks says of the lines after the kit line
record Passed (head : List ℕ) (ls : List (List ℕ)) (k : Kit) : Type 0 where
  none_left : length ls ≤ length (block_rows ls) + length (wire_rows (drop (length (block_rows ls)) ls))
  counted : length (block_rows ls) ≡ get_or head 0 0
  kit : kit_from head (block_rows ls) (wire_rows (drop (length (block_rows ls)) ls)) ≡ k

after_passed : (head : List ℕ) (ls : List (List ℕ)) (k : Kit) → kit_after head ls ≡ accepted k → Passed head ls k
unfolding kit_after kit_with
after_passed head ls k e = first (chose _ _ _ _ e)
  where
    bs : List (List ℕ)
    bs = block_rows ls

    ws : List (List ℕ)
    ws = wire_rows (drop (length bs) ls)

    second : length ls ≤ length bs + length ws → ((eqb (length bs) (get_or head 0 0) ≡ true) × (accepted (kit_from head bs ws) ≡ accepted k)) ⊎ ((eqb (length bs) (get_or head 0 0) ≡ false) × (refused Lines 0 ≡ accepted k)) → Passed head ls k
    second h (inl x) = let q : kit_from head bs ws ≡ k = cc in record { none_left = h; counted = eqb-true _ _ x.0; kit = q }
    second h (inr x) = absurd (refused_accepted Lines 0 k x.1)

    first : ((ltb (length bs + length ws) (length ls) ≡ true) × (refused Line (length bs + length ws + 2) ≡ accepted k))
        ⊎ ((ltb (length bs + length ws) (length ls) ≡ false) × (pick (eqb (length bs) (get_or head 0 0)) (accepted (kit_from head bs ws)) (refused Lines 0) ≡ accepted k)) → Passed head ls k
    first (inl x) = absurd (refused_accepted Line _ k x.1)
    first (inr x) = second (ltb-false _ _ x.0) (chose _ _ _ _ x.1)

module _ (head : List ℕ) (ls : List (List ℕ)) (fit : fits kit_form.fields head ≡ true)
    (none_left : length ls ≤ length (block_rows ls) + length (wire_rows (drop (length (block_rows ls)) ls))) (counted : length (block_rows ls) ≡ get_or head 0 0) where
  abbrev bs : List (List ℕ)
  bs = block_rows ls

  abbrev ws : List (List ℕ)
  ws = wire_rows (drop (length bs) ls)

  bs_fit : AllFit block_form bs
  unfolding block_rows
  bs_fit = leading_fit block_form block_clear 0 512 ls

  ws_fit : AllFit wire_form ws
  unfolding wire_rows
  ws_fit = leading_fit wire_form wire_clear 0 1024 (drop (length bs) ls)

  bs_few : length bs ≤ 512
  unfolding block_rows
  bs_few = leading_few (of_form block_form) 0 512 ls

  ws_few : length ws ≤ 1024
  unfolding wire_rows
  ws_few = leading_few (of_form wire_form) 0 1024 (drop (length bs) ls)

  passed_within : InRanges (kit_from head bs ws)
  passed_within =
      record {
        stages = fits_most kit_form.fields head 1 fit;
        limit = fits_most kit_form.fields head 2 fit;
        blocks = rw length-column bs_few;
        wires = rw length-column ws_few;
        ends_all = length-column 1 ws ∙ sym (length-column 0 ws);
        widths_all = length-column 2 ws ∙ sym (length-column 0 ws);
        costs = column_most block_form 0 bs bs_fit;
        starts = column_most wire_form 0 ws ws_fit;
        ends = column_most wire_form 1 ws ws_fit;
        widths = column_most wire_form 2 ws ws_fit;
      }

  after_blocks : drop (length bs) ls ≡ printed_rows wire_form ws ++ drop (length ws) (drop (length bs) ls)
  unfolding wire_rows
  after_blocks = leading_sound wire_form wire_clear 0 1024 (drop (length bs) ls)

  after_wires : drop (length ws) (drop (length bs) ls) ≡ []
  after_wires = let h : length (drop (length bs) ls) ≤ length ws = omega (arith, none_left, length-drop (length bs) ls) in drop_of_length-le (drop (length bs) ls) h

  lines_are : ls ≡ printed_rows block_form bs ++ (printed_rows wire_form ws ++ [])
  lines_are = before ∙ ap (λ (l : List (List ℕ)). printed_rows block_form bs ++ l) (after_blocks ∙ ap (λ (l : List (List ℕ)). printed_rows wire_form ws ++ l) after_wires)
    where
      before : ls ≡ printed_rows block_form bs ++ drop (length bs) ls
      before = unfold block_rows in leading_sound block_form block_clear 0 512 ls

  passed_text : printed kit_form head ++ flatten ls ≡ kit_text (kit_from head bs ws)
  unfolding kit_text flatten
  passed_text =
      let h : length (column 0 bs) ∷ get_or head 1 0 ∷ get_or head 2 0 ∷ [] ≡ head = rw (length-column 0 bs, counted) (three_shape _ _ _ head fit) in
      let f : flatten ls ≡ printed_all block_form bs ++ (printed_all wire_form ws ++ []) = ap flatten lines_are ∙ (flat_rows block_form bs _ ∙ ap (λ (s : List ℕ). printed_all block_form bs ++ s) (flat_rows wire_form ws [])) in
      rw (h, single-column bs bs_fit, triples-column ws ws_fit, f, append-nil (printed_all wire_form ws))

pub accepted_sound : (t : List ℕ) (k : Kit) → kit_of t ≡ accepted k → (t ≡ kit_text k) × InRanges k
unfolding kit_of kit_lines
accepted_sound t k e = ⊎_elim (λ x. absurd (refused_accepted Length 0 k x.1)) (λ x. in_lines (lines_of t) refl x.1) (chose (ltb 65536 (length t)) (refused Length 0) (kit_lines (lines_of t)) (accepted k) e)
  where
    body : (l : List ℕ) (ls : List (List ℕ)) → lines_of t ≡ l ∷ ls → (head : List ℕ) → as_form kit_form l ≡ some head → kit_after head ls ≡ accepted k → (t ≡ kit_text k) × InRanges k
    body l ls h head a q =
        let p = after_passed head ls k q in
        let s = as_sound kit_form kit_clear l head a in
        let x : t ≡ printed kit_form head ++ flatten ls = sym (flat_lines t) ∙ (ap flatten h ∙ flat_cons l ls ∙ ap (λ (z : List ℕ). z ++ flatten ls) s.0) in
        rw (← p.kit) (x ∙ passed_text head ls s.1 p.none_left p.counted, passed_within head ls s.1 p.none_left p.counted)

    in_lines : (ls : List (List ℕ)) → lines_of t ≡ ls → kit_lines ls ≡ accepted k → (t ≡ kit_text k) × InRanges k
    in_lines [] h q = absurd (refused_accepted Line 1 k q)
    in_lines (l ∷ ls) h q = at (as_form kit_form l) refl q
      where
        at : (o : Option (List ℕ)) → as_form kit_form l ≡ o → ◌≡◌ {A = Says} (elim o [ some head ↦ kit_after head ls | none ↦ refused Line 1 ]) (accepted k) → (t ≡ kit_text k) × InRanges k
        at (some head) a r = body l ls h head a r
        at none a r = absurd (refused_accepted Line 1 k r)
