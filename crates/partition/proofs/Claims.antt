-- DEMAND 3, whole: each part one claim about the split of a valid graph.
use Prim.Native.Nat.{ℕ, suc, ◌+◌, ◌*◌, ◌≤◌, ◌<◌}
use mathlib.Core.Path.{◌≡◌, refl, sym, ap, ◌∙◌}
use mathlib.Core.Bool.{true, ◌&&◌}
use mathlib.Core.Logic.{◌⊎◌, inl, inr, ◌↔◌}
use mathlib.Core.List.{List, [], ◌∷◌}
use native.Mathlib.Omega.{arith}
use lib.Dec.{leb}
use lib.IntN.{pos, ◌+ℤ◌}
use lib.ListN.{length, get_or, take}
use borrow.Author.Tests.{le-leb, leb-true}
use Rattle.folds.specs.Fold.{over}
use Rattle.folds.proofs.Cases.{either, eq_or_ne, both}
use Rattle.folds.proofs.Slices.{take-over, length_over}
use Rattle.graph.specs.Walk.{Acyclic}
use Rattle.graph.specs.Graph.{Graph, vertices, identity, seen, Edge, cut_of}
use Rattle.graph.specs.Rows.{clusters, Hierarchy}
use Rattle.graph.specs.Table.{place_at, Good}
use Rattle.graph.proofs.Walks.{rank_law}
use Rattle.graph.proofs.Edges.{edge_arc, edge_other, row_inside}
use Rattle.graph.proofs.Rows.{few_clusters}
use Rattle.topology.specs.Order.{order_of}
use Rattle.topology.proofs.Orders.{order_all, place_in_at, order_rises}
use Rattle.topology.proofs.Sorted.{order_sorted}
use Rattle.validity.specs.Cause.{Answer, refusal, answered, if_passed, Passed}
use Rattle.validity.specs.Check.{most_vertices, Valid}
use Rattle.validity.specs.Drawn.{drawn_of}
use Rattle.validity.specs.Sound.{Sound}
use Rattle.validity.specs.declared.Cause.TheVariants.{Uncut}
use Rattle.validity.proofs.Passed.{valid_sound, valid_most, number_passed, passed_valid, passed_few}
use Rattle.inspection.specs.Table.{Fine}
use Rattle.inspection.specs.Inspect.{inspect_of, order_after}
use Rattle.inspection.specs.Inspect as inspect
use Rattle.inspection.proofs.Tables.{fine_passed}
use Rattle.contraction.specs.Rules.{Round}
use Rattle.contraction.specs.Rounds.{row_after, AllKeep}
use Rattle.contraction.proofs.Rounds.{rounds_acyclic}
use Rattle.hierarchy.specs.Rounds.{kept_of, row_of, rows_after}
use Rattle.hierarchy.specs.Claim.{OwnRounds}
use Rattle.hierarchy.proofs.Own.{own_rounds, rows_hierarchy}
use Rattle.initial.specs.Initial.{Chosen, found, uncut, LeastCut, Divides}
use Rattle.initial.proofs.Claims.{initial_least, none_exactly, initial_good}
use Rattle.refinement.specs.Entries.{state_of, Entry, down, after, AllAllowed, cut_at, gain, gains, GoodAt}
use Rattle.refinement.specs.Pass.{Tally, refined}
use Rattle.refinement.specs.Own.{own_moves, Took}
use Rattle.refinement.proofs.Claims.{moves_law, own_moves_lem, few_moves, refined_good}
use Rattle.partition.specs.Phases.{Result, nothing, parted, first_of, refined_from, result_of}
use Rattle.partition.specs.Split.{room_for, verdict_of, values_of, split_of, table_after, rows_left}
use Rattle.partition.specs.Claim.{Answers, Uncuttable, Ordered}
use Rattle.partition.proofs.Rows.{good_start}

module _ (G : Graph) (k bound : ℕ) (valid : Valid G k bound) where
  sound : Sound G k bound
  sound = valid_sound G k bound valid

  kept : Hierarchy G (row_of G k bound) (kept_of G k bound)
  kept = rows_hierarchy G k bound sound.proper.formed sound.acyclic

  -- ROUNDS: for every list of rounds that keep the join rules, each on its own rung, the groups after every round form no loop
  pub split_rounds : (rs : List Round) → AllKeep G (identity (vertices G)) rs → (i : ℕ) → Acyclic (Edge (seen G (row_after (identity (vertices G)) (take i rs))))
  split_rounds = rounds_acyclic G sound.proper.formed sound.acyclic

  -- the split's own rounds are such a list: it leaves the ladder that the split leaves
  pub split_own_rounds : (rows : List ℕ) → (rs : List Round) × OwnRounds G k bound (rows_after G k bound rows) rs
  split_own_rounds = own_rounds G k bound sound.proper.formed sound.acyclic

  -- what the phases gave, taken apart
  first_found : {rung : ℕ} {first : List ℕ} {tally : Tally} → result_of G k bound ≡ parted rung first tally
      → (cut : ℕ) × (first_of G k bound ≡ found rung first cut) × (tally ≡ refined G k bound (row_of G k bound) rung first)
  unfolding result_of
  first_found {rung} {first} {tally} e = go (first_of G k bound) refl
    where
      go : (x : Chosen) → first_of G k bound ≡ x → (cut : ℕ) × (first_of G k bound ≡ found rung first cut) × (tally ≡ refined G k bound (row_of G k bound) rung first)
      go uncut q = let p = rw q at e in let z : ◌≡◌ {A = ℕ} 0 1 = cc in absurd (omega arith)
      go (found r t c) q =
          let p = rw q at e in
          let er : r ≡ rung = cc in
          let et : t ≡ first = cc in
          let es : refined G k bound (row_of G k bound) r t ≡ tally = cc in
          (c, q ∙ rw (er, et), sym es ∙ rw (er, et))

  -- FIRST CUT: the first cut is least on its rung, the first among equals, and no higher kept rung can be divided
  pub split_least : {rung : ℕ} {first : List ℕ} {tally : Tally} → result_of G k bound ≡ parted rung first tally
      → LeastCut G k bound (row_of G k bound) (kept_of G k bound) rung first (cut_of G first)
  unfolding first_of
  split_least e =
      let (c, q, _) = first_found e in
      let L = initial_least sound.proper kept k bound q in
      rw L.cuts at L

  -- the first cut's table is good on its rung
  first_good : {rung : ℕ} {first : List ℕ} {tally : Tally} → result_of G k bound ≡ parted rung first tally → GoodAt G k bound (row_of G k bound) (kept_of G k bound) (state_of rung first)
  unfolding first_of
  first_good e = let (c, q, _) = first_found e in good_start (split_least e).kept (initial_good sound.proper kept k bound q)

  -- MOVES: from the first cut, for every list of moves to allowed candidates down the rungs, whoever picked them: at the first cut and after each
  -- entry no edge goes from a later part to an earlier one and no part is empty or over the bound, and with each entry the cut falls by its gain
  pub split_moves : {rung : ℕ} {first : List ℕ} {tally : Tally} → result_of G k bound ≡ parted rung first tally
      → (es : List Entry) → AllAllowed G k bound (row_of G k bound) es (state_of rung first)
      → ((i : ℕ) → GoodAt G k bound (row_of G k bound) (kept_of G k bound) (after (row_of G k bound) (take i es) (state_of rung first)))
      × ((i : ℕ) → i < length es → pos (cut_at G (after (row_of G k bound) (take i es) (state_of rung first)))
      ≡ pos (cut_at G (after (row_of G k bound) (take (suc i) es) (state_of rung first))) +ℤ gain G (row_of G k bound) (get_or es i down) (after (row_of G k bound) (take i es) (state_of rung first)))
  split_moves e = moves_law G sound.proper k bound (row_of G k bound) (kept_of G k bound) kept (state_of _ _) (first_good e)

  -- the split's own moves are such a list, each of gain above 0 or of gain 0 that evens, with as many steps down as the rung that was cut; they lead to the
  -- table answered on rung 0, those of gain above 0 number the moves answered, and the first cut is the cut answered plus the gains
  pub split_own_moves : {rung : ℕ} {first : List ℕ} {tally : Tally} → result_of G k bound ≡ parted rung first tally
      → Took G k bound (row_of G k bound) (own_moves G k bound (row_of G k bound) rung first) (state_of rung first) (state_of 0 tally.parts) tally.moves rung
      × (pos (cut_of G first) ≡ pos (cut_of G tally.parts) +ℤ gains G (row_of G k bound) (own_moves G k bound (row_of G k bound) rung first) (state_of rung first))
  split_own_moves {rung} {first} e =
      let (c, _, t) = first_found e in
      rw t (own_moves_lem G sound.proper k bound (row_of G k bound) (kept_of G k bound) kept rung first (first_good e))

  -- the moves answered, those of gain above 0, are never more than the first cut less the cut answered
  pub split_few_moves : {rung : ℕ} {first : List ℕ} {tally : Tally} → result_of G k bound ≡ parted rung first tally → tally.moves + cut_of G tally.parts ≤ cut_of G first
  split_few_moves {rung} {first} e =
      let (c, _, t) = first_found e in
      rw t (few_moves G sound.proper k bound (row_of G k bound) (kept_of G k bound) kept rung first (first_good e))

  -- AT THE END: the table answered is good on rung 0
  pub split_good : {rung : ℕ} {first : List ℕ} {tally : Tally} → result_of G k bound ≡ parted rung first tally
      → GoodAt G k bound (row_of G k bound) (kept_of G k bound) (state_of 0 tally.parts)
  split_good {rung} {first} e =
      let (c, _, t) = first_found e in
      rw t (refined_good G sound.proper k bound (row_of G k bound) (kept_of G k bound) kept rung first (first_good e))

  -- the table answered is fine for inspection
  split_fine : {rung : ℕ} {first : List ℕ} {tally : Tally} → result_of G k bound ≡ parted rung first tally → Fine G k bound tally.parts
  unfolding place_at
  split_fine {tally = tally} e =
      let I = (split_good e).table in
      record {
        named = I.below;
        filled = I.filled;
        within = I.within;
        acyclic = rank_law (Edge (seen G tally.parts)) (λ u. u) (λ a b t.
            let (j, l, ea, eb) = edge_arc (seen G tally.parts) a b t in
            let n = edge_other (seen G tally.parts) a b t in
            rises a b n (I.forward j l) ea eb);
      }
    where
      rises : (a b : ℕ) {x y : ℕ} → (a ≡ b → ⊥) → x ≤ y → x ≡ a → y ≡ b → a < b
      rises a b n l ex ey = either (eq_or_ne a b) (λ q. absurd (n q)) (λ q. omega arith)

  -- RUNNING ORDER: on every kept rung the play order takes all groups, and every wire between two groups goes from an earlier place to a later one
  pub split_order : (r : ℕ) → r ≤ kept_of G k bound → Ordered (seen G (row_of G k bound r)) (clusters (row_of G k bound r))
  split_order r l =
      let A = seen G (row_of G k bound r) in
      let g = clusters (row_of G k bound r) in
      let inside = row_inside sound.proper.formed (kept.layer r l).row_of in
      let small : g ≤ 512 = omega (arith, few_clusters kept r l, sound.proper.few) in
      let all = order_all A g inside (kept.layer r l).acyclic in
      record { all = all; each = λ c lc. (place_in_at A g inside all c lc).1; rises = order_rises A g inside all }

  -- FROM THE ANSWER TO THE CLAIMS: with room for its tables, the split answers what the phases gave, or 9
  module _ (most : ℕ) (few : vertices G ≤ most) (table rows : List ℕ) (lt : vertices G ≤ length table) (ll : 9 * vertices G ≤ length rows) where
    passes : verdict_of most G k bound table rows ≡ Passed
    unfolding verdict_of room_for
    passes = rw (le-leb _ _ lt, le-leb _ _ ll) (valid_most most G k bound valid few)

    answers_parted : {rung : ℕ} {first : List ℕ} {tally : Tally} → result_of G k bound ≡ parted rung first tally → Answers most G k bound table rows rung first tally
    unfolding split_of table_after rows_left
    answers_parted e = record { result = e; answer = rw (passes, e); table_is = rw (passes, e); rows_is = rw passes }

    answers_nothing : result_of G k bound ≡ nothing → Uncuttable most G k bound table rows
    unfolding split_of table_after rows_left
    answers_nothing e = record { result = e; answer = rw (passes, e); table_is = rw (passes, e); rows_is = rw passes }

    pub split_answers : Uncuttable most G k bound table rows ⊎ ((rung : ℕ) × (first : List ℕ) × (tally : Tally) × Answers most G k bound table rows rung first tally)
    split_answers = go (result_of G k bound) refl
      where
        go : (x : Result) → result_of G k bound ≡ x → Uncuttable most G k bound table rows ⊎ ((rung : ℕ) × (first : List ℕ) × (tally : Tally) × Answers most G k bound table rows rung first tally)
        go nothing e = inl (answers_nothing e)
        go (parted rung first tally) e = inr (rung, first, tally, answers_parted e)

    -- 9 comes exactly when no kept rung has such a division
    pub split_nine : (split_of most G k bound table rows ≡ refusal Uncut 0) ↔ ((q : ℕ) → q ≤ kept_of G k bound → (d : List ℕ) → Divides G k bound (row_of G k bound q) d → ⊥)
    unfolding result_of first_of
    split_nine = (λ e. (none_exactly sound.proper kept k bound).0 (there e (first_of G k bound) refl), λ h. (answers_nothing (rw ((none_exactly sound.proper kept k bound).1 h))).answer)
      where
        there : split_of most G k bound table rows ≡ refusal Uncut 0 → (x : Chosen) → first_of G k bound ≡ x → first_of G k bound ≡ uncut
        there e uncut q = q
        there e (found r t c) q =
            let p : refined_from G k bound (first_of G k bound) ≡ parted r t (refined G k bound (row_of G k bound) r t) = rw q in
            let z : ◌≡◌ {A = ℕ} 0 9 = ap (λ (a : Answer). a.number) (sym (answers_parted p).answer ∙ e) in absurd (omega arith)

    -- inspection passes every table that the split writes, with the same cut and the start order 0, 1, .., k - 1
    pub split_inspects : {rung : ℕ} {first : List ℕ} {tally : Tally} → result_of G k bound ≡ parted rung first tally → (order : List ℕ) → k ≤ length order
        → (inspect_of G k bound (table_after most G k bound table rows) order ≡ answered (cut_of G tally.parts ∷ []))
        × (order_after G k bound (table_after most G k bound table rows) order ≡ over (identity k) order)
    unfolding inspect_of order_after inspect.verdict_of inspect.parts_of place_at
    split_inspects {tally = tally} e order lo =
        rw ((answers_parted e).table_is, take-over tally.parts table (vertices G) I.whole, room, valid, fine_passed G k bound tally.parts sound.proper (split_fine e)) (refl, ap (λ (l : List ℕ). over l order) sorted)
      where
        I : Good G k bound (row_of G k bound 0) tally.parts
        I = (split_good e).table

        room : (leb (vertices G) (length (over tally.parts table)) && leb k (length order)) ≡ true
        room = rw (length_over tally.parts table (omega (arith, I.whole)), le-leb _ _ lt) (le-leb _ _ lo)

        sorted : order_of (seen G tally.parts) k ≡ identity k
        sorted = order_sorted (seen G tally.parts) k (λ j l. I.forward j l)

-- with room for its tables, the split refuses by 1 to 8 just what the check of the drawn kit refuses (document 02, b)
pub split_drawn : (G : Graph) (k bound : ℕ) (table rows : List ℕ) → vertices G ≤ length table → 9 * vertices G ≤ length rows
    → split_of most_vertices G k bound table rows ≡ if_passed (drawn_of G k bound) (values_of G (kept_of G k bound) (result_of G k bound)) refusal
unfolding split_of verdict_of room_for
split_drawn G k bound table rows lt ll = rw (le-leb _ _ lt, le-leb _ _ ll) refl

-- WHAT A CALLER HAS: an answer of number 0 says that the graph was valid and there was room, and so all of the above
pub split_answered : (most : ℕ) → most ≤ most_vertices → (G : Graph) (k bound : ℕ) (table rows : List ℕ) → (split_of most G k bound table rows).number ≡ 0
    → Valid G k bound × ((rung : ℕ) × (first : List ℕ) × (tally : Tally) × Answers most G k bound table rows rung first tally)
unfolding split_of verdict_of room_for
split_answered most within G k bound table rows e =
    let passed = number_passed (verdict_of most G k bound table rows) _ e in
    let (valid, room) = passed_valid most G k bound _ within passed in
    let (a, b) = both (leb (vertices G) (length table)) _ room in (
      valid,
      either (split_answers G k bound valid most (passed_few most G k bound _ passed) table rows (leb-true _ _ a) (leb-true _ _ b))
          (λ u. let z : ◌≡◌ {A = ℕ} 9 0 = sym (ap (λ (x : Answer). x.number) u.answer) ∙ e in absurd (omega arith)) (λ x. x),
    )
