-- The phases one after the other, from what each call answered.
use Prim.Native.Nat.{ℕ, suc, ◌*◌, ◌≤◌, ◌<◌}
use mathlib.Core.Path.{◌≡◌, refl, sym, ap, ◌∙◌}
use mathlib.Core.Bool.{Bool, true, ◌&&◌}
use mathlib.Core.List.{List, ◌++◌}
use Rattle.std.specs.Prelude.{Option, Some, None}
use Rattle.std.specs.Option.{ok_or}
use native.Mathlib.Nat.{mul-le-mul_right}
use native.Mathlib.Omega.{arith}
use lib.ListN.{length, take, drop}
use lib.Dec.{leb}
use lib.Seq.{drop_at}
use borrow.Author.Tests.{leb-true}
use Rattle.folds.proofs.Cases.{both}
use Rattle.folds.specs.Fold.{over}
use Rattle.folds.proofs.Slices.{take-over, length_over}
use Rattle.graph.specs.Graph.{Graph, vertices, edges, identity, seen, cut_of}
use Rattle.graph.proofs.Edges.{row_inside, identity_row}
use Rattle.topology.specs.Order.{order_of}
use Rattle.topology.proofs.Orders.{order_all}
use Rattle.graph.specs.Coarse.{Stored}
use Rattle.graph.proofs.Coarse.{lower_stored}
use Rattle.graph.specs.Rows.{Hierarchy}
use Rattle.validity.specs.Cause.{refusal, Verdict, Passed, Refused}
use Rattle.validity.specs.Check.{most_vertices, checked, Valid}
use Rattle.validity.specs.Promises.{OrderLeft}
use Rattle.validity.specs.Sound.{Sound}
use Rattle.validity.specs.declared.Cause.{Cause}
use Rattle.validity.specs.declared.Cause.TheVariants.{Uncut}
use Rattle.validity.proofs.Passed.{passed_valid, valid_sound}
use Rattle.hierarchy.specs.Rounds.{rows_of, kept_of, row_of, flat, rows_after}
use Rattle.hierarchy.specs.Promises.{Carried, Built}
use Rattle.hierarchy.proofs.Flat.{length-flat}
use Rattle.hierarchy.proofs.Own.{rows_hierarchy, hierarchy_ext, row_layer, stored_row, kept_few}
use Rattle.initial.specs.Initial.{found, uncut, chosen_of}
use Rattle.initial.specs.Promises.{Chooses, Borrowed}
use Rattle.graph.specs.Rows.{rows_in}
use Rattle.initial.specs.declared.FirstCut.{FirstCut}
use Rattle.initial.proofs.Claims.{initial_least, initial_good}
use Rattle.initial.proofs.Chooses.{chooses_at, chooses_uncut}
use Rattle.refinement.specs.Entries.{state_of, GoodAt}
use Rattle.refinement.specs.Pass.{refined}
use Rattle.refinement.proofs.Claims.{refined_good}
use Rattle.refine.specs.Down.{Descends, Refined}
use Rattle.refine.specs.declared.Outcome.{Outcome}
use Rattle.partition.specs.Phases.{Result, nothing, parted, first_of, result_of}
use Rattle.partition.specs.Split.{answer_of, values_of, room_for, verdict_of, split_of, table_after, rows_left}
use Rattle.partition.specs.Promises.{Ready, answer_by, inner_of, Works}
use Rattle.partition.specs.declared.Summary.{Summary}
use Rattle.partition.proofs.Rows.{chosen_ext, refined_ext, good_start}

-- what is written over what was written as far
over-over : (a b l : List ℕ) → length a ≡ length b → over a (over b l) ≡ over a l
unfolding over
over-over a b l e = ap (λ (x : List ℕ). a ++ x) (drop_at b (drop (length b) l) (length a) (sym e) ∙ ap (λ (n : ℕ). drop n l) (sym e))

-- the result, from what the phases left
works_found : (G : Graph) (k bound : ℕ) {table rows rows' table' table'' first : List ℕ} {rounds rung c : ℕ} {out : Outcome}
    → rounds ≡ kept_of G k bound → rows' ≡ rows_after G k bound rows → first_of G k bound ≡ found rung first c
    → refined G k bound (rows_in rows' (vertices G)) rung first ≡ refined G k bound (row_of G k bound) rung first
    → take (vertices G) table' ≡ first → table' ≡ over first table
    → length (refined G k bound (rows_in rows' (vertices G)) rung first).parts ≡ length first
    → Refined G k bound rows' rung table' table'' out → Works G k bound table rows table'' rows' (Some (record { cut = out.cut; rounds = rounds; rung = rung; moves = out.moves }))
unfolding result_of
works_found G k bound {table = table} {first = first} er el q s front et w R =
    record {
      is = rw (q, ← s, R.cut_is, R.moves_is, front, er);
      table_is = rw (q, ← s, R.table_is, front, et) (over-over _ first table w);
      rows_is = el;
    }

module _ (G : Graph) (k bound : ℕ) (S : Sound G k bound) where
  kept : Hierarchy G (row_of G k bound) (kept_of G k bound)
  kept = rows_hierarchy G k bound S.proper.formed S.acyclic

  few : kept_of G k bound ≤ 8
  few = kept_few G k bound S.proper.formed S.acyclic

  rows_length : length (flat (rows_of G k bound)) ≡ suc (kept_of G k bound) * vertices G
  unfolding rows_of kept_of row_of
  rows_length = length-flat (vertices G) (rows_of G k bound) (λ r l. (row_layer G k bound S.proper.formed S.acyclic r (omega arith)).row_of.whole)

-- after the first phase
module _ {G : Graph} {k bound rounds : ℕ} {order levels head next table rows rows' : List ℕ} (R : Ready G k bound order levels head next table rows) (B : Built G k bound rows rows' rounds) where
  same_rows : (r : ℕ) → r ≤ rounds → row_of G k bound r ≡ rows_in rows' (vertices G) r
  same_rows r l = rw B.rows_is (sym (stored_row G k bound R.sound.proper.formed R.sound.acyclic rows r (omega (arith, B.kept_is))))

  tall : length rows' ≡ length rows
  unfolding rows_after
  tall = ap length B.rows_is ∙ length_over (flat (rows_of G k bound)) rows (omega (arith, rows_length G k bound R.sound, few G k bound R.sound, mul-le-mul_right (vertices G) (room (few G k bound R.sound))))
    where
      room : kept_of G k bound ≤ 8 → suc (kept_of G k bound) ≤ 9
      room h = omega arith

  held : (r : ℕ) → r ≤ rounds → suc r * vertices G ≤ length rows'
  held r l = let q : suc r ≤ 9 = omega (arith, few G k bound R.sound, B.kept_is) in omega (arith, tall, mul-le-mul_right (vertices G) q)

  part_hierarchy : (top : ℕ) → top ≤ rounds → Hierarchy G (rows_in rows' (vertices G)) top
  part_hierarchy top l =
      hierarchy_ext G k bound R.sound.proper.formed R.sound.acyclic (λ r h. same_rows r (omega arith))
      record {
        bottom = (kept G k bound R.sound).bottom;
        layer = λ r h. (kept G k bound R.sound).layer r (omega (arith, B.kept_is));
        refines = λ r h. (kept G k bound R.sound).refines r (omega (arith, B.kept_is));
      }

  pub choose_hierarchy : Hierarchy G (rows_in rows' (vertices G)) rounds
  choose_hierarchy = part_hierarchy rounds (omega arith)

  -- what was carried, as the second phase asks for it
  pub choose_lent : Borrowed (vertices G) k rounds rows' table
  choose_lent = record { parts = (R.sound.some, R.sound.few); few = omega (arith, few G k bound R.sound, B.kept_is); long = held rounds (omega arith); room = R.table_room }

  -- after the second
  module _ {table' : List ℕ} {a : Option FirstCut} (C : Chooses (chosen_of G k bound (rows_in rows' (vertices G)) rounds) table table' a) where
    first_is : chosen_of G k bound (rows_in rows' (vertices G)) rounds ≡ first_of G k bound
    unfolding first_of
    first_is = rw (← B.kept_is) (sym (chosen_ext G k bound rounds same_rows))

    pub work_none : a ≡ None → Works G k bound table rows table' rows' None
    unfolding result_of
    work_none e =
        let (q, t) = chooses_uncut C e in
        let r : first_of G k bound ≡ uncut = sym first_is ∙ q in
        record { is = rw r; table_is = rw r t; rows_is = B.rows_is }

    module _ {f : FirstCut} (e : a ≡ Some f) where
      at : (t : List ℕ) × (chosen_of G k bound (rows_in rows' (vertices G)) rounds ≡ found f.row t f.cut) × (table' ≡ over t table)
      at = chooses_at C e

      below : f.row ≤ rounds
      below = (initial_least R.sound.proper choose_hierarchy k bound at.1).kept

      start : GoodAt G k bound (rows_in rows' (vertices G)) f.row (state_of f.row at.0)
      start = good_start (omega arith) (initial_good R.sound.proper choose_hierarchy k bound at.1)

      front : take (vertices G) table' ≡ at.0
      front = ap (take (vertices G)) at.2 ∙ take-over at.0 table (vertices G) start.table.whole

      pub refine_descends : Descends G k bound rows' f.row (take (vertices G) table')
      refine_descends =
          record { proper = R.sound.proper; hierarchy = part_hierarchy f.row below; good = rw front start.table; few = R.sound.few; held = held f.row below }

      pub refine_stored : {froms tos widths sizes orders : List ℕ} → Carried G (rows_in rows' (vertices G)) rounds froms tos widths sizes orders → Stored G (rows_in rows' (vertices G)) f.row (edges G) froms tos widths sizes
      refine_stored D = lower_stored f.row below D.lists

      pub refine_cut : f.cut ≡ cut_of G (take (vertices G) table')
      refine_cut = rw front (initial_least R.sound.proper choose_hierarchy k bound at.1).cuts

      pub refine_few : f.row < 9
      refine_few = omega (arith, below, few G k bound R.sound, B.kept_is)

      -- and after the third
      pub work_found : {table'' : List ℕ} {out : Outcome} → Refined G k bound rows' f.row table' table'' out
          → Works G k bound table rows table'' rows' (Some (record { cut = out.cut; rounds = rounds; rung = f.row; moves = out.moves }))
      work_found T =
          works_found G k bound B.kept_is B.rows_is (sym first_is ∙ at.1) (sym (refined_ext G k bound f.row at.0 (λ r l. same_rows r (omega (arith, below)))))
          front at.2 ((refined_good G R.sound.proper k bound (rows_in rows' (vertices G)) f.row (part_hierarchy f.row below) f.row at.0 start).table.whole ∙ sym start.table.whole) T

-- where no rung can be cut, 9
pub uncut_told : (r : Option Summary) → answer_of (ok_or r (record { cause = Uncut; place = 0 })) ≡ answer_by r
uncut_told (Some s) = refl
uncut_told None = refl

-- the checks passed: the phases can run
module _ (most : ℕ) (within : most ≤ most_vertices) (G : Graph) (k bound : ℕ) (table rows : List ℕ) (room : Bool) (v : Verdict)
    (er : room ≡ (leb (vertices G) (length table) && leb (9 * vertices G) (length rows))) (ev : v ≡ checked most G k bound room) where
  pub refused_first : {cause : Cause} {place : ℕ} → v ≡ Refused cause place
      → (refusal cause place ≡ split_of most G k bound table rows) × (table ≡ table_after most G k bound table rows) × (rows ≡ rows_left most G k bound table rows)
  unfolding split_of table_after rows_left verdict_of room_for
  refused_first e = rw (← er, ← ev, e) (refl, refl, refl)

  module _ (passed : v ≡ Passed) where
    valid : (Valid G k bound) × (room ≡ true)
    valid = passed_valid most G k bound room within (sym ev ∙ passed)

    sound : Sound G k bound
    sound = valid_sound G k bound valid.0

    rooms : (vertices G ≤ length table) × (9 * vertices G ≤ length rows)
    rooms =
        let (a, b) = both (leb (vertices G) (length table)) (leb (9 * vertices G) (length rows)) (sym er ∙ valid.1) in
        (leb-true _ _ a, leb-true _ _ b)

    -- what the checks left
    pub ready : {order order' levels head next : List ℕ} → OrderLeft v (vertices G) G.starts G.ends order order' levels head next → Ready G k bound order' levels head next table rows
    ready {order} O =
        let A = seen G (identity (vertices G)) in
        let w : length (order_of A (vertices G)) ≡ vertices G = order_all A (vertices G) (row_inside sound.proper.formed (identity_row G)) sound.acyclic in
        record {
          sound = sound;
          table_room = rooms.0;
          rows_room = rooms.1;
          order_is = rw (O.order passed) (take-over (order_of A (vertices G)) order (vertices G) w);
          levels_is = O.levels passed;
          linked = O.linked passed;
        }

    -- the answer, from that of the phases
    pub worked : {table' rows' : List ℕ} {r : Option Summary} → Works G k bound table rows table' rows' r
        → (answer_by r ≡ split_of most G k bound table rows) × (table' ≡ table_after most G k bound table rows) × (rows' ≡ rows_left most G k bound table rows)
    unfolding split_of table_after rows_left verdict_of room_for
    worked {r = r} W = rw (← er, ← ev, passed) (ap answer_by W.is ∙ same (result_of G k bound), W.table_is, W.rows_is)
      where
        same : (x : Result) → answer_by (inner_of G (kept_of G k bound) x) ≡ values_of G (kept_of G k bound) x
        same nothing = refl
        same (parted rung first tally) = refl
