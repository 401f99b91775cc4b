-- The work of the code on a rung is the definitions' passes, and the record stays the sums of the table.
use Prim.Native.Nat.{ℕ, zero, suc, ◌+◌, ◌-◌, ◌≤◌, ◌<◌}
use mathlib.Core.Path.{◌≡◌, refl, sym, ap, ◌∙◌}
use mathlib.Core.Bool.{Bool, true, false, not, ◌&&◌}
use mathlib.Core.List.{List}
use native.Mathlib.Omega.{arith}
use lib.Dec.{eqb, ltb, leb}
use lib.IntN.{pos}
use lib.Signed.{lt_z}
use lib.ListN.{length, get_or, set}
use lib.Seq.{get_or-set_same, get_or-set_other}
use borrow.Author.Tests.{eqb-true, eq-eqb, ne_eqb, ltb-true, lt-ltb, le-ltb}
use Rattle.folds.specs.Fold.{pick, when, sum_to, any_to, turns}
use Rattle.folds.proofs.Cases.{by, either, eq_or_ne, same_test}
use Rattle.folds.proofs.Sums.{sum_to_ext, sum_to_add, sum_to_none, sum_to_member}
use Rattle.folds.proofs.Searches.{any_e, any_none}
use Rattle.folds.proofs.Lists.{list_to_ext}
use Rattle.folds.proofs.Best.{best_alike}
use Rattle.graph.specs.Graph.{Graph, vertices, cut_of, cost_in, part_cost, through, RowOf, Proper}
use Rattle.graph.specs.Coarse.{Coarse}
use Rattle.graph.specs.Rows.{clusters}
use Rattle.graph.specs.Table.{place_at, Good}
use Rattle.graph.proofs.Edges.{through_at, length-through}
use Rattle.graph.proofs.Tables.{size_cost}
use Rattle.refinement.specs.Move.{moved_to, part_of, pull, gain_to}
use Rattle.refinement.specs.Pass.{lowest_next, above_before, stays, allows, is_candidate, improves, target, Tally, settled_at, visited, pass_of}
use Rattle.refinement.specs.Entries.{state_of, GoodAt}
use Rattle.refinement.proofs.Visits.{target_improves, above_le, low_ge}
use Rattle.refinement.proofs.Own.{turn_steps, steps_good}
use Rattle.refinement.proofs.Move.{leaves_e, cut_move, cost_new, cost_old, cost_third}
use Rattle.refinement.proofs.Gains.{gain_less, gain_above, improves_pull}
use Rattle.refinement.proofs.Spread.{even_sums}
use Rattle.refinement.proofs.Entries.{alone, first_of, moved_at}
use Rattle.neighbours.specs.Visit.{Placed, pull_to, Seated}
use Rattle.part_sums.specs.Sums.{SumsOf, size_allowed, sums_allow, sums_even}
use Rattle.pass.specs.Work.{gains_by, open_of, choice_of, Work, begun, choice_at, gain_at, moved_by, worked, Paid, Visitable}
use Rattle.part_sums.proofs.Sums.{shifted_sums}
use Rattle.pass.proofs.Work.{placed_set, choice_below, choice_ext}
use Rattle.refine.specs.Rung.{Tracks}
use Rattle.refine.proofs.Lists.{low_lists, high_lists, pull_lists}

-- the part of a cluster, and a move, through the clusters' table
pub part_through : (row table : List ℕ) (h v : ℕ) → v < length row → get_or row v 0 ≡ h → part_of row (through row table) h ≡ get_or table h 0
part_through row table h v l e =
    let (a, la, ea, q) = first_of row h v l e in q (through row table) ∙ through_at row table a la ∙ ap (λ (x : ℕ). get_or table x 0) ea

pub moved_through : (row table : List ℕ) (h t : ℕ) → h < length table → moved_to row h t (through row table) ≡ through row (set table h t)
unfolding moved_to through
moved_through row table h t l = rw (length-through row table) (list_to_ext (length row) _ _ one)
  where
    one : (v : ℕ) → v < length row → pick (eqb (get_or row v 0) h) t (get_or (through row table) v 0) ≡ get_or (set table h t) (get_or row v 0) 0
    one v lv =
        either (eq_or_ne (get_or row v 0) h)
        (λ e. rw (e, eq-eqb h h refl) (sym (get_or-set_same table h t 0 l)))
        (λ n. rw (ne_eqb (get_or row v 0) h n, through_at row table v lv) (sym (get_or-set_other table h (get_or row v 0) t 0 n)))

-- something is found exactly if the sum over what is found is above 0
any_sum : (n : ℕ) (p : ℕ → Bool) (c : ℕ → ℕ) → ((v : ℕ) → v < n → 0 < c v) → any_to n p ≡ ltb 0 (sum_to n (λ v. when (p v) (c v)))
any_sum n p c some =
    by (any_to n p)
    (λ t. let (v, l, e) = any_e n p t in
    let m : when (p v) (c v) ≤ sum_to n (λ i. when (p i) (c i)) = sum_to_member n (λ i. when (p i) (c i)) v l in
    rw t (sym (lt-ltb 0 (sum_to n (λ i. when (p i) (c i))) (let w = rw e at m in omega (arith, some v l)))))
    (λ t. rw t (sym (le-ltb 0 (sum_to n (λ i. when (p i) (c i))) (omega (arith, sum_to_none n (λ i. when (p i) (c i)) (λ v l. rw (any_none n p t v l)))))))

and_swap : (a b : Bool) → (a && b) ≡ (b && a)
and_swap true true = refl
and_swap true false = refl
and_swap false true = refl
and_swap false false = refl

-- where all vertices of h have the part s, and costs are above 0: some vertex of s is outside h exactly if s costs more than h
module _ (G : Graph) (P : Proper G) (row parts : List ℕ) (h s : ℕ) (all : (v : ℕ) → v < vertices G → get_or row v 0 ≡ h → get_or parts v 0 ≡ s) where
  outside : ℕ → ℕ
  outside v = when (eqb (get_or parts v 0) s && not (eqb (get_or row v 0) h)) (get_or G.costs v 0)

  cost_split : part_cost G.costs parts s ≡ part_cost G.costs row h + sum_to (vertices G) outside
  unfolding part_cost cost_in outside
  cost_split = sum_to_ext (vertices G) _ _ (λ v l. one v l) ∙ sum_to_add (vertices G) _ _
    where
      split : (r q : Bool) (c : ℕ) → (r ≡ true → q ≡ true) → when q c ≡ when r c + when (q && not r) c
      split true true c i = omega arith
      split true false c i = let z = i refl in absurd (let y : ◌≡◌ {A = ℕ} 0 1 = cc in omega arith)
      split false true c i = omega arith
      split false false c i = refl

      one : (v : ℕ) → v < vertices G
          → when (eqb (get_or parts v 0) s) (get_or G.costs v 0) ≡ when (eqb (get_or row v 0) h) (get_or G.costs v 0) + when (eqb (get_or parts v 0) s && not (eqb (get_or row v 0) h)) (get_or G.costs v 0)
      one v l = split (eqb (get_or row v 0) h) (eqb (get_or parts v 0) s) (get_or G.costs v 0) (λ t. eq-eqb _ _ (all v l (eqb-true _ _ t)))

  stays_sum : part_of row parts h ≡ s → stays G row parts h ≡ ltb (part_cost G.costs row h) (part_cost G.costs parts s)
  unfolding stays outside
  stays_sum e =
      rw (e, cost_split)
      (any_sum (vertices G) (λ v. eqb (get_or parts v 0) s && not (eqb (get_or row v 0) h)) (λ v. get_or G.costs v 0) P.costly
      ∙ same_test (ltb 0 rest) (ltb own (own + rest)) (λ t. let l = ltb-true 0 rest t in lt-ltb own (own + rest) (omega arith)) (λ t. let l = ltb-true own (own + rest) t in lt-ltb 0 rest (omega arith)))
    where
      own : ℕ
      own = part_cost G.costs row h

      rest : ℕ
      rest = sum_to (vertices G) outside

-- what the code's work stands for
abbrev pub tallied : List ℕ → Work → Tally
tallied row w = record { parts = through row w.table; moves = w.moves; moved = w.moved }

-- the code's work w stands for s, and its sums and its cut are those of the table
pub record Follows (G : Graph) (k : ℕ) (row : List ℕ) (w : Work) (s : Tally) : Type 0 where
  pub is : tallied row w ≡ s
  pub tracks : Tracks G (through row w.table) k w.sums w.cut
  pub placed : Placed w.table

-- one cluster h of a row, with a vertex of it
module _ (G : Graph) (P : Proper G) (k bound : ℕ) (row costs froms tos widths : List ℕ) (row_of : RowOf G row (clusters row)) (lists : Coarse G row (clusters row) froms tos widths) (few : k ≤ 16)
    (h : ℕ) (in_row : h < clusters row) (in_table : h < 512) (cost_is : get_or costs h 0 ≡ part_cost G.costs row h) (some : (v : ℕ) × (v < vertices G) × (get_or row v 0 ≡ h))
    (w : Work) (placed : Placed w.table) (T : Tracks G (through row w.table) k w.sums w.cut) where
  R : SumsOf G.costs (through row w.table) k w.sums
  R = T.sums

  whole : length row ≡ vertices G
  whole = row_of.whole

  parts : List ℕ
  parts = through row w.table

  own : ℕ
  own = get_or w.table h 0

  cost : ℕ
  cost = get_or costs h 0

  own_is : part_of row parts h ≡ own
  unfolding parts own
  own_is = let (v, l, e) = some in part_through row w.table h v (omega arith) e

  own_low : own < 16
  unfolding own
  own_low = placed.low h in_table

  all : (v : ℕ) → v < vertices G → get_or row v 0 ≡ h → get_or parts v 0 ≡ own
  unfolding parts own
  all v l e = through_at row w.table v (omega arith) ∙ ap (λ (x : ℕ). get_or w.table x 0) e

  upd : (t v : ℕ) → v < vertices G → get_or (moved_to row h t parts) v 0 ≡ pick (eqb (get_or row v 0) h) t (get_or parts v 0)
  unfolding parts
  upd t v l = moved_at row h t parts v (omega (arith, length-through row w.table))

  allows_sums : (t : ℕ) → (own ≡ t → ⊥) → t < 16 → allows G bound row parts h t ≡ sums_allow w.sums own t cost bound
  unfolding allows size_allowed parts cost
  allows_sums t n l =
      rw (stays_sum G P row parts h own all own_is, size_cost G (moved_to row h t parts) t, cost_new G P.formed row parts (moved_to row h t parts) h own t all (upd t) n, R.is own own_low, R.is t l, cost_is)
      (and_swap (leb (part_cost G.costs parts t + part_cost G.costs row h) bound) (ltb (part_cost G.costs row h) (part_cost G.costs parts own)))

  -- a cluster has a vertex, so it costs something
  costly : 0 < part_cost G.costs row h
  unfolding part_cost cost_in
  costly =
      let (v, l, e) = some in
      let m = sum_to_member (vertices G) (λ i. when (eqb (get_or row i 0) h) (get_or G.costs i 0)) v l in
      let q = rw (eq-eqb (get_or row v 0) h e) at m in omega (arith, P.costly v l)

  improves_sums : (t : ℕ) → (own ≡ t → ⊥) → t < 16 → gains_by (pull G row parts h) w.sums own cost t ≡ improves G row parts h t
  unfolding improves gains_by sums_even cost parts
  improves_sums t n l =
      rw (gain_above G row parts h t, own_is, even_sums G P.formed row parts (moved_to row h t parts) h own t all (upd t) n costly, R.is own own_low, R.is t l, cost_is)

  -- what is open by the sums is an allowed candidate that improves
  open_sums : (t : ℕ) → t < w.sums.count
      → open_of (pull G row parts h) w.sums own cost bound (lowest_next G w.sums.count row parts h) (above_before G row parts h) t
      ≡ (is_candidate G w.sums.count row parts h t && (allows G bound row parts h t && improves G row parts h t))
  unfolding open_of is_candidate
  open_sums t l =
      either (eq_or_ne own t) (λ e. rw (own_is, eq-eqb own t e))
      (λ n. let lt : t < 16 = omega (arith, R.counts) in rw (own_is, ne_eqb own t n, improves_sums t n lt, allows_sums t n lt))

  -- the lists say what the graph says
  choice_graph : choice_at froms tos widths costs bound h w.table w.sums ≡ choice_of (pull G row parts h) w.sums own cost bound (lowest_next G w.sums.count row parts h) (above_before G row parts h)
  unfolding choice_at parts own cost
  choice_graph =
      choice_ext _ (pull G row parts h) w.sums own cost bound (λ u _. pull_lists lists P.formed row_of P.wide w.table h u) _ _ own_low (omega (arith, R.counts))
      ∙ rw (low_lists lists P.formed row_of P.wide w.table h w.sums.count, high_lists lists P.formed row_of P.wide w.table h)

  choice_counted : choice_of (pull G row parts h) w.sums own cost bound (lowest_next G w.sums.count row parts h) (above_before G row parts h) ≡ target G w.sums.count bound row parts h
  unfolding choice_of target
  choice_counted = rw own_is (best_alike _ _ _ _ own 16 w.sums.count own_low (omega (arith, R.counts)) open_sums (λ a b _ _. sym (gain_less G row parts h a b)))

  -- the code's choice is the definitions'
  choice_target : choice_at froms tos widths costs bound h w.table w.sums ≡ target G k bound row parts h
  choice_target = choice_graph ∙ choice_counted ∙ ap (λ (x : ℕ). target G x bound row parts h) R.counts

  choice_low : choice_at froms tos widths costs bound h w.table w.sums < 16
  unfolding choice_at own
  choice_low = choice_below _ _ w.sums own (get_or costs h 0) bound (λ u l. refl) _ _ own_low (omega (arith, R.counts))

  -- the cut falls by the gain, which is not below 0
  cut_falls : (t : ℕ) → cut_of G parts + pull_to froms tos widths w.table h own ≡ cut_of G (moved_to row h t parts) + pull_to froms tos widths w.table h t
  unfolding parts
  cut_falls t =
      rw (pull_lists lists P.formed row_of P.wide w.table h own, pull_lists lists P.formed row_of P.wide w.table h t)
      (cut_move G P.formed row parts (moved_to row h t parts) h own t all (upd t))

  gains : pull_to froms tos widths w.table h own ≤ pull_to froms tos widths w.table h (target G k bound row parts h)
  unfolding parts
  gains =
      rw (pull_lists lists P.formed row_of P.wide w.table h own, pull_lists lists P.formed row_of P.wide w.table h (target G k bound row parts h), ← own_is)
      (either (target_improves G row parts h k bound in_row) (λ e. rw e (omega arith)) (λ x. omega (arith, improves_pull G row parts h (target G k bound row parts h) x.1)))

  -- a move counts where its gain is above 0
  counted : (t : ℕ) → ltb 0 (gain_at froms tos widths h w.table t) ≡ lt_z (pos 0) (gain_to G row parts h t)
  unfolding gain_at parts own
  counted t =
      rw (pull_lists lists P.formed row_of P.wide w.table h (get_or w.table h 0), pull_lists lists P.formed row_of P.wide w.table h t, gain_above G row parts h t, own_is)
      (same_test (ltb 0 (pull G row parts h t - pull G row parts h own)) (ltb (pull G row parts h own) (pull G row parts h t))
      (λ e. let l = ltb-true 0 (pull G row parts h t - pull G row parts h own) e in lt-ltb (pull G row parts h own) (pull G row parts h t) (omega arith))
      (λ e. let l = ltb-true (pull G row parts h own) (pull G row parts h t) e in lt-ltb 0 (pull G row parts h t - pull G row parts h own) (omega arith)))

  worked_paid : Paid froms tos widths costs bound h w
  unfolding Paid gain_at parts own
  worked_paid = rw choice_target (omega (arith, cut_falls (target G k bound row parts h), gains, T.cut_is))

  -- on a good table no edge goes backward
  seated : Good G k bound row parts → Seated froms tos w.table w.sums.count h
  unfolding place_at parts own
  seated I =
      record {
        inside = let (v, l, e) = some in omega (arith, all v l e, I.below v l, R.counts);
        after = rw (high_lists lists P.formed row_of P.wide w.table h)
            (above_le G row parts h own (λ j l q. omega (arith, I.forward j l, all _ (P.formed.end_in j l) (leaves_e row G.ends G.starts h j q).0)));
        before = rw (low_lists lists P.formed row_of P.wide w.table h w.sums.count)
            (low_ge G row parts h w.sums.count own (let (v, l, e) = some in omega (arith, all v l e, I.below v l, R.counts))
            (λ j l q. omega (arith, I.forward j l, all _ (P.formed.start_in j l) (leaves_e row G.starts G.ends h j q).0)));
      }

  pub worked_visitable : Good G k bound row (through row w.table) → Visitable froms tos widths costs bound h w
  unfolding parts
  worked_visitable I = record { paid = worked_paid; seated = seated I }

  cut_left : w.cut - gain_at froms tos widths h w.table (target G k bound row parts h) ≡ cut_of G (moved_to row h (target G k bound row parts h) parts)
  unfolding gain_at parts own
  cut_left = omega (arith, cut_falls (target G k bound row parts h), gains, T.cut_is)

  pub worked-visited : Follows G k row (worked froms tos widths costs bound h w) (visited G k bound row h (tallied row w))
  unfolding worked moved_by visited settled_at parts own
  worked-visited =
      rw (choice_target, own_is)
      (either (eq_or_ne t own) (λ e. rw (eq-eqb t own e) (record { is = refl; tracks = T; placed = placed }))
      (λ n. rw (ne_eqb t own n)
      (record {
        is = rw (counted t) (ap (λ (l : List ℕ). record { parts = l; moves = w.moves + when (lt_z (pos 0) (gain_to G row parts h t)) 1; moved = true }) (sym (moved_through row w.table h t (omega (arith, placed.long)))));
        tracks = rw (← moved_through row w.table h t (omega (arith, placed.long)), cost_is)
            (record {
              sums = shifted_sums w.sums own t (part_cost G.costs row h) 0 R (λ e. n (sym e)) own_low low
                  (cost_old G P.formed row parts (moved_to row h t parts) h own t all (upd t) (λ e. n (sym e)))
                  (cost_new G P.formed row parts (moved_to row h t parts) h own t all (upd t) (λ e. n (sym e)))
                  (cost_third G P.formed row parts (moved_to row h t parts) h own t all (upd t));
              cut_is = cut_left;
            });
        placed = placed_set h t placed low;
      })))
    where
      t : ℕ
      t = target G k bound row parts h

      low : t < 16
      low = rw (← choice_target) choice_low

-- one row by itself
pub good_here : {G : Graph} {k bound : ℕ} {row parts : List ℕ} → Good G k bound row parts → GoodAt G k bound (λ r. row) 0 (state_of 0 parts)
good_here I = record { kept = omega arith; table = I }

-- what the code has of a rung: a row with a vertex in each of its clusters, the clusters' costs, and the lists of their edges
pub record Drawn (G : Graph) (row costs froms tos widths : List ℕ) : Type 0 where
  pub row_of : RowOf G row (clusters row)
  pub few : clusters row ≤ 512
  pub onto : (c : ℕ) → c < clusters row → (v : ℕ) × (v < vertices G) × (get_or row v 0 ≡ c)
  pub cost : (c : ℕ) → c < clusters row → get_or costs c 0 ≡ part_cost G.costs row c
  pub lists : Coarse G row (clusters row) froms tos widths

-- the code's pass is the definitions'
module _ (G : Graph) (P : Proper G) (k bound : ℕ) (few : k ≤ 16) (row costs froms tos widths : List ℕ) (R : Drawn G row costs froms tos widths) where
  turns-visited : (i : ℕ) → i ≤ clusters row → (w : Work) (s : Tally) → Follows G k row w s
      → Follows G k row (turns i (worked froms tos widths costs bound) w) (turns i (visited G k bound row) s)
  unfolding turns
  turns-visited zero l w s f = f
  turns-visited (suc i) l w s f =
      let g = turns-visited i (omega arith) w s f in
      rw (← g.is) (worked-visited G P k bound row costs froms tos widths R.row_of R.lists few i l (omega (arith, R.few)) (R.cost i l) (R.onto i l) _ g.placed g.tracks)

  module _ (w : Work) (T : Tracks G (through row w.table) k w.sums w.cut) (p : Placed w.table) where
    begins : Follows G k row (begun w) (tallied row (begun w))
    begins = record { is = refl; tracks = T; placed = p }

    pub pass_follows : Follows G k row (turns (clusters row) (worked froms tos widths costs bound) (begun w)) (pass_of G k bound row (tallied row w))
    unfolding pass_of
    pass_follows = turns-visited (clusters row) (omega arith) (begun w) (tallied row (begun w)) begins

    -- each visit of it finds its gain in the cut, and its cluster between its neighbours
    pub pass_visitable : Good G k bound row (through row w.table) → (i : ℕ) → i < clusters row → Visitable froms tos widths costs bound i (turns i (worked froms tos widths costs bound) (begun w))
    pass_visitable I i l =
        let g = turns-visited i (omega arith) (begun w) (tallied row (begun w)) begins in
        let steps = (turn_steps G P k bound (λ r. row) 0 (alone row R.row_of.whole) 0 i (tallied row (begun w)) (omega arith)).steps in
        let J = (steps_good G P k bound (λ r. row) 0 (alone row R.row_of.whole) {s = tallied row (begun w)} (good_here I) steps).table in
        worked_visitable G P k bound row costs froms tos widths R.row_of R.lists few i l (omega (arith, R.few)) (R.cost i l) (R.onto i l) _ g.placed g.tracks
        (rw (ap (λ (t : Tally). t.parts) g.is) J)
