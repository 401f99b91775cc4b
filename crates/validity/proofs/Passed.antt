-- Passed checks and what they say of the graph, both ways.
use Prim.Native.Nat.{ℕ, zero, suc, ◌≤◌, ◌<◌}
use mathlib.Core.Path.{◌≡◌, refl, sym, ◌∙◌}
use mathlib.Core.Bool.{Bool, true, false, not}
use mathlib.Core.Logic.{◌↔◌}
use Rattle.std.specs.Prelude.{Ok, Err}
use native.Mathlib.Omega.{arith}
use lib.Dec.{eqb, ltb, leb}
use lib.ListN.{length, get_or}
use borrow.Author.Tests.{eqb-true, eqb-false, ltb-false, leb-false, eq-eqb, ne_eqb, le-ltb, lt-leb}
use Rattle.folds.specs.Fold.{first_to}
use Rattle.folds.proofs.Cases.{by, no_bool, not_no, both, both_i}
use Rattle.folds.proofs.Searches.{first_to_le, first_to_none, first_to_all, any_e, any_none}
use Rattle.graph.specs.Walk.{Acyclic}
use Rattle.graph.specs.Graph.{Graph, vertices, edges, identity, seen, Edge, Proper}
use Rattle.graph.proofs.Edges.{row_inside, identity_row}
use Rattle.topology.specs.Reach.{lowest_on_cycle}
use Rattle.topology.proofs.Reaches.{none_acyclic, lowest_none}
use Rattle.validity.specs.Sound.{Sound}
use Rattle.validity.specs.Check.{most_vertices, refuse_if, refuse_at, bad_vertices, bad_parts, bad_edges, bad_cost, bad_ends, repeats, cycles_from, repeats_from, lists_from, checked, Valid}
use Rattle.validity.specs.Cause.{number_of, Answer, refusal, if_passed, Verdict, Passed}
use Rattle.validity.specs.declared.Cause.{Cause}
use Rattle.validity.specs.declared.Cause.TheVariants.{Vertices, Parts, Edges, Room, Cost, Ends, Repeat, Cycle, Uncut, Entry, Empty, Over, PartCycle, Length, Line, Lines}
use Rattle.validity.proofs.Checks.{neither}

positive : (x : ℕ) → (x ≡ 0 → ⊥) → 0 < x
positive zero n = absurd (n refl)
positive (suc x) n = omega arith

-- a chain that passed: this check did, and the rest
pub passed_at : (cause : Cause) (n : ℕ) (p : ℕ → Bool) (x : Verdict) → refuse_at cause (first_to n p) n x ≡ Passed → ((v : ℕ) → v < n → p v ≡ false) × (x ≡ Passed)
unfolding refuse_at
passed_at cause n p x e =
    by (ltb (first_to n p) n) (λ t. let q = rw t at e in let z : ◌≡◌ {A = ℕ} 0 1 = cc in absurd (omega arith))
    (λ t. (first_to_none n p (omega (arith, first_to_le n p, ltb-false (first_to n p) n t)), rw t at e))

pub passed_if : (fault : Bool) (cause : Cause) (x : Verdict) → refuse_if fault cause x ≡ Passed → (fault ≡ false) × (x ≡ Passed)
passed_if true cause x e = let z : ◌≡◌ {A = ℕ} 0 1 = cc in absurd (omega arith)
passed_if false cause x e = (refl, e)

module _ (G : Graph) (k bound : ℕ) (valid : Valid G k bound) where
  first_three : (bad_vertices 512 (vertices G) ≡ false) × (bad_parts k (vertices G) ≡ false) × (bad_edges (length G.starts) (length G.ends) (length G.widths) ≡ false)
  unfolding checked lists_from
  first_three =
      let (a, r1) = passed_if (bad_vertices 512 (vertices G)) _ _ valid in
      let (b, r2) = passed_if (bad_parts k (vertices G)) _ _ r1 in
      let (c, _) = passed_if (bad_edges (length G.starts) (length G.ends) (length G.widths)) _ _ r2 in
      (a, b, c)

  last_four : ((v : ℕ) → v < vertices G → bad_cost G.costs bound v ≡ false)
      × ((j : ℕ) → j < edges G → bad_ends (vertices G) G.starts G.ends G.widths j ≡ false)
      × ((j : ℕ) → j < edges G → repeats G.starts G.ends j ≡ false)
      × (cycles_from (vertices G) G.starts G.ends ≡ Passed)
  unfolding checked lists_from repeats_from
  last_four =
      let (_, r1) = passed_if (bad_vertices 512 (vertices G)) _ _ valid in
      let (_, r2) = passed_if (bad_parts k (vertices G)) _ _ r1 in
      let (_, r3) = passed_if (bad_edges (length G.starts) (length G.ends) (length G.widths)) _ _ r2 in
      let (a, r4) = passed_at _ (vertices G) (bad_cost G.costs bound) _ r3 in
      let (b, r5) = passed_at _ (edges G) (bad_ends (vertices G) G.starts G.ends G.widths) _ r4 in
      let (c, r6) = passed_at _ (edges G) (repeats G.starts G.ends) _ r5 in
      (a, b, c, r6)

  ends_good : (j : ℕ) → j < edges G → (get_or G.starts j 0 < vertices G) × (get_or G.ends j 0 < vertices G) × (get_or G.starts j 0 ≡ get_or G.ends j 0 → ⊥) × (0 < get_or G.widths j 0)
  unfolding bad_ends
  ends_good j h =
      let (a, r1) = neither (leb (vertices G) (get_or G.starts j 0)) _ (last_four.1 j h) in
      let (b, r2) = neither (leb (vertices G) (get_or G.ends j 0)) _ r1 in
      let (c, d) = neither (eqb (get_or G.starts j 0) (get_or G.ends j 0)) _ r2 in
      (leb-false _ _ a, leb-false _ _ b, eqb-false _ _ c, positive (get_or G.widths j 0) (eqb-false _ _ d))

  costs_good : (v : ℕ) → v < vertices G → (0 < get_or G.costs v 0) × (get_or G.costs v 0 ≤ bound)
  unfolding bad_cost
  costs_good v h =
      let (a, b) = neither (eqb (get_or G.costs v 0) 0) _ (last_four.0 v h) in
      (positive (get_or G.costs v 0) (eqb-false _ _ a), ltb-false bound (get_or G.costs v 0) b)

  -- each of the lists fits the others
  valid_proper : Proper G
  unfolding bad_vertices bad_edges
  valid_proper =
      let (a, b) = neither (eqb (vertices G) 0) _ first_three.0 in
      let (p, r) = neither (not (eqb (length G.ends) (length G.starts))) _ first_three.2 in
      let (q, m) = neither (not (eqb (length G.widths) (length G.starts))) _ r in
      record {
        formed = record {
          same_ends = eqb-true _ _ (not_no _ p);
          same_widths = eqb-true _ _ (not_no _ q);
          start_in = λ j h. (ends_good j h).0;
          end_in = λ j h. (ends_good j h).1;
        };
        some = positive (vertices G) (eqb-false (vertices G) 0 a);
        few = ltb-false 512 (vertices G) b;
        many = ltb-false 1024 (edges G) m;
        costly = λ v h. (costs_good v h).0;
        wide = λ j h. (ends_good j h).3;
      }

  valid_acyclic : Acyclic (Edge (seen G (identity (vertices G))))
  unfolding cycles_from lowest_on_cycle
  valid_acyclic =
      let z = passed_at _ (vertices G) _ _ last_four.3 in
      none_acyclic (seen G (identity (vertices G))) (vertices G) (row_inside valid_proper.formed (identity_row G)) (first_to_all (vertices G) _ z.0)

  -- a valid graph is sound
  pub valid_sound : Sound G k bound
  unfolding bad_parts repeats
  valid_sound =
      let (a, r) = neither (eqb k 0) _ first_three.1 in
      let (b, c) = neither (ltb 16 k) _ r in
      record {
        proper = valid_proper;
        acyclic = valid_acyclic;
        some = positive k (eqb-false k 0 a);
        few = ltb-false 16 k b;
        filled = ltb-false (vertices G) k c;
        within = λ v h. (costs_good v h).1;
        apart = λ j h. (ends_good j h).2;
        once = λ i j l h es ee. no_bool (sym (any_none j _ (last_four.2 j h) i l) ∙ both_i (eqb (get_or G.starts i 0) (get_or G.starts j 0)) _ (eq-eqb _ _ es) (eq-eqb _ _ ee));
      }

-- a check that finds no fault passes what follows it
pass_at : (cause : Cause) (i n : ℕ) (x : Verdict) → i ≡ n → refuse_at cause i n x ≡ x
unfolding refuse_at
pass_at cause i n x e = rw (le-ltb i n (omega arith))

module _ (G : Graph) (k bound : ℕ) (S : Sound G k bound) where
  no_vertices : bad_vertices 512 (vertices G) ≡ false
  unfolding bad_vertices
  no_vertices = rw (ne_eqb (vertices G) 0 (λ e. omega (arith, S.proper.some)), le-ltb 512 (vertices G) S.proper.few)

  no_parts : bad_parts k (vertices G) ≡ false
  unfolding bad_parts
  no_parts = rw (ne_eqb k 0 (λ e. omega (arith, S.some)), le-ltb 16 k S.few, le-ltb (vertices G) k S.filled)

  no_edges : bad_edges (length G.starts) (length G.ends) (length G.widths) ≡ false
  unfolding bad_edges
  no_edges =
      rw (eq-eqb (length G.ends) (length G.starts) S.proper.formed.same_ends, eq-eqb (length G.widths) (length G.starts) S.proper.formed.same_widths, le-ltb 1024 (length G.starts) S.proper.many)

  no_cost : (v : ℕ) → v < vertices G → bad_cost G.costs bound v ≡ false
  unfolding bad_cost
  no_cost v l = rw (ne_eqb (get_or G.costs v 0) 0 (λ e. omega (arith, S.proper.costly v l)), le-ltb bound (get_or G.costs v 0) (S.within v l))

  no_ends : (j : ℕ) → j < edges G → bad_ends (vertices G) G.starts G.ends G.widths j ≡ false
  unfolding bad_ends
  no_ends j l =
      rw (lt-leb (vertices G) (get_or G.starts j 0) (S.proper.formed.start_in j l), lt-leb (vertices G) (get_or G.ends j 0) (S.proper.formed.end_in j l), ne_eqb (get_or G.starts j 0) (get_or G.ends j 0) (S.apart j l))
      (ne_eqb (get_or G.widths j 0) 0 (λ e. omega (arith, S.proper.wide j l)))

  no_repeat : (j : ℕ) → j < edges G → repeats G.starts G.ends j ≡ false
  unfolding repeats
  no_repeat j l =
      by (repeats G.starts G.ends j)
      (λ t.
      let (i, h, e) = any_e j _ t in
      let (a, b) = both (eqb (get_or G.starts i 0) (get_or G.starts j 0)) _ e in absurd (S.once i j h l (eqb-true _ _ a) (eqb-true _ _ b))) (λ f. f)

  no_cycle : lowest_on_cycle (seen G (identity (vertices G))) (vertices G) ≡ vertices G
  no_cycle = lowest_none (seen G (identity (vertices G))) (vertices G) (row_inside S.proper.formed (identity_row G)) S.acyclic

  -- a sound graph is valid: a call refuses for the causes that document 01 lists, and for no other
  pub sound_valid : Valid G k bound
  unfolding checked lists_from repeats_from cycles_from
  sound_valid =
      rw (no_vertices, no_parts, no_edges)
      (pass_at _ _ _ _ (first_to_all _ _ no_cost) ∙ pass_at _ _ _ _ (first_to_all _ _ no_ends) ∙ pass_at _ _ _ _ (first_to_all _ _ no_repeat) ∙ pass_at _ _ _ _ no_cycle)

-- the checks pass exactly for a sound graph
pub valid_exactly : (G : Graph) (k bound : ℕ) → Valid G k bound ↔ Sound G k bound
valid_exactly G k bound = (valid_sound G k bound, sound_valid G k bound)

-- the tables that the caller lends, and fewer vertices, do not matter to it
pub passed_valid : (most : ℕ) (G : Graph) (k bound : ℕ) (room : Bool) → most ≤ 512 → checked most G k bound room ≡ Passed → (Valid G k bound) × (room ≡ true)
unfolding checked lists_from bad_vertices
passed_valid most G k bound room l e =
    let (a, r1) = passed_if (bad_vertices most (vertices G)) _ _ e in
    let (b, r2) = passed_if (bad_parts k (vertices G)) _ _ r1 in
    let (c, r3) = passed_if (bad_edges (length G.starts) (length G.ends) (length G.widths)) _ _ r2 in
    let (d, r4) = passed_if (not room) _ _ r3 in
    let (z, f) = neither (eqb (vertices G) 0) _ a in
    (rw (z, le-ltb 512 (vertices G) (omega (arith, ltb-false most (vertices G) f)), b, c) r4, not_no room d)

pub passed_few : (most : ℕ) (G : Graph) (k bound : ℕ) (room : Bool) → checked most G k bound room ≡ Passed → vertices G ≤ most
unfolding checked lists_from bad_vertices
passed_few most G k bound room e =
    let (a, _) = passed_if (bad_vertices most (vertices G)) _ _ e in
    let (_, f) = neither (eqb (vertices G) 0) _ a in ltb-false most (vertices G) f

-- of the most vertices only that they are enough counts
pub valid_most : (most : ℕ) (G : Graph) (k bound : ℕ) → Valid G k bound → vertices G ≤ most → checked most G k bound true ≡ Passed
unfolding checked lists_from bad_vertices
valid_most most G k bound valid few =
    let (a, r) = passed_if (bad_vertices most_vertices (vertices G)) _ _ valid in
    let (z, _) = neither (eqb (vertices G) 0) _ a in rw (z, le-ltb most (vertices G) few) r

-- a refusal has a number above 0
pub numbered : (cause : Cause) → number_of cause ≡ 0 → ⊥
numbered Vertices e = omega arith
numbered Parts e = omega arith
numbered Edges e = omega arith
numbered Room e = omega arith
numbered Cost e = omega arith
numbered Ends e = omega arith
numbered Repeat e = omega arith
numbered Cycle e = omega arith
numbered Uncut e = omega arith
numbered Entry e = omega arith
numbered Empty e = omega arith
numbered Over e = omega arith
numbered PartCycle e = omega arith
numbered Length e = omega arith
numbered Line e = omega arith
numbered Lines e = omega arith

-- an answer of number 0 comes of a verdict that passed
pub number_passed : (v : Verdict) (answer : Answer) → (if_passed v answer refusal).number ≡ 0 → v ≡ Passed
number_passed (Ok tt) answer e = refl
number_passed (Err r) answer e = absurd (numbered r.cause e)
