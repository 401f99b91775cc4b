-- One visit: what the loops found is the choice of the definition, and the arrays then hold the pairs with it.
use Prim.Native.Nat.{ℕ, ◌+◌, ◌≤◌, ◌<◌}
use mathlib.Core.Path.{◌≡◌, refl, sym, ap, ◌∙◌}
use mathlib.Core.Bool.{Bool, true, false, not, ◌&&◌, ◌||◌}
use mathlib.Core.Logic.{◌⊎◌, inl, inr}
use mathlib.Core.List.{List, ◌∷◌}
use native.Mathlib.Omega.{arith}
use lib.Dec.{eqb, ltb, leb}
use lib.ListN.{length, get_or}
use borrow.Author.Tests.{eqb-true, eqb-false, eq-eqb, ne_eqb, ltb-true, ltb-false, le-leb, lt-leb}
use Rattle.folds.specs.Fold.{pick, when, sum_to, max_to, any_to, list_to}
use Rattle.folds.proofs.Cases.{no_bool, by, either, eq_or_ne, both, both_i, one_of, not_yes}
use Rattle.folds.proofs.Sums.{sum_to_none}
use Rattle.folds.proofs.Searches.{max_le, max_ge, first_to_all, first_to_found, any_e, any_none}
use Rattle.folds.proofs.Lists.{get_d_list_to}
use Rattle.graph.specs.Graph.{Graph, Arcs, seen, edge, Edge, width_of, part_cost, Inside}
use Rattle.graph.proofs.Links.{leave_at}
use Rattle.graph.proofs.Edges.{arc_edge, edge_arc, edge_other, edge_inside, row_inside}
use Rattle.topology.specs.Level.{levels_of, next_in}
use Rattle.contraction.specs.Rules.{pair, Round, pair_at, Next, Keeps}
use Rattle.contraction.specs.Tests.{fits}
use Rattle.contraction.specs.Next.{mate_of}
use Rattle.matching.specs.Choice.{may_take, offer, widest, taken, visit}
use Rattle.graph.specs.Coarse.{sent}
use Rattle.matching_scan.specs.State.{leaves, halts, halts_at, offer_in, offer_of, Widest}
use Rattle.matching.specs.Promises.{any_of, Holds, Context}
use Rattle.matching.proofs.Fits.{any_of_e, any_of_none, sent_width, all_only, only_all, Free, fits_free, free_fits}

-- without an offer the pairs stay, and with one they get the lowest of the widest
visit_none : (G : Graph) (row levels : List ℕ) (g bound : ℕ) (ps : Round) (u : ℕ) → ((v : ℕ) → v < g → offer G row levels g bound ps u v ≡ 0) → visit G row levels g bound ps u ≡ ps
unfolding visit taken
visit_none G row levels g bound ps u h =
    let offers = list_to g (offer G row levels g bound ps u) in
    let z : max_to g (λ w. get_or offers w 0) ≤ 0 = max_le g 0 (λ w. get_or offers w 0) (λ v l. omega (arith, get_d_list_to g (offer G row levels g bound ps u) v l, h v l)) in
    rw (eq-eqb (max_to g (λ w. get_or offers w 0)) 0 (omega arith))

visit_some : (G : Graph) (row levels : List ℕ) (g bound : ℕ) (ps : Round) (u to width : ℕ) → to < g → (width ≡ 0 → ⊥) → offer G row levels g bound ps u to ≡ width
    → ((v : ℕ) → v < g → offer G row levels g bound ps u v ≤ width) → ((v : ℕ) → v < to → offer G row levels g bound ps u v ≡ width → ⊥)
    → visit G row levels g bound ps u ≡ pair u to ∷ ps
unfolding visit taken widest
visit_some G row levels g bound ps u to width l n e top low =
    let f = offer G row levels g bound ps u in
    let offers = list_to g f in
    let most : max_to g (λ w. get_or offers w 0) ≤ width = max_le g width (λ w. get_or offers w 0) (λ v lv. omega (arith, get_d_list_to g f v lv, top v lv)) in
    let least : get_or offers to 0 ≤ max_to g (λ w. get_or offers w 0) = max_ge g (λ w. get_or offers w 0) to l in
    let m : max_to g (λ w. get_or offers w 0) ≡ width = omega (arith, get_d_list_to g f to l) in
    rw (m, ne_eqb width 0 n)
    (ap (λ (z : ℕ). pair u z ∷ ps)
    (first_to_found g to (λ v. eqb (get_or offers v 0) width)
    (first_to_all to (λ v. eqb (get_or offers v 0) width) (λ v lv. ne_eqb (get_or offers v 0) width (λ q. low v lv (sym (get_d_list_to g f v (omega arith)) ∙ q))))
    (eq-eqb (get_or offers to 0) width (get_d_list_to g f to l ∙ e)) l))

-- without an edge there is no width
width_none : (A : Arcs) (widths : List ℕ) (u b : ℕ) → edge A u b ≡ false → width_of A widths u b ≡ 0
unfolding width_of
width_none A widths u b t =
    either (eq_or_ne u b) (λ e. rw (eq-eqb u b e))
    (λ n. rw (ne_eqb u b n) (sum_to_none A.count (λ j. when (eqb (A.from j) u && eqb (A.to j) b) (get_or widths j 0)) (λ j l.
    by (eqb (A.from j) u && eqb (A.to j) b)
    (λ q.
    let (x, y) = both (eqb (A.from j) u) (eqb (A.to j) b) q in
    let ex = eqb-true (A.from j) u x in
    let ey = eqb-true (A.to j) b y in
    let z : Edge A u b = rw (ex, ey) at (arc_edge A j l (λ k. n (sym ex ∙ k ∙ ey))) in
    absurd (no_bool (sym t ∙ z)))
    (λ q. rw q))))

or_true : (a : Bool) → (a || true) ≡ true
or_true true = refl
or_true false = refl

module _ (G : Graph) (row : List ℕ) (g bound : ℕ) (levels costs mates tos blocked : List ℕ) (C : Context G row g levels costs)
    (ps : Round) (K : Keeps (seen G row) g ps) (H : Holds (seen G row) levels ps mates tos blocked) (u : ℕ) (lu : u < 512) where
  abbrev A : Arcs
  A = seen G row

  abbrev L : List ℕ
  L = levels_of A g

  inside : Inside A g
  inside = row_inside C.ready.proper.formed C.ready.row_of

  next_e : (a b : ℕ) → next_in levels a b ≡ true → Next A g a b
  unfolding next_in
  next_e a b t = sym (C.levels_are b) ∙ eqb-true _ _ t ∙ ap (λ (z : ℕ). z + 1) (C.levels_are a)

  next_i : (a b : ℕ) → Next A g a b → next_in levels a b ≡ true
  unfolding next_in
  next_i a b e = eq-eqb _ _ (C.levels_are b ∙ e ∙ ap (λ (z : ℕ). z + 1) (sym (C.levels_are a)))

  low : (a b : ℕ) → Edge A a b → (a < 512) × (b < 512)
  low a b t = let (la, lb) = edge_inside A g inside a b t in (omega (arith, C.ready.small), omega (arith, C.ready.small))

  -- an offer that is not 0 fits
  offer_fits : (v : ℕ) → (offer G row L g bound ps u v ≡ 0 → ⊥) → fits A L g ps (pair u v) ≡ true
  unfolding offer may_take
  offer_fits v n =
      by (fits A L g ps (pair u v)) (λ t. t) (λ t. absurd (n (rw t)))

  free : (v : ℕ) → (offer G row L g bound ps u v ≡ 0 → ⊥) → Free A g inside C.ready.acyclic ps K u v
  free v n = fits_free A g inside C.ready.acyclic ps K u v (offer_fits v n)

  zero_or : (v : ℕ) → ((offer G row L g bound ps u v ≡ 0 → ⊥) → ⊥) → offer G row L g bound ps u v ≡ 0
  zero_or v h = either (eq_or_ne (offer G row L g bound ps u v) 0) (λ e. e) (λ n. absurd (h n))

  -- a cluster in a pair takes none
  pub visit_mated : {x : ℕ} → x ≡ get_or mates u 0 → (x ≡ u → ⊥) → visit G row L g bound ps u ≡ ps
  visit_mated e n = visit_none G row L g bound ps u (λ v l. zero_or v (λ k. n (e ∙ H.mates_are u lu ∙ (free v k).from_single)))

  -- nor one whose edges go to the end of a pair on the next level
  stop_at : (j : ℕ) → j < A.count → halts_at A levels tos u j ≡ true → (i : ℕ) × (i < length ps) × Edge A u (pair_at ps i).to × Next A g u (pair_at ps i).to
  unfolding halts_at halts
  stop_at j l t =
      let (a, r) = both (eqb (A.from j) u) _ t in
      let (b, s) = both (not (eqb (A.to j) u)) _ r in
      let (c, d) = both (not (eqb (get_or tos (A.to j) 0) 0)) _ s in
      let eu = eqb-true (A.from j) u a in
      let ne = eqb-false (A.to j) u (not_yes _ b) in
      let e : Edge A u (A.to j) = rw eu at (arc_edge A j l (λ z. ne (sym z ∙ eu))) in
      let z : get_or tos (A.to j) 0 ≡ 0 → ⊥ = eqb-false _ 0 (not_yes _ c) in
      let y : any_of (λ p. eqb p.to (A.to j)) ps ≡ true = by (any_of (λ p. eqb p.to (A.to j)) ps) (λ q. q) (λ q. absurd (z (H.tos_are (A.to j) (low u (A.to j) e).1 ∙ rw q))) in
      let (i, li, ei) = any_of_e (λ p. eqb p.to (A.to j)) ps y in
      let q : (pair_at ps i).to ≡ A.to j = eqb-true _ _ ei in
      (i, li, rw q e, rw q (next_e u (A.to j) d))

  pub visit_stopped : {r : Bool} → r ≡ any_to A.count (halts_at A levels tos u) → r ≡ true → visit G row L g bound ps u ≡ ps
  visit_stopped e t =
      let (j, l, h) = any_e A.count (halts_at A levels tos u) (sym e ∙ t) in
      let (i, li, ei, ni) = stop_at j l h in visit_none G row L g bound ps u (λ v lv. zero_or v (λ k. (free v k).from_clear i li ei ni))

  module _ {x : ℕ} (ex : x ≡ get_or mates u 0) (single : x ≡ u) {r : Bool} (er : r ≡ any_to A.count (halts_at A levels tos u)) (goes : r ≡ false) where
    no_stop : (i : ℕ) → i < length ps → Edge A u (pair_at ps i).to → Next A g u (pair_at ps i).to → ⊥
    unfolding halts_at halts
    no_stop i li e n =
        let b = (pair_at ps i).to in
        let (j, l, eu, eb) = edge_arc A u b e in
        let t = any_none A.count (halts_at A levels tos u) (sym er ∙ goes) j l in
        let m : get_or tos b 0 ≡ 1 = H.tos_are b (low u b e).1 ∙ rw (to_of i li) in
        let s : halts_at A levels tos u j ≡ true =
        rw (eb, eq-eqb (A.from j) u eu, ne_eqb b u (λ z. edge_other A u b e (sym z)), ne_eqb (get_or tos b 0) 0 (λ z. omega arith), next_i u b n) in
        no_bool (sym t ∙ s)
      where
        to_of : (i : ℕ) → i < length ps → any_of (λ p. eqb p.to (pair_at ps i).to) ps ≡ true
        to_of i li =
            by (any_of (λ p. eqb p.to (pair_at ps i).to) ps) (λ t. t)
            (λ t. absurd (no_bool (sym (any_of_none (λ p. eqb p.to (pair_at ps i).to) ps t i li) ∙ eq-eqb (pair_at ps i).to (pair_at ps i).to refl)))

    blocked_e : (b : ℕ) → b < 512 → (get_or blocked b 0 ≡ 0 → ⊥) → (i : ℕ) × (i < length ps) × Edge A (pair_at ps i).from b × Next A g (pair_at ps i).from b
    blocked_e b lb n =
        let t : any_of (λ p. edge A p.from b && next_in levels p.from b) ps ≡ true =
        by (any_of (λ p. edge A p.from b && next_in levels p.from b) ps) (λ q. q) (λ q. absurd (n (H.blocked_are b lb ∙ rw q))) in
        let (i, li, ei) = any_of_e (λ p. edge A p.from b && next_in levels p.from b) ps t in
        let (e, s) = both (edge A (pair_at ps i).from b) _ ei in
        (i, li, e, next_e _ b s)

    blocked_i : (b : ℕ) → b < 512 → get_or blocked b 0 ≡ 0 → (i : ℕ) → i < length ps → Edge A (pair_at ps i).from b → Next A g (pair_at ps i).from b → ⊥
    blocked_i b lb z i li e n =
        let t : any_of (λ p. edge A p.from b && next_in levels p.from b) ps ≡ false =
        by (any_of (λ p. edge A p.from b && next_in levels p.from b) ps) (λ q. let y : get_or blocked b 0 ≡ 1 = H.blocked_are b lb ∙ rw q in absurd (omega arith)) (λ q. q) in
        no_bool (sym (any_of_none (λ p. edge A p.from b && next_in levels p.from b) ps t i li) ∙ both_i (edge A (pair_at ps i).from b) _ e (next_i _ b n))

    -- what b offers by the arrays is what it offers by the rules
    module _ (b : ℕ) (t : Edge A u b) where
      abbrev lb : b < 512
      lb = (low u b t).1

      abbrev w : ℕ
      w = sum_to A.count (sent A G.widths u b)

      abbrev total : ℕ
      total = sum_to A.count (leaves A G.widths u)

      near_i : (Next A g u b) ⊎ ((z : ℕ) → Edge A u z → z ≡ b) → (next_in levels u b || eqb w total) ≡ true
      near_i (inl n) = rw (next_i u b n)
      near_i (inr o) = rw (eq-eqb w total (only_all A G.widths C.ready.proper.wide u b t o)) (or_true (next_in levels u b))

      near_e : (next_in levels u b || eqb w total) ≡ true → (Next A g u b) ⊎ ((z : ℕ) → Edge A u z → z ≡ b)
      near_e s = either (one_of (next_in levels u b) _ s) (λ q. inl (next_e u b q)) (λ q. inr (all_only A G.widths C.ready.proper.wide u b t (eqb-true w total q)))

      cost_is : get_or costs u 0 + get_or costs b 0 ≡ part_cost G.costs row u + part_cost G.costs row b
      cost_is = omega (arith, C.costs_are u lu, C.costs_are b lb)

      dear : leb (part_cost G.costs row u + part_cost G.costs row b) bound ≡ not (ltb bound (get_or costs u 0 + get_or costs b 0))
      dear =
          by (ltb bound (get_or costs u 0 + get_or costs b 0))
          (λ q. rw q (lt-leb (part_cost G.costs row u + part_cost G.costs row b) bound (omega (arith, ltb-true bound (get_or costs u 0 + get_or costs b 0) q, cost_is))))
          (λ q. rw q (le-leb (part_cost G.costs row u + part_cost G.costs row b) bound (omega (arith, ltb-false bound (get_or costs u 0 + get_or costs b 0) q, cost_is))))

      is_free : mate_of ps b ≡ b → get_or blocked b 0 ≡ 0 → (next_in levels u b || eqb w total) ≡ true → fits A L g ps (pair u b) ≡ true
      is_free m z s =
          free_fits A g inside C.ready.acyclic ps K u b
          (record {
            joins = t;
            from_single = sym (H.mates_are u lu) ∙ sym ex ∙ single;
            to_single = m;
            from_clear = no_stop;
            to_clear = blocked_i b lb z;
            near = near_e s;
          })

      pub offer_is : offer G row L g bound ps u b ≡ offer_of A G.widths levels mates blocked costs bound u b
      unfolding offer may_take offer_of offer_in
      offer_is =
          rw (dear, ← sent_width A G.widths u b, H.mates_are b lb)
          (by (fits A L g ps (pair u b)) yes no)
        where
          yes : fits A L g ps (pair u b) ≡ true
              → when (fits A L g ps (pair u b) && not (ltb bound (get_or costs u 0 + get_or costs b 0))) w
              ≡ pick (eqb (mate_of ps b) b) (pick (eqb (get_or blocked b 0) 0) (pick (ltb bound (get_or costs u 0 + get_or costs b 0)) 0 (pick (next_in levels u b || eqb w total) w 0)) 0) 0
          yes f =
              let F = fits_free A g inside C.ready.acyclic ps K u b f in
              let z : get_or blocked b 0 ≡ 0 = either (eq_or_ne (get_or blocked b 0) 0) (λ e. e) (λ n. let (i, li, e, s) = blocked_e b lb n in absurd (F.to_clear i li e s)) in
              rw (f, eq-eqb (mate_of ps b) b F.to_single, eq-eqb (get_or blocked b 0) 0 z, near_i F.near) (flip (ltb bound (get_or costs u 0 + get_or costs b 0)))
            where
              flip : (s : Bool) → when (not s) w ≡ pick s 0 w
              flip true = refl
              flip false = refl

          no : fits A L g ps (pair u b) ≡ false
              → when (fits A L g ps (pair u b) && not (ltb bound (get_or costs u 0 + get_or costs b 0))) w
              ≡ pick (eqb (mate_of ps b) b) (pick (eqb (get_or blocked b 0) 0) (pick (ltb bound (get_or costs u 0 + get_or costs b 0)) 0 (pick (next_in levels u b || eqb w total) w 0)) 0) 0
          no f =
              rw f
              (either (eq_or_ne (mate_of ps b) b)
              (λ m. either (eq_or_ne (get_or blocked b 0) 0)
              (λ z. by (next_in levels u b || eqb w total) (λ s. absurd (no_bool (sym f ∙ is_free m z s)))
              (λ s. rw (eq-eqb (mate_of ps b) b m, eq-eqb (get_or blocked b 0) 0 z, s) (pick_same (ltb bound (get_or costs u 0 + get_or costs b 0)))))
              (λ z. rw (eq-eqb (mate_of ps b) b m, ne_eqb (get_or blocked b 0) 0 z)))
              (λ m. rw (ne_eqb (mate_of ps b) b m)))
            where
              pick_same : (s : Bool) → ◌≡◌ {A = ℕ} 0 (pick s 0 0)
              pick_same true = refl
              pick_same false = refl

    -- an offer comes from an edge
    offer_edge : (v : ℕ) → (offer G row L g bound ps u v ≡ 0 → ⊥) → Edge A u v
    offer_edge v n = (free v n).joins

    sent_edge : (b : ℕ) → (offer_of A G.widths levels mates blocked costs bound u b ≡ 0 → ⊥) → Edge A u b
    unfolding offer_of offer_in
    sent_edge b n =
        let w = sum_to A.count (sent A G.widths u b) in
        either (eq_or_ne w 0)
        (λ z. absurd (n (rw z (all_zero (eqb (get_or mates b 0) b) (eqb (get_or blocked b 0) 0) (ltb bound (get_or costs u 0 + get_or costs b 0)) (next_in levels u b || eqb 0 (sum_to A.count (leaves A G.widths u)))))))
        (λ z. by (edge A u b) (λ t. t) (λ t. absurd (z (sent_width A G.widths u b ∙ no_edge b t))))
      where
        all_zero : (a c d e : Bool) → ◌≡◌ {A = ℕ} (pick a (pick c (pick d 0 (pick e 0 0)) 0) 0) 0
        all_zero true true true e = refl
        all_zero true true false true = refl
        all_zero true true false false = refl
        all_zero true false d e = refl
        all_zero false c d e = refl

        no_edge : (b : ℕ) → edge A u b ≡ false → width_of A G.widths u b ≡ 0
        no_edge b t = width_none A G.widths u b t

    module _ {width to : ℕ} (W : Widest A (offer_of A G.widths levels mates blocked costs bound u) u A.count width to) where
      top : (v : ℕ) → v < g → offer G row L g bound ps u v ≤ width
      top v l =
          either (eq_or_ne (offer G row L g bound ps u v) 0) (λ e. omega arith)
          (λ n.
          let t = offer_edge v n in
          let (j, lj, eu, ev) = edge_arc A u v t in
          let h : offer_of A G.widths levels mates blocked costs bound u v ≤ width = rw ev at (W.top j lj (leave_at A j eu (λ q. edge_other A u v t (sym (sym ev ∙ q))))) in
          omega (arith, offer_is v t))

      pub visit_keeps : width ≡ 0 → visit G row L g bound ps u ≡ ps
      visit_keeps e = visit_none G row L g bound ps u (λ v l. omega (arith, top v l))

      pub visit_takes : (width ≡ 0 → ⊥) → (visit G row L g bound ps u ≡ pair u to ∷ ps) × Edge A u to
      visit_takes n = either W.hit (λ z. absurd (n z)) (λ (e, l). go e)
        where
          go : offer_of A G.widths levels mates blocked costs bound u to ≡ width → (visit G row L g bound ps u ≡ pair u to ∷ ps) × Edge A u to
          go e =
              let t = sent_edge to (λ z. n (sym e ∙ z)) in (
                visit_some G row L g bound ps u to width (edge_inside A g inside u to t).1 n (offer_is to t ∙ e) top
                    (λ v lv q.
                    let s = offer_edge v (λ z. n (sym q ∙ z)) in
                    let (j, lj, eu, ev) = edge_arc A u v s in
                    either (W.low j lj (leave_at A j eu (λ q. edge_other A u v s (sym (sym ev ∙ q)))) (rw ev (sym (offer_is v s) ∙ q))) n (λ h. omega arith)),
                t,
              )
