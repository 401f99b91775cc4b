-- Both views of a rung agree: sums on the clusters' graph are those on the vertices below.
use Prim.Native.Nat.{ℕ, ◌≤◌, ◌<◌}
use mathlib.Core.Path.{◌≡◌, refl, sym, ap, ◌∙◌}
use mathlib.Core.Bool.{Bool, true, false, not, ◌&&◌}
use mathlib.Core.List.{List}
use mathlib.Core.Logic.{◌↔◌}
use native.Mathlib.Omega.{arith}
use lib.Dec.{eqb}
use lib.ListN.{get_or}
use borrow.Author.Tests.{eqb-true, eq-eqb, ne_eqb}
use Rattle.folds.specs.Fold.{when, sum_to}
use Rattle.folds.proofs.Cases.{by, both, eq_or_ne, either}
use Rattle.folds.proofs.Sums.{sum_to_ext, sum_to-when, sum_to_only, sum_to_swap, sum_to_none, sum_to_member}
use Rattle.graph.specs.Graph.{Graph, vertices, edges, via, seen, edge, Edge, width_of, crossing, cut, cut_of, cost_in, part_cost, through, Formed, RowOf}
use Rattle.graph.specs.RowGraph.{row_graph, graph_cut, graph_cost}
use Rattle.graph.proofs.Edges.{through_at, edge_arc, edge_other, arc_edge}

when_and : (a b : Bool) (w : ℕ) → when a (when b w) ≡ when (a && b) w
when_and true b w = refl
when_and false b w = refl

when_swap : (a b : Bool) (w : ℕ) → when a (when b w) ≡ when b (when a w)
when_swap true true w = refl
when_swap true false w = refl
when_swap false true w = refl
when_swap false false w = refl

-- a cut within a cluster counts nothing
when_not : (t : ℕ → ℕ) (a b w : ℕ) → when (not (eqb (t a) (t b))) (when (not (eqb a b)) w) ≡ when (not (eqb (t a) (t b))) w
when_not t a b w = either (eq_or_ne a b) (λ e. rw (eq-eqb (t a) (t b) (ap t e))) (λ n. rw (ne_eqb a b n))

module _ (G : Graph) (row table : List ℕ) (g : ℕ) (F : Formed G) (R : RowOf G row g) where
  -- the cost of a part is the same, worked on the rung or on the vertices below
  pub rung_cost : (u : ℕ) → graph_cost (row_graph G row g) table u ≡ part_cost G.costs (through row table) u
  unfolding graph_cost row_graph part_cost cost_in
  rung_cost u =
      sum_to_ext g _ _ (λ a _. sym (sum_to-when (vertices G) (eqb (get_or table a 0) u) (λ v. when (eqb (get_or row v 0) a) (get_or G.costs v 0))))
      ∙ sum_to_swap g (vertices G) (λ a v. when (eqb (get_or table a 0) u) (when (eqb (get_or row v 0) a) (get_or G.costs v 0)))
      ∙ sum_to_ext (vertices G) _ _ (λ v l.
      sum_to_ext g _ _ (λ a _. when_swap (eqb (get_or table a 0) u) (eqb (get_or row v 0) a) (get_or G.costs v 0))
      ∙ sum_to_only g (get_or row v 0) (λ a. when (eqb (get_or table a 0) u) (get_or G.costs v 0)) (R.below v l)
      ∙ rw (through_at row table v (rw R.whole l)))

  -- one edge's share of the rung's cut
  share : ℕ → ℕ → ℕ → ℕ
  share a b j = when (eqb (via row G.starts j) a) (when (eqb (via row G.ends j) b) (when (not (eqb (get_or table a 0) (get_or table b 0))) (get_or G.widths j 0)))

  width_share : (a b : ℕ) → when (not (eqb (get_or table a 0) (get_or table b 0))) (width_of (seen G row) G.widths a b) ≡ sum_to (edges G) (share a b)
  unfolding width_of share
  width_share a b =
      when_not (λ x. get_or table x 0) a b (sum_to (edges G) (λ j. when (eqb (via row G.starts j) a && eqb (via row G.ends j) b) (get_or G.widths j 0)))
      ∙ sym (sum_to-when (edges G) (not (eqb (get_or table a 0) (get_or table b 0))) (λ j. when (eqb (via row G.starts j) a && eqb (via row G.ends j) b) (get_or G.widths j 0)))
      ∙ sum_to_ext (edges G) _ _ (λ j _. one_share (eqb (via row G.starts j) a) (eqb (via row G.ends j) b) (not (eqb (get_or table a 0) (get_or table b 0))) (get_or G.widths j 0))
    where
      one_share : (p q t : Bool) (w : ℕ) → when t (when (p && q) w) ≡ when p (when q (when t w))
      one_share true true t w = refl
      one_share true false true w = refl
      one_share true false false w = refl
      one_share false q true w = refl
      one_share false q false w = refl

  -- the cut is the same, worked on the rung or on the vertices below
  pub rung_cut : graph_cut (row_graph G row g) table ≡ cut_of G (through row table)
  unfolding graph_cut row_graph cut crossing share
  rung_cut =
      sum_to_ext g _ _ (λ a _. sum_to_ext g _ _ (λ b _. width_share a b) ∙ sum_to_swap g (edges G) (λ b j. share a b j))
      ∙ sum_to_swap g (edges G) (λ a j. sum_to g (λ b. share a b j))
      ∙ sum_to_ext (edges G) _ _ (λ j l. one_edge j l)
    where
      one_edge : (j : ℕ) → j < edges G → sum_to g (λ a. sum_to g (λ b. share a b j)) ≡ when (not (eqb (via (through row table) G.starts j) (via (through row table) G.ends j))) (get_or G.widths j 0)
      one_edge j l =
          let s = get_or G.starts j 0 in
          let e = get_or G.ends j 0 in
          sum_to_ext g _ _ (λ a _. sum_to-when g (eqb (get_or row s 0) a) (λ b. when (eqb (get_or row e 0) b) (when (not (eqb (get_or table a 0) (get_or table b 0))) (get_or G.widths j 0))))
          ∙ sum_to_only g (get_or row s 0) (λ a. sum_to g (λ b. when (eqb (get_or row e 0) b) (when (not (eqb (get_or table a 0) (get_or table b 0))) (get_or G.widths j 0)))) (R.below s (F.start_in j l))
          ∙ sum_to_only g (get_or row e 0) (λ b. when (not (eqb (get_or table (get_or row s 0) 0) (get_or table b 0))) (get_or G.widths j 0)) (R.below e (F.end_in j l))
          ∙ rw (through_at row table s (rw R.whole (F.start_in j l)), through_at row table e (rw R.whole (F.end_in j l)))

  -- where every width is above 0, the rung has an edge exactly where its width is above 0
  pub rung_edge : ((j : ℕ) → j < edges G → 0 < get_or G.widths j 0) → (a b : ℕ) → (0 < (row_graph G row g).width a b) ↔ Edge (seen G row) a b
  unfolding row_graph width_of
  rung_edge wide a b = (there, back)
    where
      between : ℕ → ℕ
      between j = when (eqb (via row G.starts j) a && eqb (via row G.ends j) b) (get_or G.widths j 0)

      there : 0 < when (not (eqb a b)) (sum_to (edges G) between) → Edge (seen G row) a b
      there h =
          by (edge (seen G row) a b) (λ t. t)
          (λ t.
          either (eq_or_ne a b) (λ e. let z = rw (eq-eqb a b e) at h in absurd (omega arith))
          (λ ne.
          let z = sum_to_none (edges G) between (λ j l. by (eqb (via row G.starts j) a && eqb (via row G.ends j) b) (λ q. absurd (missing j l ne q t)) (λ q. rw q)) in
          let y = rw (ne_eqb a b ne, z) at h in absurd (omega arith)))
        where
          missing : (j : ℕ) → j < edges G → (a ≡ b → ⊥) → (eqb (via row G.starts j) a && eqb (via row G.ends j) b) ≡ true → edge (seen G row) a b ≡ false → ⊥
          missing j l ne q t =
              let (p, r) = both (eqb (via row G.starts j) a) (eqb (via row G.ends j) b) q in
              let ea = eqb-true (via row G.starts j) a p in
              let eb = eqb-true (via row G.ends j) b r in
              let y = arc_edge (seen G row) j l (λ z. ne (sym ea ∙ z ∙ eb)) in
              let x : edge (seen G row) a b ≡ true = rw (ea, eb) at y in
              let z : ◌≡◌ {A = ℕ} 0 1 = cc in omega arith

      back : Edge (seen G row) a b → 0 < when (not (eqb a b)) (sum_to (edges G) between)
      back t =
          let (j, l, ea, eb) = edge_arc (seen G row) a b t in
          let m : between j ≤ sum_to (edges G) between = sum_to_member (edges G) between j l in
          let q : between j ≡ get_or G.widths j 0 = rw (eq-eqb (via row G.starts j) a ea, eq-eqb (via row G.ends j) b eb) in
          rw (ne_eqb a b (edge_other (seen G row) a b t)) (omega (arith, wide j l))
