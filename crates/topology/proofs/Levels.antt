-- The laws of levels: a level is the number of edges on the longest path that ends there.
use Prim.Native.Nat.{ℕ, zero, suc, ◌+◌, ◌-◌, ◌<◌, ◌≤◌}
use mathlib.Core.Path.{◌≡◌, refl, sym, ap, ◌∙◌}
use mathlib.Core.Bool.{Bool, true, false, not, ◌&&◌}
use mathlib.Core.List.{List, ◌++◌}
use native.Mathlib.Nat.{le_of_suc-le-suc}
use native.Mathlib.Omega.{arith}
use lib.Dec.{eqb, ltb}
use lib.ListN.{length, get_or, drop, get_or-append}
use lib.Seq.{get_or-append-add, get_or-drop}
use borrow.Author.Tests.{eqb-true, eqb-false, eq-eqb, ne_eqb, ltb-true, ltb-false}
use Rattle.folds.specs.Fold.{when, max_to, over, zeros}
use Rattle.folds.proofs.Cases.{by, either, both, not_yes}
use Rattle.folds.proofs.Searches.{max_ge, max_at}
use Rattle.folds.proofs.Lists.{get_d_list_to, get_d_past, get_d_zeros, length-list_to, length-zeros}
use Rattle.graph.specs.Walk.{Path, here, step, Acyclic}
use Rattle.graph.specs.Graph.{Arcs, Edge, Inside}
use Rattle.graph.proofs.Walks.{path_short}
use Rattle.graph.proofs.Edges.{arc_edge, edge_arc, edge_other, edge_inside}
use Rattle.topology.specs.Level.{rise, levels_after, levels_of, level}

module _ (A : Arcs) where
  -- what an edge says of v's level is the length of a path to v, where the level of the edge's start is one
  rise_path : (levels : List ℕ) (v j : ℕ) → j < A.count → Path (Edge A) (get_or levels (A.from j) 0) (A.from j) → Path (Edge A) (rise A levels v j) v
  unfolding rise
  rise_path levels v j h q = go (eqb (A.to j) v && not (eqb (A.from j) v)) refl
    where
      go : (b : Bool) → (eqb (A.to j) v && not (eqb (A.from j) v)) ≡ b → Path (Edge A) (when b (suc (get_or levels (A.from j) 0))) v
      go true e =
          let (p, q') = both (eqb (A.to j) v) (not (eqb (A.from j) v)) e in
          let ev = eqb-true (A.to j) v p in
          let ne = eqb-false (A.from j) v (not_yes (eqb (A.from j) v) q') in
          step q (rw ev at (arc_edge A j h (λ z. ne (z ∙ ev))))
      go false e = here

  -- an edge from u says that v's level is above u's
  pub rise_edge : (levels : List ℕ) (u v : ℕ) → Edge A u v → get_or levels u 0 < max_to A.count (rise A levels v)
  unfolding rise
  rise_edge levels u v t =
      let (j, h, eu, ev) = edge_arc A u v t in
      let r : suc (get_or levels u 0) ≡ rise A levels v j = rw (eu, ev, eq-eqb v v refl, ne_eqb u v (edge_other A u v t)) refl in
      omega (arith, max_ge A.count (rise A levels v) j h)

  module _ (g : ℕ) where
    after_at : (r v : ℕ) → v < g → get_or (levels_after A g (suc r)) v 0 ≡ max_to A.count (rise A (levels_after A g r) v)
    unfolding levels_after
    after_at r v h = get_d_list_to g _ v h

    length_after : (r : ℕ) → length (levels_after A g r) ≡ g
    unfolding levels_after
    length_after zero = length-zeros g
    length_after (suc r) = length-list_to g _

    pub length_levels : length (levels_of A g) ≡ g
    unfolding levels_of
    length_levels = length_after g

    module _ (inside : Inside A g) where
      -- after any number of rounds there is a path as long as the level
      path_after : (r v : ℕ) → v < g → Path (Edge A) (get_or (levels_after A g r) v 0) v
      unfolding levels_after
      path_after zero v h = rw (get_d_zeros g v) here
      path_after (suc r) v h =
          rw (after_at r v h)
          (either (max_at A.count (rise A (levels_after A g r) v)) (λ z. rw z here)
          (λ w. rw w.2 (rise_path (levels_after A g r) v w.0 w.1 (path_after r (A.from w.0) (inside w.0 w.1).0))))

      -- after r rounds the level is no less than the length of a path of at most r edges
      after_path : (r : ℕ) {i v : ℕ} → Path (Edge A) i v → i ≤ r → v < g → i ≤ get_or (levels_after A g r) v 0
      after_path r here l h = omega arith
      after_path zero (step q e) l h = omega arith
      after_path (suc r) (step {u = u} {v = v} q e) l h =
          rw (after_at r v h)
          (omega (arith, rise_edge (levels_after A g r) u v e, after_path r q (le_of_suc-le-suc l) (edge_inside A g inside u v e).0))

      -- THE LEVEL LAWS: v's level is the number of edges of some path that ends at v ..
      pub level_path : (v : ℕ) → v < g → Path (Edge A) (level A g v) v
      unfolding level levels_of
      level_path v h = path_after g v h

      module _ (acyclic : Acyclic (Edge A)) where
        -- .. and no path that ends at v has more
        pub path_level : {i v : ℕ} → Path (Edge A) i v → v < g → i ≤ level A g v
        unfolding level levels_of
        path_level q h =
            after_path g q (omega (arith, path_short (Edge A) g (λ a b t. (edge_inside A g inside a b t).0) acyclic q h)) h

        -- an edge raises the level
        pub level_rises : (u v : ℕ) → Edge A u v → level A g u < level A g v
        level_rises u v t =
            let (hu, hv) = edge_inside A g inside u v t in path_level (step (level_path u hu) t) hv

        -- a level above 0 comes from an edge
        pub level_from : (v : ℕ) → v < g → 0 < level A g v → (u : ℕ) × Edge A u v × (level A g v ≡ level A g u + 1)
        level_from v h p = go (level_path v h) refl p
          where
            go : {i : ℕ} → Path (Edge A) i v → i ≡ level A g v → 0 < i → (u : ℕ) × Edge A u v × (level A g v ≡ level A g u + 1)
            go here e p = absurd (omega arith)
            go (step {u = u} q t) e p = (u, t, omega (arith, level_rises u v t, path_level q (edge_inside A g inside u v t).0))

-- past the clusters the level is 0
pub level_past : (A : Arcs) (g v : ℕ) → g ≤ v → level A g v ≡ 0
unfolding level
level_past A g v l = get_d_past (levels_of A g) v (rw (length_levels A g) l)

-- what stands in the array of levels
pub over-level : (A : Arcs) (g v : ℕ) → get_or (over (levels_of A g) (zeros 512)) v 0 ≡ level A g v
unfolding over level
over-level A g v =
    by (ltb v (length (levels_of A g)))
    (λ t. get_or-append (levels_of A g) _ 0 v (ltb-true v _ t))
    (λ t.
    let h = ltb-false v (length (levels_of A g)) t in
    let e : v ≡ length (levels_of A g) + (v - length (levels_of A g)) = omega arith in
    ap (λ (z : ℕ). get_or (levels_of A g ++ drop (length (levels_of A g)) (zeros 512)) z 0) e
    ∙ get_or-append-add (levels_of A g) (drop (length (levels_of A g)) (zeros 512)) (v - length (levels_of A g)) 0
    ∙ get_or-drop (length (levels_of A g)) (zeros 512) (v - length (levels_of A g)) 0
    ∙ get_d_zeros 512 _ ∙ sym (get_d_past (levels_of A g) v h))
