-- What is reached is what a walk goes to, and on a cycle is what a walk comes back to, both ways.
use Prim.Native.Nat.{ℕ, zero, suc, ◌≤◌, ◌<◌}
use mathlib.Core.Path.{◌≡◌, refl, sym, ap, ◌∙◌}
use mathlib.Core.Bool.{Bool, true, false, not, ◌&&◌, ◌||◌}
use mathlib.Core.Logic.{◌⊎◌, inl, inr}
use mathlib.Core.List.{List}
use native.Mathlib.Omega.{arith}
use lib.Dec.{eqb, ltb}
use lib.ListN.{length, get_or}
use borrow.Author.Tests.{eqb-true, eqb-false, eq-eqb, ne_eqb, ltb-true, ltb-false}
use Rattle.folds.specs.Fold.{when, count_to, first_to, any_to, list_to}
use Rattle.folds.proofs.Cases.{no_bool, by, either, one_of, or_l, or_r, both, both_i, not_yes, same_test}
use Rattle.folds.proofs.Sums.{count_to_le, count_to_grows}
use Rattle.folds.proofs.Searches.{first_to_hit, first_to_least, first_to_all, any_i, any_e, any_none}
use Rattle.folds.proofs.Lists.{get_d_list_to, length-list_to, list_to_ext, get_d_past}
use Rattle.graph.specs.Walk.{Walk, one, more, Cycle, Acyclic}
use Rattle.graph.specs.Graph.{Arcs, edge, Edge, Inside}
use Rattle.graph.proofs.Edges.{arc_edge, edge_arc, edge_other, edge_inside}
use Rattle.topology.specs.Order.{order_of}
use Rattle.topology.proofs.Orders.{all_acyclic}
use Rattle.topology.specs.Reach.{spreads, grown, reached_after, on_cycle, lowest_on_cycle}

abbrev hit : List ℕ → ℕ → Bool
hit marks x = eqb (get_or marks x 0) 1

-- a list of marks, read back
when_hit : (t : Bool) → eqb (when t 1) 1 ≡ t
when_hit true = refl
when_hit false = refl

hit_list_to : (g : ℕ) (p : ℕ → Bool) (x : ℕ) → x < g → hit (list_to g (λ k. when (p k) 1)) x ≡ p x
hit_list_to g p x l = rw (get_d_list_to g (λ k. when (p k) 1) x l) (when_hit (p x))

hit_below : (marks : List ℕ) (x : ℕ) → hit marks x ≡ true → x < length marks
hit_below marks x t =
    by (ltb x (length marks)) (λ e. ltb-true _ _ e)
    (λ e. absurd (let z : ◌≡◌ {A = ℕ} 0 1 = sym (get_d_past marks x (ltb-false x (length marks) e)) ∙ eqb-true _ _ t in omega arith))

module _ (A : Arcs) (g v : ℕ) where
  abbrev set_of : ℕ → List ℕ
  set_of r = reached_after A g v r

  set_length : (r : ℕ) → length (set_of r) ≡ g
  unfolding reached_after grown
  set_length zero = length-list_to g _
  set_length (suc r) = length-list_to g _

  set_below : (r x : ℕ) → hit (set_of r) x ≡ true → x < g
  set_below r x t = rw (set_length r) at (hit_below (set_of r) x t)

  spreads_edge : (marks : List ℕ) (x : ℕ) → any_to A.count (spreads A marks x) ≡ true → (u : ℕ) × (hit marks u ≡ true) × Edge A u x
  unfolding spreads
  spreads_edge marks x t =
      let (j, h, e) = any_e A.count (spreads A marks x) t in
      let (into, rest) = both (eqb (A.to j) x) _ e in
      let (other, m) = both (not (eqb (A.from j) x)) _ rest in
      let q = eqb-true (A.to j) x into in
      (A.from j, m, rw q at (arc_edge A j h (λ z. eqb-false (A.from j) x (not_yes _ other) (z ∙ q))))

  edge_spreads : (marks : List ℕ) (u x : ℕ) → hit marks u ≡ true → Edge A u x → any_to A.count (spreads A marks x) ≡ true
  unfolding spreads
  edge_spreads marks u x m e =
      let (j, h, eu, ex) = edge_arc A u x e in
      let n : A.from j ≡ x → ⊥ = λ z. edge_other A u x e (sym eu ∙ z) in
      any_i A.count (spreads A marks x) j h (rw (eq-eqb (A.to j) x ex, ne_eqb (A.from j) x n, eu) m)

  hit_next : (r x : ℕ) → x < g → hit (set_of (suc r)) x ≡ (hit (set_of r) x || any_to A.count (spreads A (set_of r) x))
  unfolding reached_after grown
  hit_next r x l = hit_list_to g (λ k. hit (set_of r) k || any_to A.count (spreads A (set_of r) k)) x l

  -- what is reached, a walk goes to
  pub reached_walk : (r x : ℕ) → hit (set_of r) x ≡ true → Walk (Edge A) v x
  unfolding reached_after grown
  reached_walk zero x t = one (sym (hit_list_to g (edge A v) x (set_below 0 x t)) ∙ t)
  reached_walk (suc r) x t =
      either (one_of (hit (set_of r) x) (any_to A.count (spreads A (set_of r) x)) (sym (hit_next r x (set_below (suc r) x t)) ∙ t))
      (λ h. reached_walk r x h)
      (λ a. let (u, h, e) = spreads_edge (set_of r) x a in more (reached_walk r u h) e)

  -- what was reached stays so, and what it has an edge to is reached next
  stays : (r x : ℕ) → hit (set_of r) x ≡ true → hit (set_of (suc r)) x ≡ true
  stays r x t = hit_next r x (set_below r x t) ∙ or_l (hit (set_of r) x) _ t

  goes_on : (r u x : ℕ) → x < g → hit (set_of r) u ≡ true → Edge A u x → hit (set_of (suc r)) x ≡ true
  goes_on r u x l t e = hit_next r x l ∙ or_r (hit (set_of r) x) _ (edge_spreads (set_of r) u x t e)

  from_first : (r x : ℕ) → hit (set_of 0) x ≡ true → hit (set_of r) x ≡ true
  from_first zero x t = t
  from_first (suc r) x t = stays r x (from_first r x t)

  -- a round reaches nothing new, or more than before
  listed_hits : (r : ℕ) → set_of r ≡ list_to g (λ x. when (hit (set_of r) x) 1)
  unfolding reached_after grown
  listed_hits zero = list_to_ext g _ _ (λ x l. rw (hit_list_to g (edge A v) x l))
  listed_hits (suc r) = list_to_ext g _ _ (λ x l. rw (hit_list_to g (λ k. hit (set_of r) k || any_to A.count (spreads A (set_of r) k)) x l))

  grows : (r : ℕ) → (set_of (suc r) ≡ set_of r) ⊎ (count_to g (hit (set_of r)) < count_to g (hit (set_of (suc r))))
  grows r =
      by (any_to g (λ x. hit (set_of (suc r)) x && not (hit (set_of r) x)))
      (λ t.
      let (x, l, e) = any_e g _ t in
      let (new, old) = both (hit (set_of (suc r)) x) _ e in
      inr (count_to_grows g (hit (set_of r)) (hit (set_of (suc r))) x l (stays r) (not_yes _ old) new))
      (λ f. inl (listed_hits (suc r) ∙ list_to_ext g _ _ (λ x l. ap (λ (b : Bool). when b 1) (same_test (hit (set_of (suc r)) x) (hit (set_of r) x)
      (λ t. by (hit (set_of r) x) (λ h. h) (λ n. absurd (no_bool (sym (any_none g _ f x l) ∙ both_i (hit (set_of (suc r)) x) _ t (rw n refl)))))
      (stays r x))) ∙ sym (listed_hits r)))

  settles : (r : ℕ) → (set_of (suc r) ≡ set_of r) ⊎ (r ≤ count_to g (hit (set_of r)))
  unfolding reached_after
  settles zero = inr (omega arith)
  settles (suc r) =
      either (settles r) (λ e. inl (ap (grown A g) e))
      (λ h. either (grows r) (λ e. inl (ap (grown A g) e)) (λ l. inr (omega arith)))

  settled : set_of (suc g) ≡ set_of g
  settled = either (settles g) (λ e. e) (λ h. either (grows g) (λ e. e) (λ l. absurd (omega (arith, count_to_le g (hit (set_of (suc g)))))))

  -- what a walk goes to, is reached
  pub walk_reached : Inside A g → (x : ℕ) → Walk (Edge A) v x → hit (set_of g) x ≡ true
  unfolding reached_after
  walk_reached inside x (one e) = from_first g x (hit_list_to g (edge A v) x (edge_inside A g inside v x e).1 ∙ e)
  walk_reached inside x (more {b = u} w e) =
      rw settled at (goes_on g u x (edge_inside A g inside u x e).1 (walk_reached inside u w) e)

module _ (A : Arcs) (g : ℕ) where
  pub on_cycle_walk : (v : ℕ) → on_cycle A g v ≡ true → Walk (Edge A) v v
  unfolding on_cycle
  on_cycle_walk v t = reached_walk A g v _ v t

  module _ (inside : Inside A g) where
    pub walk_on_cycle : (v : ℕ) → Walk (Edge A) v v → on_cycle A g v ≡ true
    unfolding on_cycle
    walk_on_cycle v w = walk_reached A g v inside v w

    walk_inside : {a b : ℕ} → Walk (Edge A) a b → b < g
    walk_inside (one e) = (edge_inside A g inside _ _ e).1
    walk_inside (more w e) = (edge_inside A g inside _ _ e).1

    -- the lowest on a cycle is on one, nothing lower is, and it is g exactly where there is none
    pub lowest_least : (v : ℕ) → Walk (Edge A) v v → lowest_on_cycle A g ≤ v
    unfolding lowest_on_cycle
    lowest_least v w = first_to_least g (on_cycle A g) v (walk_on_cycle v w)

    pub lowest_cycle : lowest_on_cycle A g < g → Walk (Edge A) (lowest_on_cycle A g) (lowest_on_cycle A g)
    unfolding lowest_on_cycle
    lowest_cycle l = on_cycle_walk (first_to g (on_cycle A g)) (first_to_hit g (on_cycle A g) l)

    pub lowest_none : Acyclic (Edge A) → lowest_on_cycle A g ≡ g
    unfolding lowest_on_cycle Acyclic Cycle
    lowest_none ac = first_to_all g (on_cycle A g) (λ v _. by (on_cycle A g v) (λ t. absurd (ac (v, on_cycle_walk v t))) (λ f. f))

    pub lowest_some : Cycle (Edge A) → lowest_on_cycle A g < g
    unfolding Cycle
    lowest_some (v, w) = omega (arith, lowest_least v w, walk_inside w)

    pub none_acyclic : lowest_on_cycle A g ≡ g → Acyclic (Edge A)
    unfolding Acyclic
    none_acyclic e c = omega (arith, lowest_some c)

    -- the order took all: none lies on a cycle
    pub all_taken : {count : ℕ} → count ≡ length (order_of A g) → count ≡ g → g ≡ lowest_on_cycle A g
    all_taken e q = sym (lowest_none (all_acyclic A g inside (sym e ∙ q)))
