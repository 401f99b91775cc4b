-- The laws of the topological order: on an acyclic graph it takes all and every edge goes up; where it does not take all there is a cycle.
use Prim.Native.Nat.{ℕ, zero, suc, ◌+◌, ◌≤◌, ◌<◌}
use mathlib.Core.Path.{◌≡◌, refl, sym, ap, ◌∙◌}
use mathlib.Core.Bool.{Bool, true, false, not, ◌&&◌}
use mathlib.Core.Logic.{◌⊎◌, inl, inr, ◌↔◌}
use mathlib.Core.List.{List, [], ◌∷◌}
use native.Mathlib.Nat.{not-suc-le-zero, suc_inj, le_of_suc-le-suc}
use native.Mathlib.Omega.{arith}
use lib.Dec.{eqb, ltb}
use lib.ListN.{length, get_or, set, length-set}
use lib.Seq.{get_or-set_same, get_or-set_other}
use borrow.Author.Tests.{eqb-true, eqb-false, eq-eqb, ne_eqb, ltb-true, ltb-false}
use Rattle.folds.specs.Fold.{when, sum_to, count_to, first_to, any_to, zeros}
use Rattle.folds.proofs.Cases.{no_bool, by, either, eq_or_ne, both, not_yes, not_no}
use Rattle.folds.proofs.Sums.{with, count_to_le, count_to_with, count_to_all, count_to_ext, sum_to_member, sum_to_none}
use Rattle.folds.proofs.Searches.{first_to_le, first_to_hit, first_to_least, first_to_none, any_e, any_none}
use Rattle.folds.proofs.Lists.{get_d_zeros, length-zeros}
use Rattle.graph.specs.Walk.{Walk, Cycle, Acyclic}
use Rattle.graph.specs.Graph.{Arcs, Edge, Inside}
use Rattle.graph.proofs.Walks.{rank_law, with_next}
use Rattle.graph.proofs.Edges.{arc_edge, edge_arc, edge_other, edge_inside}
use Rattle.topology.specs.Order.{waits, ready, or_none, order_from, order_of, place_in}

-- v is not taken
abbrev pub unmarked : List ℕ → ℕ → Bool
unmarked marks v = eqb (get_or marks v 0) 0

unmarked_other : (marks : List ℕ) (u v : ℕ) → u < length marks → unmarked (set marks u 1) v ≡ true → (v ≡ u → ⊥) × (unmarked marks v ≡ true)
unmarked_other marks u v l t =
    let n : v ≡ u → ⊥ = λ e. let z : ◌≡◌ {A = ℕ} 1 0 = sym (get_or-set_same marks u 1 0 l) ∙ ap (λ (x : ℕ). get_or (set marks u 1) x 0) (sym e) ∙ eqb-true _ _ t in omega arith in
    (n, rw (get_or-set_other marks u v 1 0 n) at t)

-- one is taken: one fewer is left
unmarked_with : (u v : ℕ) (marks : List ℕ) → unmarked marks u ≡ true → unmarked marks v ≡ with (unmarked (set marks u 1)) u v
unfolding with
unmarked_with u v marks t =
    either (eq_or_ne v u) (λ e. rw (e, eq-eqb u u refl) t) (λ n. rw (ne_eqb v u n, get_or-set_other marks u v 1 0 n))

unmarked_count : (g u : ℕ) (marks : List ℕ) → u < g → u < length marks → unmarked marks u ≡ true → count_to g (unmarked marks) ≡ suc (count_to g (unmarked (set marks u 1)))
unmarked_count g u marks lg l t =
    count_to_ext g _ _ (λ v _. unmarked_with u v marks t) ∙ count_to_with g (unmarked (set marks u 1)) u lg (rw (get_or-set_same marks u 1 0 l))

-- what is taken was not, and none of its predecessors waits
ready_unmarked : (A : Arcs) (g : ℕ) (marks : List ℕ) → first_to g (ready A marks) < g → unmarked marks (first_to g (ready A marks)) ≡ true
unfolding ready
ready_unmarked A g marks l = (both (unmarked marks (first_to g (ready A marks))) _ (first_to_hit g (ready A marks) l)).0

ready_after : (A : Arcs) (g : ℕ) (marks : List ℕ) → first_to g (ready A marks) < g → (u : ℕ) → Edge A u (first_to g (ready A marks)) → unmarked marks u ≡ false
unfolding ready waits
ready_after A g marks l u e =
    let v = first_to g (ready A marks) in
    let none = not_yes _ (both (unmarked marks v) _ (first_to_hit g (ready A marks) l)).1 in
    let (j, h, eu, ev) = edge_arc A u v e in
    let w = any_none A.count (waits A marks v) none j h in
    let n : eqb (A.from j) v ≡ false = ne_eqb (A.from j) v (λ z. edge_other A u v e (sym eu ∙ z)) in
    rw (eu) at (rw (eq-eqb (A.to j) v ev, n) at w)

module _ (A : Arcs) (g : ℕ) (inside : Inside A g) where
  -- where none is ready, each that is not taken has a predecessor that is not taken
  waiting : (marks : List ℕ) → first_to g (ready A marks) ≡ g → (v : ℕ) → v < g → unmarked marks v ≡ true → (u : ℕ) × (u < g) × (unmarked marks u ≡ true) × Edge A u v
  unfolding ready waits
  waiting marks none v l t =
      let r : (unmarked marks v && not (any_to A.count (waits A marks v))) ≡ false = first_to_none g (ready A marks) none v l in
      let w : any_to A.count (waits A marks v) ≡ true = not_no _ (rw t at r) in
      let (j, h, e) = any_e A.count (waits A marks v) w in
      let (into, rest) = both (eqb (A.to j) v) _ e in
      let (other, left) = both (not (eqb (A.from j) v)) _ rest in
      let q = eqb-true (A.to j) v into in
      let n : A.from j ≡ v → ⊥ = eqb-false (A.from j) v (not_yes _ other) in
      (A.from j, (inside j h).0, left, rw q at (arc_edge A j h (λ z. n (z ∙ q))))

  -- going back through them more often than there are numbers passes one twice
  stuck : (marks : List ℕ) → first_to g (ready A marks) ≡ g → (fuel v : ℕ) → v < g → unmarked marks v ≡ true
      → (p : ℕ → Bool) → ((x : ℕ) → p x ≡ true → Walk (Edge A) v x) → g ≤ fuel + count_to g p → Cycle (Edge A)
  unfolding Cycle
  stuck marks none zero v l t p after full =
      by (p v) (λ y. (v, after v y)) (λ f. absurd (omega (arith, count_to_with g p v l f, count_to_le g (with p v))))
  stuck marks none (suc fuel) v l t p after full =
      by (p v) (λ y. (v, after v y))
      (λ f.
      let (u, lu, tu, e) = waiting marks none v l t in
      stuck marks none fuel u lu tu (with p v) (with_next p e after) (omega (arith, count_to_with g p v l f)))

  some_left : (marks : List ℕ) (k : ℕ) → count_to g (unmarked marks) ≡ suc k → (v : ℕ) × (v < g) × (unmarked marks v ≡ true)
  unfolding count_to
  some_left marks k e =
      by (any_to g (unmarked marks)) (λ t. any_e g (unmarked marks) t)
      (λ f. absurd (omega (arith, sum_to_none g (λ v. when (unmarked marks v) 1) (λ v l. rw (any_none g (unmarked marks) f v l)))))

  -- it takes all that are left, or there is a cycle
  takes : (k : ℕ) (marks : List ℕ) → g ≤ length marks → count_to g (unmarked marks) ≡ k → (length (order_from A g k marks) ≡ k) ⊎ Cycle (Edge A)
  unfolding order_from or_none
  takes zero marks n e = inl refl
  takes (suc k) marks n e =
      by (ltb (first_to g (ready A marks)) g)
      (λ t.
      let l = ltb-true (first_to g (ready A marks)) g t in
      let u = first_to g (ready A marks) in
      let m : unmarked marks u ≡ true = ready_unmarked A g marks l in
      either (takes k (set marks u 1) (rw (length-set marks u 1) n) (suc_inj (sym (unmarked_count g u marks l (omega arith) m) ∙ e)))
      (λ h. inl (rw t (ap suc h))) (λ c. inr c))
      (λ f.
      let (v, l, t) = some_left marks k e in
      let none : first_to g (ready A marks) ≡ g = omega (arith, first_to_le g (ready A marks), ltb-false (first_to g (ready A marks)) g f) in
      inr (stuck marks none g v l t (λ x. false) (λ x z. absurd (no_bool z)) (omega arith)))

-- what the order takes, from marks: numbers below g, each once, none taken before, each after its predecessors
pub record Takes (A : Arcs) (g : ℕ) (marks l : List ℕ) : Type 0 where
  pub below : (i : ℕ) → i < length l → get_or l i 0 < g
  pub fresh : (i : ℕ) → i < length l → unmarked marks (get_or l i 0) ≡ true
  pub once : (i j : ℕ) → i < length l → j < length l → get_or l i 0 ≡ get_or l j 0 → i ≡ j
  pub after : (i u : ℕ) → i < length l → Edge A u (get_or l i 0) → (unmarked marks u ≡ false) ⊎ ((j : ℕ) × (j < i) × (get_or l j 0 ≡ u))

takes_none : (A : Arcs) (g : ℕ) (marks : List ℕ) → Takes A g marks []
takes_none A g marks =
    record {
      below = λ i h. absurd (not-suc-le-zero h);
      fresh = λ i h. absurd (not-suc-le-zero h);
      once = λ i j h. absurd (not-suc-le-zero h);
      after = λ i u h. absurd (not-suc-le-zero h);
    }

module _ (A : Arcs) (g : ℕ) (marks l : List ℕ) (v : ℕ) (lv : v < g) (room : v < length marks) (free : unmarked marks v ≡ true)
    (preds : (u : ℕ) → Edge A u v → unmarked marks u ≡ false) (T : Takes A g (set marks v 1) l) where
  cons_below : (i : ℕ) → i < suc (length l) → get_or (v ∷ l) i 0 < g
  cons_below zero h = lv
  cons_below (suc i) h = T.below i (le_of_suc-le-suc h)

  cons_fresh : (i : ℕ) → i < suc (length l) → unmarked marks (get_or (v ∷ l) i 0) ≡ true
  cons_fresh zero h = free
  cons_fresh (suc i) h = (unmarked_other marks v (get_or l i 0) room (T.fresh i (le_of_suc-le-suc h))).1

  not_v : (i : ℕ) → i < length l → get_or l i 0 ≡ v → ⊥
  not_v i h = (unmarked_other marks v (get_or l i 0) room (T.fresh i h)).0

  cons_once : (i j : ℕ) → i < suc (length l) → j < suc (length l) → get_or (v ∷ l) i 0 ≡ get_or (v ∷ l) j 0 → i ≡ j
  cons_once zero zero h k e = refl
  cons_once zero (suc j) h k e = absurd (not_v j (le_of_suc-le-suc k) (sym e))
  cons_once (suc i) zero h k e = absurd (not_v i (le_of_suc-le-suc h) e)
  cons_once (suc i) (suc j) h k e = ap suc (T.once i j (le_of_suc-le-suc h) (le_of_suc-le-suc k) e)

  cons_after : (i u : ℕ) → i < suc (length l) → Edge A u (get_or (v ∷ l) i 0) → (unmarked marks u ≡ false) ⊎ ((j : ℕ) × (j < i) × (get_or (v ∷ l) j 0 ≡ u))
  cons_after zero u h e = inl (preds u e)
  cons_after (suc i) u h e =
      either (T.after i u (le_of_suc-le-suc h) e)
      (λ f. either (eq_or_ne u v) (λ q. inr (0, omega arith, sym q)) (λ n. inl (rw (get_or-set_other marks v u 1 0 n) at f)))
      (λ w. inr (suc w.0, omega (arith, w.1), w.2))

  takes_cons : Takes A g marks (v ∷ l)
  takes_cons = record { below = cons_below; fresh = cons_fresh; once = cons_once; after = cons_after }

order_takes : (A : Arcs) (g k : ℕ) (marks : List ℕ) → g ≤ length marks → Takes A g marks (order_from A g k marks)
unfolding order_from or_none
order_takes A g zero marks n = takes_none A g marks
order_takes A g (suc k) marks n =
    by (ltb (first_to g (ready A marks)) g)
    (λ t.
    let l = ltb-true (first_to g (ready A marks)) g t in
    rw t
    (takes_cons A g marks _ (first_to g (ready A marks)) l (omega arith) (ready_unmarked A g marks l) (ready_after A g marks l)
    (order_takes A g k (set marks (first_to g (ready A marks)) 1) (rw (length-set marks (first_to g (ready A marks)) 1) n))))
    (λ f. rw f (takes_none A g marks))

-- the order takes no more than there are
from_few : (A : Arcs) (g k : ℕ) (marks : List ℕ) → length (order_from A g k marks) ≤ k
unfolding order_from or_none
from_few A g zero marks = omega arith
from_few A g (suc k) marks =
    let v = first_to g (ready A marks) in
    by (ltb v g) (λ t. rw t (omega (arith, from_few A g k (set marks v 1)))) (λ t. rw t (omega arith))

pub order_few : (A : Arcs) (g : ℕ) → length (order_of A g) ≤ g
unfolding order_of
order_few A g = from_few A g g (zeros g)

-- each that is left is taken, where as many are taken as are left
order_onto : (A : Arcs) (g k : ℕ) (marks : List ℕ) → g ≤ length marks → count_to g (unmarked marks) ≡ k → length (order_from A g k marks) ≡ k
    → (v : ℕ) → v < g → unmarked marks v ≡ true → (i : ℕ) × (i < k) × (get_or (order_from A g k marks) i 0 ≡ v)
unfolding order_from or_none count_to
order_onto A g zero marks n e h v l t =
    let m : when (unmarked marks v) 1 ≤ sum_to g (λ x. when (unmarked marks x) 1) = sum_to_member g (λ x. when (unmarked marks x) 1) v l in
    let w = rw t at m in absurd (omega arith)
order_onto A g (suc k) marks n e h v l t =
    by (ltb (first_to g (ready A marks)) g)
    (λ y.
    let u = first_to g (ready A marks) in
    let lu = ltb-true u g y in
    either (eq_or_ne v u) (λ q. rw y (0, omega arith, sym q))
    (λ q.
    let (i, li, ei) = order_onto A g k (set marks u 1) (rw (length-set marks u 1) n)
    (suc_inj (sym (unmarked_count g u marks lu (omega arith) (ready_unmarked A g marks lu)) ∙ e)) (suc_inj (rw y at h)) v l (rw (get_or-set_other marks u v 1 0 q) t) in
    rw y (suc i, omega arith, ei)))
    (λ f. let z = rw f at h in absurd (omega (arith, z)))

module _ (A : Arcs) (g : ℕ) (inside : Inside A g) where
  tall : g ≤ length (zeros g)
  tall = omega (arith, length-zeros g)

  all_unmarked : count_to g (unmarked (zeros g)) ≡ g
  all_unmarked = count_to_all g _ (λ v _. rw (get_d_zeros g v))

  -- THE ORDER LAWS. It takes all, or there is a cycle:
  pub order_all_or : (length (order_of A g) ≡ g) ⊎ Cycle (Edge A)
  unfolding order_of
  order_all_or = takes A g inside g (zeros g) tall all_unmarked

  pub order_all : Acyclic (Edge A) → length (order_of A g) ≡ g
  unfolding Acyclic
  order_all ac = either order_all_or (λ e. e) (λ c. absurd (ac c))

  takes_zeros : Takes A g (zeros g) (order_of A g)
  unfolding order_of
  takes_zeros = order_takes A g g (zeros g) tall

  -- each place has another number below g
  pub order_below : (i : ℕ) → i < length (order_of A g) → get_or (order_of A g) i 0 < g
  order_below = takes_zeros.below

  pub order_once : (i j : ℕ) → i < length (order_of A g) → j < length (order_of A g) → get_or (order_of A g) i 0 ≡ get_or (order_of A g) j 0 → i ≡ j
  order_once = takes_zeros.once

  -- what goes into one that is taken was taken before it
  pub order_before : (i u : ℕ) → i < length (order_of A g) → Edge A u (get_or (order_of A g) i 0) → (j : ℕ) × (j < i) × (get_or (order_of A g) j 0 ≡ u)
  order_before i u l e = either (takes_zeros.after i u l e) (λ f. absurd (no_bool (sym f ∙ eq-eqb _ 0 (get_d_zeros g u)))) (λ w. w)

  module _ (all : length (order_of A g) ≡ g) where
    -- a number below g stands at its place, and a place is that of what stands there
    pub place_in_at : (v : ℕ) → v < g → (place_in (order_of A g) v < g) × (get_or (order_of A g) (place_in (order_of A g) v) 0 ≡ v)
    unfolding order_of place_in
    place_in_at v l =
        let (i, li, ei) = order_onto A g g (zeros g) tall all_unmarked all v l (rw (get_d_zeros g v)) in
        let p : ℕ → Bool = λ x. eqb (get_or (order_of A g) x 0) v in
        let f = first_to_least (length (order_of A g)) p i (eq-eqb _ v ei) in
        (omega arith, eqb-true _ _ (first_to_hit (length (order_of A g)) p (omega (arith, all))))

    pub place_of : (i : ℕ) → i < g → place_in (order_of A g) (get_or (order_of A g) i 0) ≡ i
    place_of i l =
        let (h, e) = place_in_at (get_or (order_of A g) i 0) (order_below i (omega (arith, all))) in
        order_once _ i (omega (arith, all)) (omega (arith, all)) e

    -- every edge goes from a lower to a higher place
    pub order_rises : (a b : ℕ) → Edge A a b → place_in (order_of A g) a < place_in (order_of A g) b
    order_rises a b e =
        let (la, lb) = edge_inside A g inside a b e in
        let (h, q) = place_in_at b lb in
        let (j, lj, ej) = order_before (place_in (order_of A g) b) a (omega (arith, all)) (rw q e) in
        let k = place_of j (omega arith) in let r : place_in (order_of A g) a ≡ j = sym (ap (place_in (order_of A g)) ej) ∙ k in omega arith

    pub all_acyclic : Acyclic (Edge A)
    all_acyclic = rank_law (Edge A) (place_in (order_of A g)) order_rises

  -- it takes all exactly if there is no cycle
  pub order_exactly : (length (order_of A g) ≡ g) ↔ Acyclic (Edge A)
  order_exactly = (λ e. all_acyclic e, order_all)
