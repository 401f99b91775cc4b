-- What an order takes lies on no cycle, nor what the order of the edges turned round takes.
use Prim.Native.Nat.{ℕ, ◌+◌, ◌≤◌, ◌<◌}
use mathlib.Core.Path.{◌≡◌, refl, sym, ap, ◌∙◌}
use mathlib.Core.Bool.{Bool, true, false}
use mathlib.Core.Logic.{inl, inr}
use mathlib.Core.List.{List}
use native.Mathlib.Omega.{arith}
use Rattle.std.proofs.Common.{get_or-take}
use lib.ListN.{length, get_or, set, take, replicate, length-set, length-take, get_or-append}
use lib.Seq.{get_or-set_other}
use Rattle.folds.specs.Fold.{over}
use Rattle.folds.proofs.Cases.{no_bool, by, either, eq_or_ne}
use Rattle.ordering.proofs.Searching.{none_marked}
use Rattle.graph.specs.Walk.{Walk, one, more}
use Rattle.graph.specs.Graph.{Arcs, joining, Edge, Inside}
use Rattle.graph.specs.Links.{Ended}
use Rattle.graph.proofs.Walks.{ahead}
use Rattle.graph.proofs.Edges.{arc_edge, edge_arc, edge_other}
use Rattle.topology.specs.Order.{order_of}
use Rattle.topology.specs.Reach.{on_cycle}
use Rattle.ordering.specs.Search.{marked, OffCycles, SetAside, Ordering}
use Rattle.topology.proofs.Orders.{order_few, order_below, order_once, order_before}
use Rattle.topology.proofs.Reaches.{on_cycle_walk}

module _ (A : Arcs) (g : ℕ) (inside : Inside A g) where
  -- a walk to what the order takes comes from what it took before
  taken_before : {a b : ℕ} → Walk (Edge A) a b → (i : ℕ) → i < length (order_of A g) → get_or (order_of A g) i 0 ≡ b
      → (j : ℕ) × (j < i) × (get_or (order_of A g) j 0 ≡ a)
  taken_before {a} (one e) i l q = order_before A g inside i a l (rw q e)
  taken_before (more {b = x} w e) i l q =
      let (j, lj, ej) = order_before A g inside i x l (rw q e) in
      let (k, lk, ek) = taken_before w j (omega arith) ej in
      (k, omega arith, ek)

  pub taken_free : (i : ℕ) → i < length (order_of A g) → Walk (Edge A) (get_or (order_of A g) i 0) (get_or (order_of A g) i 0) → ⊥
  taken_free i l w = let (j, lj, ej) = taken_before w i l refl in omega (arith, order_once A g inside j i (omega arith) l ej)

-- the way back along the edges turned round
walk_back : {E F : ℕ → ℕ → Type 0} {a b : ℕ} → ((x y : ℕ) → E x y → F y x) → Walk E a b → Walk F b a
walk_back f (one e) = one (f _ _ e)
walk_back f (more w e) = ahead (f _ _ e) (walk_back f w)

module _ (starts ends : List ℕ) (same : length ends ≡ length starts) where
  edge_turned : (a b : ℕ) → Edge (joining starts ends) a b → Edge (joining ends starts) b a
  edge_turned a b e =
      let (j, l, ea, eb) = edge_arc (joining starts ends) a b e in
      let t = arc_edge (joining ends starts) j (omega arith) (λ q. edge_other (joining starts ends) a b e (sym ea ∙ sym q ∙ eb)) in
      rw (ea, eb) at t

not_on : (A : Arcs) (g v : ℕ) → (Walk (Edge A) v v → ⊥) → on_cycle A g v ≡ false
not_on A g v n = by (on_cycle A g v) (λ t. absurd (n (on_cycle_walk A g v t))) (λ f. f)

-- the edges turned round
pub ended_back : {starts ends : List ℕ} → Ended starts ends → Ended ends starts
ended_back E = record { from = E.to; to = E.from; same = sym E.same }

pub inside_turned : {starts ends : List ℕ} (g : ℕ) → Ended starts ends → Inside (joining starts ends) g → Inside (joining ends starts) g
inside_turned g J inside j l = let (a, b) = inside j (omega (arith, J.same)) in (b, a)

pub off_cycles : {starts ends : List ℕ} (g : ℕ) → Ended starts ends → Inside (joining starts ends) g → {taken turned : List ℕ} {a₀ a₁ a₂ : List Bool} {count back : ℕ}
    → Ordering (joining starts ends) g taken count → Ordering (joining ends starts) g turned back → ((v : ℕ) → marked a₀ v ≡ true → ⊥)
    → SetAside taken count a₀ a₁ → SetAside turned back a₁ a₂ → OffCycles (joining starts ends) g a₂
off_cycles {starts} {ends} g J inside O P none S T =
    let A = joining starts ends in
    let B = joining ends starts in
    record {
      tall = T.tall;
      off = λ v t.
          not_on A g v
          (λ w.
          either (T.from v t)
          (λ s. either (S.from v s) (none v) (λ x. let (i, l, e) = x in taken_free A g inside i (omega (arith, O.count)) (rw (sym (O.is i l) ∙ e) w)))
          (λ x.
          let (i, l, e) = x in
          taken_free B g (inside_turned g J inside) i (omega (arith, P.count)) (rw (sym (P.is i l) ∙ e) (walk_back (edge_turned starts ends J.same) w))));
    }

-- the front of what an order was written over
over_at : (all l : List ℕ) (i : ℕ) → i < length all → get_or (over all l) i 0 ≡ get_or all i 0
unfolding over
over_at all l i h = get_or-append all _ 0 i h

pub ordering : (A : Arcs) (g : ℕ) (old : List ℕ) {r : ℕ} {new : List ℕ} → g ≤ 512 → r ≡ length (order_of A g) → new ≡ over (order_of A g) old → Ordering A g new r
ordering A g old lg e q = record { few = omega (arith, order_few A g); count = e; is = λ i l. ap (λ (l : List ℕ). get_or l i 0) q ∙ over_at (order_of A g) old i (omega arith) }

-- the front of what it was written over
pub front_few : (A : Arcs) (g : ℕ) {r : ℕ} → g ≤ 512 → r ≡ length (order_of A g) → r ≤ 512
front_few A g l e = omega (arith, order_few A g)

pub front_is : {r : ℕ} (new : List ℕ) → r ≤ 512 → length new ≡ 512 → r ≡ length (take r new)
front_is new l h = sym (simp length-take (omega arith))

pub ordering_front : (A : Arcs) (g : ℕ) (old : List ℕ) {r : ℕ} {new : List ℕ} → g ≤ 512 → length new ≡ 512 → r ≡ length (order_of A g) → new ≡ over (order_of A g) old
    → Ordering A g (take r new) (length (take r new))
ordering_front A g old {r} {new} lg h e q =
    let O = ordering A g old lg e q in
    let n : length (take r new) ≡ r = sym (front_is new O.few h) in
    record { few = omega (arith, O.few); count = n ∙ e; is = λ i l. let z : i < r = omega arith in get_or-take r new i 0 z ∙ O.is i z }

-- nothing is set aside at first; one more
pub none_aside : (v : ℕ) → marked (replicate 512 false) v ≡ true → ⊥
none_aside v t = no_bool (sym (none_marked v) ∙ t)

pub aside_first : {order : List ℕ} {aside : List Bool} → length aside ≡ 512 → SetAside order 0 aside aside
aside_first h = record { tall = h; from = λ v t. inl t }

pub aside_turn : {order : List ℕ} {aside₀ aside : List Bool} {i v : ℕ} → v ≡ get_or order i 0 → SetAside order i aside₀ aside → SetAside order (i + 1) aside₀ (set aside v true)
aside_turn {order} {aside₀} {aside} {i} {v} e S =
    record {
      tall = length-set aside v true ∙ S.tall;
      from = λ u t.
          either (eq_or_ne u v) (λ q. inr (i, omega arith, sym e ∙ sym q))
          (λ n. either (S.from u (rw (get_or-set_other aside v u true false n) at t)) inl (λ x. let (j, l, w) = x in inr (j, omega arith, w)));
    }

-- what the order took are numbers below 512
pub ordering_low : {A : Arcs} {g n : ℕ} {order : List ℕ} → Inside A g → g ≤ 512 → Ordering A g order n → (i : ℕ) → i < n → get_or order i 0 < 512
ordering_low {A} {g} inside lg O i l = omega (arith, O.is i l, order_below A g inside i (omega (arith, O.count)))
