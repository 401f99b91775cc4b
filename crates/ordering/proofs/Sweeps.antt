-- Levels raised along edges: in topological order they come to be the levels.
use Prim.Native.Nat.{ℕ, ◌+◌, ◌≤◌, ◌<◌}
use mathlib.Core.Path.{◌≡◌, refl, sym, ap, ◌∙◌}
use mathlib.Core.Bool.{Bool, true, false}
use mathlib.Core.Logic.{◌⊎◌, inl, inr}
use mathlib.Core.List.{List, ◌∷◌, ◌++◌}
use native.Mathlib.Nat.{add-zero}
use native.Mathlib.Omega.{arith}
use lib.Dec.{eqb, ltb}
use lib.ListN.{length, get_or, set, take, length-set}
use lib.Seq.{get_or-set_same, get_or-set_other, ext_get_or, get_or-append-add, length-take-le}
use borrow.Author.Tests.{eq-eqb, ne_eqb, ltb-true, ltb-false}
use Rattle.folds.specs.Fold.{pick, over, zeros, Wrote}
use Rattle.folds.proofs.Cases.{by, either, eq_or_ne}
use Rattle.folds.proofs.Lists.{get_d_zeros, length-zeros}
use Rattle.folds.proofs.Slices.{length_over}
use Rattle.folds.proofs.Searches.{first_to_le}
use Rattle.graph.specs.Walk.{Acyclic}
use Rattle.graph.specs.Graph.{Arcs, Edge, Inside}
use Rattle.graph.specs.Links.{Linked, leave}
use Rattle.graph.proofs.Edges.{arc_edge, edge_arc, edge_other, edge_inside}
use Rattle.graph.proofs.Links.{On, leave_at, leave_from}
use Rattle.topology.specs.Order.{order_of, place_in}
use Rattle.topology.specs.Level.{levels_of, level}
use Rattle.topology.specs.Reach.{lowest_on_cycle, on_cycle}
use Rattle.topology.proofs.Levels.{length_levels, level_rises, level_from, level_past, over-level}
use Rattle.topology.proofs.Orders.{order_all, order_below, place_of, place_in_at, order_rises, all_acyclic}
use Rattle.topology.proofs.Reaches.{none_acyclic}
use Rattle.ordering.specs.Sweep.{raised_of, Raised}

-- what one store does
raised_is : (levels : List ℕ) (u b x v : ℕ) → b < length levels
    → (get_or (raised_of levels u b x) v 0 ≡ get_or levels v 0) ⊎ ((v ≡ b) × (b ≡ u → ⊥) × (get_or levels b 0 < x) × (get_or (raised_of levels u b x) v 0 ≡ x))
unfolding raised_of
raised_is levels u b x v l =
    either (eq_or_ne b u) (λ e. inl (rw (eq-eqb b u e)))
    (λ n. by (ltb (get_or levels b 0) x)
    (λ t. either (eq_or_ne v b)
    (λ e. inr (e, n, ltb-true _ _ t, rw (ne_eqb b u n, t, e) (get_or-set_same levels b x 0 l)))
    (λ ne. inl (rw (ne_eqb b u n, t) (get_or-set_other levels b v x 0 ne))))
    (λ t. inl (rw (ne_eqb b u n, t))))

raised_at : (levels : List ℕ) (u b x : ℕ) → b < length levels → (b ≡ u → ⊥) → x ≤ get_or (raised_of levels u b x) b 0
unfolding raised_of
raised_at levels u b x l n =
    by (ltb (get_or levels b 0) x)
    (λ t. rw (ne_eqb b u n, t, get_or-set_same levels b x 0 l) (omega arith))
    (λ t. rw (ne_eqb b u n, t) (ltb-false _ _ t))

length_raised : (levels : List ℕ) (u b x : ℕ) → length (raised_of levels u b x) ≡ length levels
unfolding raised_of
length_raised levels u b x = go (eqb b u) (ltb (get_or levels b 0) x)
  where
    go : (s t : Bool) → length (pick s levels (pick t (set levels b x) levels)) ≡ length levels
    go true t = refl
    go false true = length-set levels b x
    go false false = refl

-- the edges of u, along their links
module _ (A : Arcs) {m u x : ℕ} {head next levels₀ : List ℕ} (L : Linked (leave A) m head next) (lu : u < 512) where
  pub raised_none : length levels₀ ≡ 512 → Raised A u x (get_or head u 0) levels₀ levels₀
  raised_none t =
      record { tall = t; keeps = λ v. omega arith; counts = λ i h e n. absurd ((L.heads u lu).skips i (omega arith) h (leave_at A i e n)); only = λ v. inl refl }

  pub raised_turn : {j b : ℕ} {levels : List ℕ} → m ≡ A.count → On (leave A) m u j → j < m → b ≡ A.to j → b < 512 → Raised A u x j levels₀ levels
      → Raised A u x (get_or next j 0) levels₀ (raised_of levels u b x)
  raised_turn {j} {b} {levels} em o l eb lb R =
      record {
        tall = length_raised levels u b x ∙ R.tall;
        keeps = λ v. either (raised_is levels u b x v room) (λ q. omega (arith, R.keeps v)) (λ (ev, n, h, q). omega (arith, R.keeps v, ap (λ (z : ℕ). get_or levels z 0) ev));
        counts = counts;
        only = λ v.
            either (raised_is levels u b x v room) (λ q. either (R.only v) (λ e. inl (q ∙ e)) (λ (t, e). inr (t, q ∙ e)))
            (λ (ev, n, h, q). inr (along v ev n, q));
      }
    where
      near : A.from j ≡ u
      near = leave_from A j (o.at l) lu

      room : b < length levels
      room = omega (arith, R.tall)

      along : (v : ℕ) → v ≡ b → (b ≡ u → ⊥) → Edge A u v
      along v ev n = rw (near, sym eb ∙ sym ev) at (arc_edge A j (omega arith) (λ z. n (eb ∙ sym z ∙ near)))

      counts : (i : ℕ) → i < get_or next j 0 → A.from i ≡ u → (A.to i ≡ u → ⊥) → x ≤ get_or (raised_of levels u b x) (A.to i) 0
      counts i h e n =
          by (ltb i j)
          (λ t. let c = R.counts i (ltb-true i j t) e n in either (raised_is levels u b x (A.to i) room) (λ q. omega arith) (λ (ev, k, h, q). omega arith))
          (λ t. either (eq_or_ne i j)
          (λ q.
          let to : A.to i ≡ b = ap A.to q ∙ sym eb in
          rw to (raised_at levels u b x room (λ z. n (to ∙ z))))
          (λ q. absurd ((L.nexts j l).skips i (omega (arith, ltb-false i j t)) h (leave_at A i e n ∙ sym (o.at l)))))

-- g clusters without a cycle
record Layered (A : Arcs) (g : ℕ) : Type 0 where
  inside : Inside A g
  acyclic : Acyclic (Edge A)

-- no entry is above its cluster's level, and the first i clusters of the order have raised their successors above their own
record Climbed (A : Arcs) (g i : ℕ) (levels : List ℕ) : Type 0 where
  most : (v : ℕ) → get_or levels v 0 ≤ level A g v
  counts : (a b : ℕ) → Edge A a b → place_in (order_of A g) a < i → level A g a < get_or levels b 0

module _ (A : Arcs) (g : ℕ) (Y : Layered A g) where
  all : length (order_of A g) ≡ g
  all = order_all A g Y.inside Y.acyclic

  -- a cluster whose predecessors are all through has its level
  climbed_level : (i v : ℕ) (levels : List ℕ) → Climbed A g i levels → v < g → ((a : ℕ) → Edge A a v → place_in (order_of A g) a < i) → get_or levels v 0 ≡ level A g v
  climbed_level i v levels S l before =
      either (eq_or_ne (level A g v) 0) (λ z. omega (arith, S.most v))
      (λ n. let (a, t, e) = level_from A g Y.inside Y.acyclic v l (omega arith) in omega (arith, S.most v, S.counts a v t (before a t)))

  climbed_at : (i u : ℕ) (levels : List ℕ) → i < g → u ≡ get_or (order_of A g) i 0 → Climbed A g i levels → get_or levels u 0 ≡ level A g u
  climbed_at i u levels l q S =
      let h : u < g = rw q (order_below A g Y.inside i (omega (arith, all))) in
      let p : place_in (order_of A g) u ≡ i = ap (place_in (order_of A g)) q ∙ place_of A g Y.inside all i l in
      climbed_level i u levels S h (λ a t. omega (arith, order_rises A g Y.inside all a u t))

  climbed_turn : (i u : ℕ) (levels levels' : List ℕ) → i < g → u ≡ get_or (order_of A g) i 0 → Climbed A g i levels → Raised A u (get_or levels u 0 + 1) A.count levels levels'
      → Climbed A g (i + 1) levels'
  climbed_turn i u levels levels' l q S R =
      record {
        most = λ v.
            either (R.only v) (λ e. omega (arith, S.most v))
            (λ (t, e). omega (arith, climbed_at i u levels l q S, level_rises A g Y.inside Y.acyclic u v t));
        counts = λ a b t h.
            either (eq_or_ne (place_in (order_of A g) a) i)
            (λ e. mine a b t (at a b t e))
            (λ e. omega (arith, S.counts a b t (omega arith), R.keeps b));
      }
    where
      at : (a b : ℕ) → Edge A a b → place_in (order_of A g) a ≡ i → a ≡ u
      at a b t e =
          sym (place_in_at A g Y.inside all a (edge_inside A g Y.inside a b t).0).1 ∙ ap (λ (z : ℕ). get_or (order_of A g) z 0) e ∙ sym q

      mine : (a b : ℕ) → Edge A a b → a ≡ u → level A g a < get_or levels' b 0
      mine a b t e =
          let (j, lj, ea, eb) = edge_arc A a b t in
          let c = R.counts j lj (ea ∙ e) (λ z. edge_other A a b t (e ∙ sym z ∙ eb)) in
          let k = climbed_at i u levels l q S in
          rw (e, ← eb) (omega arith)

  -- all clusters are through: the entries are the levels
  climbed_end : (i : ℕ) (levels : List ℕ) → g ≤ i → Climbed A g i levels → (v : ℕ) → get_or levels v 0 ≡ level A g v
  climbed_end i levels l S v =
      by (ltb v g)
      (λ t. climbed_level i v levels S (ltb-true v g t) (λ a e. let p = (place_in_at A g Y.inside all a (edge_inside A g Y.inside a v e).0).0 in omega arith))
      (λ t. omega (arith, S.most v, level_past A g v (ltb-false v g t)))

-- the first i clusters of the order are through: no entry is above i, and where there is no cycle the entries climb to the levels
pub record Swept (A : Arcs) (g i : ℕ) (levels : List ℕ) : Type 0 where
  pub tall : length levels ≡ 512
  pub low : (v : ℕ) → get_or levels v 0 ≤ i
  climbed : Layered A g → Climbed A g i levels

module _ (A : Arcs) (g : ℕ) where
  pub swept_none : Swept A g 0 (zeros 512)
  swept_none =
      record {
        tall = length-zeros 512;
        low = λ v. rw (get_d_zeros 512 v) (omega arith);
        climbed = λ Y. record { most = λ v. rw (get_d_zeros 512 v) (omega arith); counts = λ a b t l. absurd (omega arith) };
      }

  pub swept_turn : {i u : ℕ} {levels levels' : List ℕ} → i < g → u ≡ get_or (order_of A g) i 0 → Swept A g i levels → Raised A u (get_or levels u 0 + 1) A.count levels levels'
      → Swept A g (i + 1) levels'
  swept_turn {i} {u} {levels} {levels'} l q S R =
      record {
        tall = R.tall;
        low = λ v. either (R.only v) (λ e. omega (arith, S.low v)) (λ (t, e). omega (arith, S.low u));
        climbed = λ Y. climbed_turn A g Y i u levels levels' l q (S.climbed Y) R;
      }

  -- the order took all
  pub swept_end : {r : ℕ} {levels : List ℕ} → Inside A g → g ≤ 512 → r ≡ length (order_of A g) → Swept A g r levels → r ≡ g → levels ≡ over (levels_of A g) (zeros 512)
  swept_end {r} {levels} inside small e S q =
      let Y : Layered A g = record { inside = inside; acyclic = all_acyclic A g inside (sym e ∙ q) } in
      ext_get_or 0 levels (over (levels_of A g) (zeros 512))
      (S.tall ∙ sym (length_over (levels_of A g) (zeros 512) (rw (length_levels A g, length-zeros 512) small) ∙ length-zeros 512))
      (λ v h. climbed_end A g Y r levels (omega arith) (S.climbed Y) v ∙ sym (over-level A g v))

  -- where none lies on a cycle the order takes all
  pub none_all : {count : ℕ} → Inside A g → g ≤ lowest_on_cycle A g → count ≡ length (order_of A g) → count ≡ g
  unfolding lowest_on_cycle
  none_all inside l h = let q : lowest_on_cycle A g ≡ g = omega (arith, first_to_le g (on_cycle A g)) in h ∙ order_all A g inside (none_acyclic A g inside q)

-- what is written next is the next of the order
pub wrote_next : {l₀ l rest rest' all : List ℕ} {n x : ℕ} → Wrote l₀ l n rest all → rest ≡ x ∷ rest' → x ≡ get_or all n 0
wrote_next {l₀} {l} {rest} {rest'} {all} {n} {x} w e =
    let q : n ≡ length (take n l) + 0 = sym (length-take-le n l w.upto) ∙ sym (add-zero _) in
    let f : take n l ++ (x ∷ rest') ≡ all = rw e at w.front in
    sym (ap (λ (z : ℕ). get_or all z 0) q ∙ ap (λ (z : List ℕ). get_or z (length (take n l) + 0) 0) (sym f) ∙ get_or-append-add (take n l) (x ∷ rest') 0 0)
