-- The loops over the edges of a cluster: what each turn does to the arrays.
use Prim.Native.Nat.{ℕ, ◌+◌, ◌-◌, ◌≤◌, ◌<◌}
use mathlib.Core.Path.{◌≡◌, refl, sym, ap, ◌∙◌}
use mathlib.Core.Bool.{Bool, true, false, not, ◌&&◌, ◌||◌}
use mathlib.Core.Logic.{◌⊎◌, inl, inr}
use mathlib.Core.List.{List}
use native.Mathlib.Omega.{arith}
use lib.Dec.{eqb, ltb}
use lib.ListN.{length, get_or, set, length-set}
use lib.Seq.{get_or-set_same, get_or-set_other}
use borrow.Author.Tests.{eqb-true, eq-eqb, ne_eqb, ltb-true, ltb-false, lt-ltb, le-ltb}
use Rattle.topology.specs.Level.{next_in}
use Rattle.folds.specs.Fold.{pick, when, sum_to, most_width}
use Rattle.folds.proofs.Cases.{by, either, eq_or_ne, both, same_test, when_zero, when_le, and_false}
use Rattle.folds.proofs.Sums.{sum_to_step, sum_to_mono, sum_to_less, sum_to_ext, sum_to_only}
use Rattle.graph.specs.Graph.{Arcs, crossing}
use Rattle.graph.specs.Links.{Linked, leave}
use Rattle.graph.specs.Coarse.{sent, Narrow}
use Rattle.graph.proofs.Edges.{arc_edge}
use Rattle.graph.proofs.Links.{leave_at, leave_from, stays, On, Only, Finds, sum_on, sum_next}
use Rattle.matching_scan.specs.State.{leaves, Single, halts, halts_at, offer_in, offer_of, Widest, Better, blocked_of, Blocking}

module _ (A : Arcs) (widths : List ℕ) (u : ℕ) where
  inner : (i : ℕ) → (leave A i ≡ u → ⊥) → A.from i ≡ u → crossing A widths i ≡ 0
  unfolding crossing
  inner i n e = rw (eq-eqb (A.from i) (A.to i) (e ∙ sym (stays A i n e)))

  leaves_only : Only (leave A) u (leaves A widths u)
  unfolding leaves
  leaves_only i n = either (eq_or_ne (A.from i) u) (λ e. rw (inner i n e) (when_zero (eqb (A.from i) u))) (λ o. rw (ne_eqb (A.from i) u o))

  -- an edge that leaves u counts in full
  cross_width : (j : ℕ) → leave A j ≡ u → u < 512 → crossing A widths j ≡ get_or widths j 0
  unfolding crossing leave
  cross_width j e l = by (eqb (A.from j) (A.to j)) (λ t. let z : 512 ≡ u = rw t at e in absurd (omega arith)) (λ t. rw t)

  leaves_at : (j : ℕ) → leave A j ≡ u → u < 512 → get_or widths j 0 ≡ leaves A widths u j
  unfolding leaves
  leaves_at j e l = rw (cross_width j e l, eq-eqb (A.from j) u (leave_from A j e l))

  leaves_le : (j : ℕ) → leaves A widths u j ≤ get_or widths j 0
  unfolding leaves crossing
  leaves_le j = omega (arith, when_le (eqb (A.from j) u) (when (not (eqb (A.from j) (A.to j))) (get_or widths j 0)), when_le (not (eqb (A.from j) (A.to j))) (get_or widths j 0))

  pub total_room : {j s : ℕ} → s ≡ sum_to j (leaves A widths u) → j < length widths → Narrow widths → s + get_or widths j 0 ≤ most_width
  total_room {j} e l N =
      omega (arith, sum_to_mono j (leaves A widths u) (λ i. get_or widths i 0) (λ i _. leaves_le i), sum_to_step j (λ i. get_or widths i 0), sum_to_less (λ i. get_or widths i 0) (j + 1) (length widths) (omega arith))

  module _ {m : ℕ} {head next : List ℕ} (L : Linked (leave A) m head next) (lu : u < 512) where
    pub total_none : 0 ≡ sum_to (get_or head u 0) (leaves A widths u)
    total_none = sum_on L u (leaves A widths u) leaves_only lu

    pub total_turn : {j s : ℕ} → On (leave A) m u j → j < m → s ≡ sum_to j (leaves A widths u) → s + get_or widths j 0 ≡ sum_to (get_or next j 0) (leaves A widths u)
    total_turn {j} {s} o l e = sum_next L u j s (get_or widths j 0) (leaves A widths u) leaves_only o l e (leaves_at j (o.at l) lu)

  -- where no two edges go from one to the same, one edge is all that goes there
  pub sent_one : (j : ℕ) → j < A.count → leave A j ≡ u → u < 512 → Single A → sum_to A.count (sent A widths u (A.to j)) ≡ get_or widths j 0
  unfolding sent
  sent_one j l e lu S =
      sum_to_ext A.count _ (λ i. when (eqb j i) (get_or widths i 0)) (λ i li.
      either (eq_or_ne j i)
      (λ q. rw (← q, eq-eqb j j refl, eq-eqb (A.from j) u (leave_from A j e lu), eq-eqb (A.to j) (A.to j) refl) (cross_width j e lu))
      (λ n. rw (ne_eqb j i n) (apart i li n)))
      ∙ sum_to_only A.count j (λ i. get_or widths i 0) l
    where
      apart : (i : ℕ) → i < A.count → (j ≡ i → ⊥) → when (eqb (A.from i) u && eqb (A.to i) (A.to j)) (crossing A widths i) ≡ 0
      apart i li n =
          by (eqb (A.from i) u && eqb (A.to i) (A.to j))
          (λ t. let (p, q) = both (eqb (A.from i) u) _ t in absurd (n (S j i l li (leave_from A j e lu ∙ sym (eqb-true (A.from i) u p)) (sym (eqb-true (A.to i) (A.to j) q)))))
          (λ t. rw t)

-- so its width is what the offer is by
pub offer_at : (A : Arcs) (widths levels mates blocked costs : List ℕ) (bound u : ℕ) {j b w total : ℕ} → j < A.count → leave A j ≡ u → u < 512 → Single A → b ≡ A.to j
    → total ≡ sum_to A.count (leaves A widths u) → w ≡ offer_in levels mates blocked costs bound u b (get_or widths j 0) total → w ≡ offer_of A widths levels mates blocked costs bound u b
unfolding offer_of
offer_at A widths levels mates blocked costs bound u {j} {b} l e lu S eb et ew = rw (eb, sent_one A widths u j l e lu S, ← et) (rw eb at ew)

-- the end of a pair on the next level
pub halts_finds : (A : Arcs) (levels tos : List ℕ) (u : ℕ) → Finds (leave A) u (halts_at A levels tos u)
unfolding halts_at halts
halts_finds A levels tos u i n =
    either (eq_or_ne (A.from i) u) (λ e. rw (eq-eqb (A.to i) u (stays A i n e)) (and_false (eqb (A.from i) u))) (λ o. rw (ne_eqb (A.from i) u o))

pub halts_here : (A : Arcs) (levels tos : List ℕ) (u j : ℕ) {r : Bool} → A.from j ≡ u → r ≡ halts A levels tos u j → r ≡ halts_at A levels tos u j
unfolding halts_at
halts_here A levels tos u j e h = rw (eq-eqb (A.from j) u e) h

-- the widest offer
module _ (A : Arcs) (f : ℕ → ℕ) (u : ℕ) {m : ℕ} {head next : List ℕ} (L : Linked (leave A) m head next) where
  pub widest_none : u < 512 → (to : ℕ) → Widest A f u (get_or head u 0) 0 to
  widest_none l to =
      record {
        top = λ i h e. absurd ((L.heads u l).skips i (omega arith) h e);
        low = λ i h e q. absurd ((L.heads u l).skips i (omega arith) h e);
        hit = inl refl;
      }

  -- the edges of u below the next one: those below j, and j
  split : {j i : ℕ} → On (leave A) m u j → j < m → i < get_or next j 0 → leave A i ≡ u → (i < j) ⊎ (i ≡ j)
  split {j} {i} o l h e =
      by (ltb i j) (λ t. inl (ltb-true i j t))
      (λ t. either (eq_or_ne i j) (λ q. inr q) (λ q. absurd ((L.nexts j l).skips i (omega (arith, ltb-false i j t)) h (e ∙ sym (o.at l)))))

  -- a wider one
  pub widest_wider : {j b w width to : ℕ} → On (leave A) m u j → j < m → b ≡ A.to j → b < 512 → w ≡ f b → width < w → Widest A f u j width to → Widest A f u (get_or next j 0) w b
  widest_wider {j} {b} {w} o l eb lb ew g W =
      record {
        top = λ i h e. either (split o l h e) (λ q. omega (arith, W.top i q e)) (λ q. omega (arith, ap f (ap A.to q ∙ sym eb)));
        low = λ i h e q. inr (either (split o l h e) (λ z. omega (arith, W.top i z e)) (λ z. omega (arith, ap A.to z)));
        hit = inr (sym ew, lb);
      }

  -- one as wide, and lower
  pub widest_lower : {j b w width to : ℕ} → On (leave A) m u j → j < m → b ≡ A.to j → b < 512 → w ≡ f b → w ≡ width → b < to → Widest A f u j width to → Widest A f u (get_or next j 0) w b
  widest_lower {j} {b} {w} {width} {to} o l eb lb ew e g W =
      record {
        top = λ i h q. either (split o l h q) (λ z. omega (arith, W.top i z q)) (λ z. omega (arith, ap f (ap A.to z ∙ sym eb)));
        low = λ i h q z. either (split o l h q)
            (λ s. either (W.low i s q (z ∙ e)) (λ n. inl (e ∙ n)) (λ n. inr (omega arith)))
            (λ s. inr (omega (arith, ap A.to s)));
        hit = inr (sym ew, lb);
      }

  -- one that is not as wide, or as wide and not lower
  pub widest_keep : {j b w width to : ℕ} → On (leave A) m u j → j < m → b ≡ A.to j → w ≡ f b → w ≤ width → (w ≡ width → to ≤ b) → Widest A f u j width to → Widest A f u (get_or next j 0) width to
  widest_keep {j} {b} {w} {width} {to} o l eb ew g h W =
      record {
        top = λ i k q. either (split o l k q) (λ z. W.top i z q) (λ z. omega (arith, ap f (ap A.to z ∙ sym eb)));
        low = λ i k q z. either (split o l k q) (λ s. W.low i s q z)
            (λ s. inr (let e : w ≡ width = omega (arith, ap f (ap A.to s ∙ sym eb)) in omega (arith, h e, ap A.to s)));
        hit = W.hit;
      }

  pub widest_turn : {j b w width to width' to' : ℕ} → On (leave A) m u j → j < m → b ≡ A.to j → b < 512 → w ≡ f b → Better width to w b width' to'
      → Widest A f u j width to → Widest A f u (get_or next j 0) width' to'
  widest_turn o l eb lb ew B W =
      either B.is (λ (g, p, q). rw (p, q) (widest_wider o l eb lb ew g W))
      (λ s. either s (λ (e, g, p, q). rw (p, q) (widest_lower o l eb lb ew e g W)) (λ (g, h, p, q). rw (p, q) (widest_keep o l eb ew g h W)))

-- an offer of at most w does not win where w does not
pub better_kept : {w o b width to : ℕ} → o ≤ w → (w ≤ width) × (w ≡ width → to ≤ b) → Better width to o b width to
better_kept l (g, h) = record { is = inr (inr (omega arith, λ e. h (omega arith), refl, refl)) }

-- blocking
module _ (A : Arcs) (levels : List ℕ) (u : ℕ) {m : ℕ} {head next : List ℕ} (L : Linked (leave A) m head next) where
  pub blocking_none : u < 512 → {old : List ℕ} → length old ≡ 512 → Blocking A levels u (get_or head u 0) old old
  blocking_none l e = record { tall = e; keeps = λ b lb. inl refl; marks = λ i h q n t. absurd ((L.heads u l).skips i (omega arith) h (leave_at A i q n)) }

  blocked_is : (new : List ℕ) (b d : ℕ) → b < length new
      → (get_or (blocked_of levels u b new) d 0 ≡ get_or new d 0) ⊎ ((d ≡ b) × (b ≡ u → ⊥) × (next_in levels u b ≡ true) × (get_or (blocked_of levels u b new) d 0 ≡ 1))
  unfolding blocked_of
  blocked_is new b d l =
      either (eq_or_ne b u) (λ e. inl (rw (eq-eqb b u e)))
      (λ n. by (next_in levels u b)
      (λ t. either (eq_or_ne d b) (λ e. inr (e, n, t, rw (ne_eqb b u n, t, e) (get_or-set_same new b 1 0 l))) (λ ne. inl (rw (ne_eqb b u n, t) (get_or-set_other new b d 1 0 ne))))
      (λ t. inl (rw (ne_eqb b u n, t))))

  blocked_at : (new : List ℕ) (b : ℕ) → b < length new → (b ≡ u → ⊥) → next_in levels u b ≡ true → get_or (blocked_of levels u b new) b 0 ≡ 1
  unfolding blocked_of
  blocked_at new b l n t = rw (ne_eqb b u n, t) (get_or-set_same new b 1 0 l)

  length_blocked : (new : List ℕ) (b : ℕ) → length (blocked_of levels u b new) ≡ length new
  unfolding blocked_of
  length_blocked new b = go (eqb b u) (next_in levels u b)
    where
      go : (s t : Bool) → length (pick s new (pick t (set new b 1) new)) ≡ length new
      go true t = refl
      go false true = length-set new b 1
      go false false = refl

  pub blocking_turn : {j b : ℕ} {old new : List ℕ} → On (leave A) m u j → j < m → u < 512 → m ≡ A.count → b ≡ A.to j → b < 512 → Blocking A levels u j old new → Blocking A levels u (get_or next j 0) old (blocked_of levels u b new)
  blocking_turn {j} {b} {old} {new} o l lu em eb lb B =
      record {
        tall = length_blocked new b ∙ B.tall;
        keeps = λ d ld. either (blocked_is new b d room)
            (λ q. either (B.keeps d ld) (λ z. inl (q ∙ z)) (λ (z, t, n). inr (q ∙ z, t, n)))
            (λ (ed, n, t, q). inr (q, rw (near, sym eb ∙ sym ed) at (arc_edge A j (omega arith) (λ z. n (eb ∙ sym z ∙ near))), rw ed t));
        marks = λ i h e n t. marked i h e n t;
      }
    where
      near : A.from j ≡ u
      near = leave_from A j (o.at l) lu

      room : b < length new
      room = omega (arith, B.tall)

      marked : (i : ℕ) → i < get_or next j 0 → A.from i ≡ u → (A.to i ≡ u → ⊥) → next_in levels u (A.to i) ≡ true → get_or (blocked_of levels u b new) (A.to i) 0 ≡ 1
      marked i h e n t =
          either (eq_or_ne (A.to i) b) (λ q. rw q (blocked_at new b room (λ z. n (q ∙ z)) (rw q at t)))
          (λ ne. by (ltb i j)
          (λ k. either (blocked_is new b (A.to i) room) (λ q. q ∙ B.marks i (ltb-true i j k) e n t) (λ z. absurd (ne z.0)))
          (λ k. either (eq_or_ne i j) (λ q. absurd (ne (ap A.to q ∙ sym eb)))
          (λ q. absurd ((L.nexts j l).skips i (omega (arith, ltb-false i j k)) h (leave_at A i e n ∙ sym (o.at l))))))

-- a difference of 1 between two levels
pub next_by_lem : (levels : List ℕ) (u v : ℕ) → get_or levels u 0 < get_or levels v 0 → eqb (get_or levels v 0 - get_or levels u 0) 1 ≡ next_in levels u v
unfolding next_in
next_by_lem levels u v l =
    same_test (eqb (get_or levels v 0 - get_or levels u 0) 1) (eqb (get_or levels v 0) (get_or levels u 0 + 1))
    (λ t. eq-eqb _ _ (let e = eqb-true (get_or levels v 0 - get_or levels u 0) 1 t in up e))
    (λ t. eq-eqb _ _ (let e = eqb-true (get_or levels v 0) (get_or levels u 0 + 1) t in down e))
  where
    up : get_or levels v 0 - get_or levels u 0 ≡ 1 → get_or levels v 0 ≡ get_or levels u 0 + 1
    up e = omega arith

    down : get_or levels v 0 ≡ get_or levels u 0 + 1 → get_or levels v 0 - get_or levels u 0 ≡ 1
    down e = omega arith

pub near_no : (a b : Bool) {r : Bool} → r ≡ a → r ≡ false → b ≡ (a || b)
near_no a b e t = let q : a ≡ false = sym e ∙ t in rw q

-- what b offers, branch by branch
module _ (levels mates blocked costs : List ℕ) (bound u b w total : ℕ) where
  abbrev O : ℕ
  O = offer_in levels mates blocked costs bound u b w total

  -- the width of the edge, or 0
  pub offer_le : O ≤ w
  unfolding offer_in
  offer_le = go (eqb (get_or mates b 0) b) (eqb (get_or blocked b 0) 0) (ltb bound (get_or costs u 0 + get_or costs b 0)) (next_in levels u b || eqb w total)
    where
      go : (s t d n : Bool) → pick s (pick t (pick d 0 (pick n w 0)) 0) 0 ≤ w
      go false t d n = omega arith
      go true false d n = omega arith
      go true true true n = omega arith
      go true true false true = omega arith
      go true true false false = omega arith

  pub offer_mated : {x : ℕ} → x ≡ get_or mates b 0 → (x ≡ b → ⊥) → 0 ≡ O
  unfolding offer_in
  offer_mated e n = rw (ne_eqb (get_or mates b 0) b (λ q. n (e ∙ q)))

  module _ {x : ℕ} (e : x ≡ get_or mates b 0) (q : x ≡ b) where
    single : eqb (get_or mates b 0) b ≡ true
    single = eq-eqb _ _ (sym e ∙ q)

    pub offer_blocked : (get_or blocked b 0 ≡ 0 → ⊥) → 0 ≡ O
    unfolding offer_in
    offer_blocked n = rw (single, ne_eqb (get_or blocked b 0) 0 n)

    module _ (z : get_or blocked b 0 ≡ 0) where
      pub offer_dear : bound < get_or costs u 0 + get_or costs b 0 → 0 ≡ O
      unfolding offer_in
      offer_dear h = rw (single, eq-eqb (get_or blocked b 0) 0 z, lt-ltb bound (get_or costs u 0 + get_or costs b 0) h)

      module _ (h : get_or costs u 0 + get_or costs b 0 ≤ bound) {r : Bool} (n : r ≡ (next_in levels u b || eqb w total)) where
        pub offer_near : r ≡ true → w ≡ O
        unfolding offer_in
        offer_near t = let s = sym n ∙ t in rw (single, eq-eqb (get_or blocked b 0) 0 z, le-ltb bound (get_or costs u 0 + get_or costs b 0) h, s)

        pub offer_far : r ≡ false → 0 ≡ O
        unfolding offer_in
        offer_far t = let s = sym n ∙ t in rw (single, eq-eqb (get_or blocked b 0) 0 z, le-ltb bound (get_or costs u 0 + get_or costs b 0) h, s)
