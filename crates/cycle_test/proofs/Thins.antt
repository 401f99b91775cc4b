-- A cycle goes through no cluster that no edge leaves.
use Rattle.std.proofs.Common.{◌≡◌, ℕ, ◌+◌, ◌<◌, ◌≤◌, List, length, get_or, take, set, sym, refl, ap, ◌∙◌, arith, length-set, length-take, get_or-set_other, get_or-take, get_or-set_same, not, eqb, ne_eqb}
use Rattle.std.specs.Int.{from_bool}
use Rattle.folds.proofs.Cases.{either, eq_or_ne, bit_few, bit_yes}
use Rattle.graph.specs.Walk.{Walk, one, more, Acyclic, Cycle}
use Rattle.graph.specs.Graph.{Arcs, joining, Edge}
use Rattle.graph.specs.Links.{Named, Ended}
use Rattle.graph.proofs.Edges.{edge_arc, arc_edge, edge_other}
use Rattle.cycle_test.proofs.Guesses.{none_free}
use Rattle.cycle_test.specs.Thin.{Clusters, Marked, Held, Kept, Picking, Written, Sifting, Unmoved, Free, Thinned, Rest}

-- a mark, and the marks that were there
mark_at : (l : List ℕ) (a : ℕ) → a < length l → 0 < get_or (set l a 1) a 0
mark_at l a h = rw (get_or-set_same l a 1 0 h) (omega arith)

mark_stays : (l : List ℕ) (a v : ℕ) → a < length l → 0 < get_or l v 0 → 0 < get_or (set l a 1) v 0
mark_stays l a v h p = either (eq_or_ne v a) (λ q. rw q (mark_at l a h)) (λ n. rw (get_or-set_other l a v 1 0 n) p)

module _ (starts : List ℕ) where
  pub marked_none : {left : List ℕ} → length left ≡ 512 → Marked starts 0 left
  marked_none e = record { tall = e; leaves = λ i l. absurd (omega arith) }

  pub marked_next : {left : List ℕ} {j a : ℕ} → a ≡ get_or starts j 0 → a < 512 → Marked starts j left → Marked starts (j + 1) (set left a 1)
  marked_next {left} {j} {a} ea la T =
      record {
        tall = length-set left a 1 ∙ T.tall;
        leaves = λ i l.
            either (eq_or_ne i j)
            (λ q. rw (q, ← ea) (mark_at left a (omega (arith, T.tall))))
            (λ n. mark_stays left a (get_or starts i 0) (omega (arith, T.tall)) (T.leaves i (omega arith)));
      }

  pub marked_end : {left : List ℕ} {j m : ℕ} → m ≤ j → Marked starts j left → Marked starts m left
  marked_end p T = record { tall = T.tall; leaves = λ i l. T.leaves i (omega arith) }

-- the first q entries, as a list of their own
pub front_long : {l : List ℕ} {q : ℕ} → Clusters l q → length (take q l) ≡ q
front_long C = simp length-take (omega (arith, C.room))

pub front_named : {l : List ℕ} {q : ℕ} → Clusters l q → Named (take q l)
front_named {l} {q} C =
    record { few = omega (arith, front_long C, C.few); low = λ i h. let z : i < q = omega (arith, front_long C) in rw (get_or-take q l i 0 z) (C.low i z) }

-- what the first q edges leave
pub marked_front : {l : List ℕ} {q : ℕ} {left : List ℕ} → Clusters l q → Marked (take q l) (length (take q l)) left → Marked l q left
marked_front {l} {q} C T = record { tall = T.tall; leaves = λ i h. rw (get_or-take q l i 0 h) at (T.leaves i (omega (arith, front_long C))) }

pub held_ended : {from to : List ℕ} {q : ℕ} → Held from to q → Ended (take q from) (take q to)
held_ended H = record { from = front_named H.starts; to = front_named H.ends; same = front_long H.ends ∙ sym (front_long H.starts) }

-- a list of clusters in the front of another
clusters_none : {l : List ℕ} → Clusters l 0
clusters_none = record { room = omega arith; few = omega arith; low = λ i h. absurd (omega arith) }

clusters_more : {l : List ℕ} {t a : ℕ} → t < length l → t < 1024 → a < 512 → Clusters l t → Clusters (set l t a) (t + 1)
clusters_more {l} {t} {a} h m la C =
    record {
      room = omega (arith, length-set l t a);
      few = omega arith;
      low = λ i z. either (eq_or_ne i t) (λ q. rw (q, get_or-set_same l t a 0 h) la) (λ n. rw (get_or-set_other l t i a 0 n) (C.low i (omega arith)));
    }

-- the numbers of the edges to a marked cluster
module _ (left to : List ℕ) where
  pub picking_none : {picked : List ℕ} → length picked ≡ 1024 → Picking left to 0 picked 0
  picking_none e = record { long = e; few = omega arith; there = λ h l. absurd (omega arith); kept = λ i l. absurd (omega arith) }

  pub picking_next : {j b t r : ℕ} {picked : List ℕ} → j < 1024 → b ≡ get_or to j 0 → r ≡ from_bool (not (eqb (get_or left b 0) 0)) → Picking left to j picked t → Picking left to (j + 1) (set picked t j) (t + r)
  picking_next {j} {b} {t} {r} {picked} lj eb er K =
      record {
        long = length-set picked t j ∙ K.long;
        few = omega (arith, K.few, some);
        there = λ h l.
            either (eq_or_ne h t)
            (λ q. rw (q, get_or-set_same picked t j 0 lt) (omega arith))
            (λ n. rw (get_or-set_other picked t h j 0 n) (omega (arith, K.there h (omega (arith, some)))));
        kept = λ i l p.
            either (eq_or_ne i j)
            (λ q. let s = sure (rw (eb ∙ ap (λ (x : ℕ). get_or to x 0) (sym q)) p) in (t, omega arith, get_or-set_same picked t j 0 lt ∙ sym q))
            (λ n. let (h, lh, e) = K.kept i (omega arith) p in (h, omega arith, get_or-set_other picked t h j 0 (λ q. omega arith) ∙ e));
      }
    where
      lt : t < length picked
      lt = omega (arith, K.long, K.few)

      some : r ≤ 1
      some = rw er (bit_few (not (eqb (get_or left b 0) 0)))

      sure : 0 < get_or left b 0 → r ≡ 1
      sure p = er ∙ bit_yes (rw (ne_eqb (get_or left b 0) 0 (λ z. omega arith)) refl)

  pub picking_end : {picked : List ℕ} {j m t : ℕ} → j ≤ m → m ≤ j → Picking left to j picked t → Picking left to m picked t
  picking_end {j = j} {m = m} p q K = let e : j ≡ m = omega arith in rw e at K

-- these edges, written out
module _ (from to picked : List ℕ) where
  pub written_none : {from' to' : List ℕ} → length from' ≡ 1024 → length to' ≡ 1024 → Written from to picked 0 from' to'
  written_none e f =
      record { held = record { long = (e, f); starts = clusters_none; ends = clusters_none }; from_is = λ h l. absurd (omega arith); to_is = λ h l. absurd (omega arith) }

  pub written_next : {t : ℕ} {from' to' : List ℕ} → t < 1024 → get_or from (get_or picked t 0) 0 < 512 → get_or to (get_or picked t 0) 0 < 512 → Written from to picked t from' to'
      → Written from to picked (t + 1) (set from' t (get_or from (get_or picked t 0) 0)) (set to' t (get_or to (get_or picked t 0) 0))
  written_next {t} {from'} {to'} l la lb W =
      record {
        held = record {
          long = (length-set from' t _ ∙ W.held.long.0, length-set to' t _ ∙ W.held.long.1);
          starts = clusters_more lf l la W.held.starts;
          ends = clusters_more lt l lb W.held.ends;
        };
        from_is = λ h z. either (eq_or_ne h t) (λ q. rw (q, get_or-set_same from' t _ 0 lf)) (λ n. get_or-set_other from' t h _ 0 n ∙ W.from_is h (omega arith));
        to_is = λ h z. either (eq_or_ne h t) (λ q. rw (q, get_or-set_same to' t _ 0 lt)) (λ n. get_or-set_other to' t h _ 0 n ∙ W.to_is h (omega arith));
      }
    where
      lf : t < length from'
      lf = omega (arith, W.held.long.0)

      lt : t < length to'
      lt = omega (arith, W.held.long.1)

pub sifted : {left from to picked from' to' : List ℕ} {m t r : ℕ} → t ≤ r → r ≤ t → Picking left to m picked r → Written from to picked t from' to' → Sifting left from to m from' to' r
sifted {from = from} {to = to} {from' = from'} {to' = to'} {t = t} {r = r} p q K W =
    let e : t ≡ r = omega arith in
    record {
      held = rw e at W.held;
      few = K.few;
      kept = λ i l z. let (h, lh, s) = K.kept i l z in
          (h, lh, W.from_is h (omega arith) ∙ ap (λ (x : ℕ). get_or from x 0) s, W.to_is h (omega arith) ∙ ap (λ (x : ℕ). get_or to x 0) s);
    }

-- the edges to a marked cluster
module _ (left from to : List ℕ) where
  pub sifting_none : {from' to' : List ℕ} → length from' ≡ 1024 → length to' ≡ 1024 → Sifting left from to 0 from' to' 0
  sifting_none e f =
      record {
        held = record { long = (e, f); starts = clusters_none; ends = clusters_none };
        few = omega arith;
        kept = λ i l. absurd (omega arith);
      }

  module _ {j t a b : ℕ} {from' to' : List ℕ} (K : Sifting left from to j from' to' t) (ea : a ≡ get_or from j 0) (eb : b ≡ get_or to j 0) where
    sifting_pass : get_or left b 0 ≡ 0 → Sifting left from to (j + 1) from' to' t
    sifting_pass z =
        record {
          held = K.held;
          few = omega (arith, K.few);
          kept = λ i l p. either (eq_or_ne i j)
              (λ q. absurd (omega (arith, p, z, ap (λ (x : ℕ). get_or left (get_or to x 0) 0) q, ap (λ (x : ℕ). get_or left x 0) eb)))
              (λ n. K.kept i (omega arith) p);
        }

    sifting_store : j < 1024 → a < 512 → b < 512 → Sifting left from to (j + 1) (set from' t a) (set to' t b) (t + 1)
    sifting_store lj la lb =
        record {
          held = record {
            long = (length-set from' t a ∙ K.held.long.0, length-set to' t b ∙ K.held.long.1);
            starts = clusters_more lf (omega (arith, K.few)) la K.held.starts;
            ends = clusters_more lt (omega (arith, K.few)) lb K.held.ends;
          };
          few = omega (arith, K.few);
          kept = λ i l p. either (eq_or_ne i j)
              (λ q. here i q)
              (λ n. there i (omega arith) p);
        }
      where
        lf : t < length from'
        lf = omega (arith, K.held.long.0, K.few)

        lt : t < length to'
        lt = omega (arith, K.held.long.1, K.few)

        here : (i : ℕ) → i ≡ j → (h : ℕ) × (h < t + 1) × (get_or (set from' t a) h 0 ≡ get_or from i 0) × (get_or (set to' t b) h 0 ≡ get_or to i 0)
        here i q =
            (t, omega arith, get_or-set_same from' t a 0 lf ∙ ea ∙ ap (λ (x : ℕ). get_or from x 0) (sym q), get_or-set_same to' t b 0 lt ∙ eb ∙ ap (λ (x : ℕ). get_or to x 0) (sym q))

        there : (i : ℕ) → i < j → 0 < get_or left (get_or to i 0) 0 → (h : ℕ) × (h < t + 1) × (get_or (set from' t a) h 0 ≡ get_or from i 0) × (get_or (set to' t b) h 0 ≡ get_or to i 0)
        there i l p =
            let (h, lh, fa, tb) = K.kept i l p in
            (h, omega arith, get_or-set_other from' t h a 0 (λ q. omega arith) ∙ fa, get_or-set_other to' t h b 0 (λ q. omega arith) ∙ tb)

    pub sifting_next : {m r : ℕ} {from'' to'' : List ℕ} → j < 1024 → a < 512 → b < 512 → m ≡ get_or left b 0
        → Kept m a b from' to' t from'' to'' r → Sifting left from to (j + 1) from'' to'' r
    sifting_next {m} lj la lb em P =
        either (eq_or_ne m 0)
        (λ z. let (er, ef, et) = P.passed z in rw (er, ef, et) (sifting_pass (sym em ∙ z)))
        (λ n. let (er, ef, et) = P.stored (omega arith) in rw (er, ef, et) (sifting_store lj la lb))

  pub sifting_end : {from' to' : List ℕ} {j q t : ℕ} → j ≤ q → q ≤ j → Sifting left from to j from' to' t → Sifting left from to q from' to' t
  sifting_end {j = j} {q = q} p g K = let e : j ≡ q = omega arith in rw e at K

-- in place: a list that is written at t, no later than j, stands from the next on
pub unmoved_none : {list : List ℕ} → Unmoved list list 0
unmoved_none = record { rest = λ i l. refl }

unmoved_set : {list list' : List ℕ} {j : ℕ} (t a : ℕ) → t ≤ j → Unmoved list list' j → Unmoved list (set list' t a) (j + 1)
unmoved_set {list} {list'} {j} t a l U = record { rest = λ i h. get_or-set_other list' t i a 0 (λ q. omega arith) ∙ U.rest i (omega arith) }

pub unmoved_next : {from to from' to' from'' to'' : List ℕ} {m a b j t r : ℕ} → t ≤ j → Kept m a b from' to' t from'' to'' r → Unmoved from from' j → Unmoved to to' j
    → Unmoved from from'' (j + 1) × Unmoved to to'' (j + 1)
unmoved_next {m = m} {a} {b} {t = t} l P U W =
    either (eq_or_ne m 0)
    (λ z. let (er, ef, et) = P.passed z in rw (ef, et) (record { rest = λ i h. U.rest i (omega arith) }, record { rest = λ i h. W.rest i (omega arith) }))
    (λ n. let (er, ef, et) = P.stored (omega arith) in rw (ef, et) (unmoved_set t a l U, unmoved_set t b l W))

-- edges of A to a marked cluster are edges of B
module _ (A B : Arcs) (left : List ℕ) (leaves : (i : ℕ) → i < A.count → 0 < get_or left (A.from i) 0)
    (kept : (i : ℕ) → i < A.count → 0 < get_or left (A.to i) 0 → (h : ℕ) × (h < B.count) × (B.from h ≡ A.from i) × (B.to h ≡ A.to i)) where
  edge_left : (a b : ℕ) → Edge A a b → 0 < get_or left a 0
  edge_left a b e = let (j, h, ea, eb) = edge_arc A a b e in omega (arith, leaves j h, ap (λ (x : ℕ). get_or left x 0) ea)

  edge_kept : (a b : ℕ) → Edge A a b → 0 < get_or left b 0 → Edge B a b
  edge_kept a b e lb =
      let (j, l, ea, eb) = edge_arc A a b e in
      let (h, lh, fa, tb) = kept j l (omega (arith, ap (λ (x : ℕ). get_or left x 0) eb)) in
      let r = arc_edge B h lh (λ q. edge_other A a b e (sym ea ∙ sym fa ∙ q ∙ tb ∙ eb)) in
      rw (fa ∙ ea, tb ∙ eb) at r

  first_left : {a b : ℕ} → Walk (Edge A) a b → 0 < get_or left a 0
  first_left (one e) = edge_left _ _ e
  first_left (more w e) = first_left w

  walk_kept : {a b : ℕ} → Walk (Edge A) a b → 0 < get_or left b 0 → Walk (Edge B) a b
  walk_kept (one e) lb = one (edge_kept _ _ e lb)
  walk_kept (more w e) lb = more (walk_kept w (edge_left _ _ e)) (edge_kept _ _ e lb)

  kept_free : Acyclic (Edge B) → Acyclic (Edge A)
  unfolding Acyclic Cycle
  kept_free n (v, w) = n (v, walk_kept w (first_left w))

-- where the edges that were kept form no cycle, none do
pub thinned : {left from to from' to' : List ℕ} {r : ℕ} → Marked from (length from) left → Sifting left from to (length from) from' to' r
    → Free from' to' r → Acyclic (Edge (joining from to))
thinned {left} {from} {to} {from'} {to'} {r} T K =
    kept_free (joining from to) (joining (take r from') (take r to')) left T.leaves
    (λ i l p. let (h, lh, fa, tb) = K.kept i l p in (h, omega (arith, front_long K.held.starts), get_or-take r from' h 0 lh ∙ fa, get_or-take r to' h 0 lh ∙ tb))

-- the same for the first q edges
pub rethinned : {left from to from' to' : List ℕ} {q r : ℕ} → Held from to q → Marked from q left → Sifting left from to q from' to' r → Thinned from to q from' to' r
rethinned {left} {from} {to} {from'} {to'} {q} {r} H T K =
    record {
      held = K.held;
      few = K.few;
      free = kept_free (joining (take q from) (take q to)) (joining (take r from') (take r to')) left
          (λ i l. let z : i < q = omega (arith, front_long H.starts) in rw (get_or-take q from i 0 z) (T.leaves i z))
          (λ i l p. let z : i < q = omega (arith, front_long H.starts) in
          let (h, lh, fa, tb) = K.kept i z (rw (get_or-take q to i 0 z) at p) in
          (h, omega (arith, front_long K.held.starts), get_or-take r from' h 0 lh ∙ fa ∙ sym (get_or-take q from i 0 z), get_or-take r to' h 0 lh ∙ tb ∙ sym (get_or-take q to i 0 z)));
    }

-- all rounds
pub rest_next : {starts ends from to from' to' : List ℕ} {q r : ℕ} → Rest starts ends from to q → Thinned from to q from' to' r → Rest starts ends from' to' r
rest_next R T = record { held = T.held; free = λ f. R.free (T.free f) }

pub rest_none : {starts ends from to : List ℕ} {r : ℕ} → Rest starts ends from to r → r ≡ 0 → Acyclic (Edge (joining starts ends))
rest_none {from = from} {to = to} {r = r} R z = R.free (none_free (take r from) (take r to) (front_long R.held.starts ∙ z))
