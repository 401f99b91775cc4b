-- What is known of the clusters: made by a sweep, made right again for one of them, and kept where one moves.
use Prim.Native.Nat.{ℕ, ◌+◌, ◌≤◌, ◌<◌, min, max}
use mathlib.Core.Path.{◌≡◌, refl, sym, ap, ◌∙◌}
use mathlib.Core.Bool.{Bool, true, false, ◌&&◌}
use mathlib.Core.Logic.{◌⊎◌, inl, inr}
use mathlib.Core.List.{List}
use native.Mathlib.Omega.{arith}
use lib.Dec.{eqb, ltb, leb}
use lib.ListN.{length, get_or, set, length-set, replicate, get_or-replicate}
use lib.Seq.{get_or-set_same, get_or-set_other}
use borrow.Author.Tests.{eqb-true, eq-eqb, ne_eqb, ltb-true, ltb-false, leb-false, le-leb}
use Rattle.folds.specs.Fold.{pick, turns}
use Rattle.folds.proofs.Cases.{no_bool, by, either, eq_or_ne}
use Rattle.folds.proofs.Choose.{choose_start, choose_kept, min_one, max_one}
use Rattle.folds.proofs.Loops.{turns_zero, turns_step}
use Rattle.graph.specs.Graph.{via}
use Rattle.graph.specs.Links.{Linked}
use Rattle.graph.proofs.Links.{On}
use Rattle.neighbours.specs.Visit.{fold_by, lower_by, raise_by, low_next, high_before}
use Rattle.neighbours.specs.declared.Mark.{Mark}
use Rattle.neighbours.specs.declared.Mark.TheVariants.{Closed, Right, Stale}
use Rattle.neighbours.specs.Known.{mark_at, Known, Swept, Opened, Fresh, among, Staled, Roused}

-- a step at the edges whose near end is c
abbrev at : List ℕ → (ℕ → ℕ → ℕ) → ℕ → ℕ → ℕ → ℕ
at near f c j s = pick (eqb (get_or near j 0) c) (f j s) s

-- by one more edge, just the entry of its near end changes
at_turn : (near l : List ℕ) (f : ℕ → ℕ → ℕ) (s₀ j : ℕ) {a : ℕ} → length l ≡ 512 → a ≡ get_or near j 0
    → ((c : ℕ) → c < 512 → get_or l c 0 ≡ turns j (at near f c) s₀) → (c : ℕ) → c < 512 → get_or (set l a (f j (get_or l a 0))) c 0 ≡ turns (j + 1) (at near f c) s₀
at_turn near l f s₀ j {a} long q is c lc =
    either (eq_or_ne c a)
    (λ e. rw (e, get_or-set_same l a (f j (get_or l a 0)) 0 (omega arith), turns_step, eq-eqb (get_or near j 0) a (sym q)) (ap (f j) (is a (omega arith))))
    (λ n. rw (get_or-set_other l a c (f j (get_or l a 0)) 0 n, turns_step, ne_eqb (get_or near j 0) c (λ e. n (sym e ∙ sym q))) (is c lc))

-- the sweep
module _ (froms tos table : List ℕ) (k : ℕ) where
  pub swept_none : Swept froms tos table k 0 (replicate 512 k) (replicate 512 0)
  swept_none =
      record {
        low_long = refl;
        high_long = refl;
        low_is = λ c l. get_or-replicate 512 c k 0 l ∙ turns_zero _ k;
        high_is = λ c l. get_or-replicate {A = ℕ} 512 c 0 0 l ∙ turns_zero _ 0;
      }

  pub swept_turn : (low high : List ℕ) {j a b : ℕ} → a ≡ get_or froms j 0 → b ≡ get_or tos j 0 → Swept froms tos table k j low high
      → Swept froms tos table k (j + 1) (set low a (min (get_or low a 0) (get_or table b 0))) (set high b (max (get_or high b 0) (get_or table a 0 + 1)))
  unfolding lower_by raise_by
  swept_turn low high {j} {a} {b} p q S =
      record {
        low_long = length-set low a _ ∙ S.low_long;
        high_long = length-set high b _ ∙ S.high_long;
        low_is = rw q (at_turn froms low (λ i s. min s (via table tos i)) k j S.low_long p S.low_is);
        high_is = rw p (at_turn tos high (λ i s. max s (via table froms i + 1)) 0 j S.high_long q S.high_is);
      }

-- a mark is Stale, or not
stale_or : (x : Mark) → (x ≡ Stale) ⊎ (x ≡ Stale → ⊥)
stale_or Closed = inr (λ e. cc)
stale_or Right = inr (λ e. cc)
stale_or Stale = inl refl

-- where a test's mark came out as Closed, the test failed
closed_no : {t : Bool} {x : Mark} → x ≡ pick t Right Closed → x ≡ Closed → t ≡ false
closed_no {t = true} e z = cc
closed_no {t = false} e z = refl

-- the marks after it
module _ (table low high : List ℕ) (k : ℕ) where
  pub opened_none : Opened table low high k 0 (replicate 512 Stale)
  opened_none = record { long = refl; is = λ c l. absurd (omega arith); rest = λ c _ l. get_or-replicate 512 c Stale Closed l }

module _ {froms tos table : List ℕ} {k : ℕ} where
  pub known_new : {low high : List ℕ} {marks : List Mark} {g : ℕ} → Swept froms tos table k (length froms) low high → Opened table low high k g marks → Known froms tos table k low high marks
  unfolding low_next high_before
  known_new {marks = marks} {g = g} S O =
      record {
        low_long = S.low_long;
        high_long = S.high_long;
        marks_long = O.long;
        low_is = λ c l _. S.low_is c l;
        high_is = λ c l _. S.high_is c l;
        closed = λ c l e. by (ltb c g) (λ t. closed_no (O.is c (ltb-true c g t)) e) (λ t. let r = O.rest c (ltb-false c g t) l in cc);
      }

  -- one cluster's numbers made right again
  pub known_set : {low high : List ℕ} {marks : List Mark} {h x y : ℕ} → h < 512 → x ≡ low_next froms tos table h k → y ≡ high_before froms tos table h
      → Known froms tos table k low high marks → Fresh froms tos table k h (set low h x) (set high h y) (set marks h Right)
  known_set {low} {high} {marks} {h} {x} {y} l ex ey K =
      record {
        known = record {
          low_long = length-set low h x ∙ K.low_long;
          high_long = length-set high h y ∙ K.high_long;
          marks_long = length-set marks h Right ∙ K.marks_long;
          low_is = λ c lc n.
              either (eq_or_ne c h) (λ e. rw (e, get_or-set_same low h x 0 (omega (arith, K.low_long))) ex)
              (λ o. rw (get_or-set_other low h c x 0 o) (K.low_is c lc (rw (get_or-set_other marks h c Right Closed o) at n)));
          high_is = λ c lc n.
              either (eq_or_ne c h) (λ e. rw (e, get_or-set_same high h y 0 (omega (arith, K.high_long))) ey)
              (λ o. rw (get_or-set_other high h c y 0 o) (K.high_is c lc (rw (get_or-set_other marks h c Right Closed o) at n)));
          closed = λ c lc z.
              either (eq_or_ne c h) (λ e. absurd (clash (sym here ∙ rw e at z)))
              (λ o. rw (get_or-set_other low h c x 0 o, get_or-set_other high h c y 0 o) (K.closed c lc (rw (get_or-set_other marks h c Right Closed o) at z)));
        };
        right = λ e. let q = here in cc;
      }
    where
      here : mark_at (set marks h Right) h ≡ Right
      here = get_or-set_same marks h Right Closed (omega (arith, K.marks_long))

      clash : Right ≡ Closed → ⊥
      clash e = cc

-- marks of Stale along a walk
module _ (near far : List ℕ) {m : ℕ} {head next : List ℕ} (L : Linked (λ i. get_or near i 0) m head next) (numbers : List ℕ) (first last : ℕ) (marks : List Mark) where
  pub staled_turn : (h j : ℕ) {now : List Mark} {c : ℕ} {x : Mark} → On (λ i. get_or near i 0) m h j → j < m → c ≡ get_or far j 0 → c < 512
      → x ≡ pick (leb first (get_or numbers c 0) && leb (get_or numbers c 0) last) Stale (mark_at now c)
      → Staled near far numbers first last h j marks now → Staled near far numbers first last h (get_or next j 0) marks (set now c x)
  unfolding among
  staled_turn h j {now} {c} {x} o l q lc ex S =
      record {
        long = length-set now c x ∙ S.long;
        far_ends = λ i li e.
            either (eq_or_ne (get_or far i 0) c)
            (λ z. by (leb first (get_or numbers c 0) && leb (get_or numbers c 0) last) (λ t. inl (rw (z, here, ex, t))) (λ t. inr (rw z t)))
            (λ n. rw (get_or-set_other now c (get_or far i 0) x Closed n) (S.far_ends i (passed i li e (λ y. n (ap (λ (x : ℕ). get_or far x 0) y ∙ sym q))) e));
        others = λ d n.
            either (eq_or_ne d c)
            (λ e. by (leb first (get_or numbers c 0) && leb (get_or numbers c 0) last) (λ t. absurd (n (rw (e, here, ex, t))))
            (λ t. let old : x ≡ mark_at now c = rw t at ex in rw (e, here) (old ∙ S.others c (λ y. n (rw (e, here) (old ∙ y))))))
            (λ z. get_or-set_other now c d x Closed z ∙ S.others d (rw (get_or-set_other now c d x Closed z) at n));
      }
    where
      here : mark_at (set now c x) c ≡ x
      here = get_or-set_same now c x Closed (omega (arith, S.long))

      -- between j and the next edge of h there is none
      passed : (i : ℕ) → i < get_or next j 0 → get_or near i 0 ≡ h → (i ≡ j → ⊥) → i < j
      passed i li e n = by (ltb i j) (λ t. ltb-true i j t) (λ t. let g = ltb-false i j t in absurd ((L.nexts j l).skips i (omega arith) li (e ∙ sym (o.at l))))

pub roused : {froms tos low high : List ℕ} {marks now now' : List Mark} {h own t first last : ℕ} → length tos ≡ length froms → last ≡ max (own + 1) t → first ≡ min own (t + 1)
    → Staled froms tos high 0 last h (length froms) marks now → Staled tos froms low first 16 h (length tos) now now' → Roused froms tos h own t low high marks now'
roused {high = high} {now = now} {now' = now'} e el ef S T =
    record {
      long = T.long;
      next = λ i l q.
          either (stale_or (mark_at now' _)) inl (λ n. either (S.far_ends i l q) (λ z. absurd (n (T.others _ n ∙ z))) (λ z. inr (rw (← el) z)));
      before = λ i l q. either (T.far_ends i (omega arith) q) inl (λ z. inr (rw (← ef) z));
      others = λ c n. let z = T.others c n in z ∙ S.others c (λ y. n (z ∙ y));
    }

-- a number that is not among those
beyond : (numbers : List ℕ) (last c : ℕ) → among numbers 0 last c ≡ false → last < get_or numbers c 0
unfolding among
beyond numbers last c e =
    by (leb (get_or numbers c 0) last) (λ t. absurd (no_bool (sym e ∙ rw (le-leb 0 (get_or numbers c 0) (omega arith), t)))) (leb-false (get_or numbers c 0) last)

below : (numbers : List ℕ) (first last c : ℕ) → get_or numbers c 0 ≤ last → among numbers first last c ≡ false → get_or numbers c 0 < first
unfolding among
below numbers first last c l e =
    by (leb first (get_or numbers c 0)) (λ t. absurd (no_bool (sym e ∙ rw (t, le-leb (get_or numbers c 0) last l)))) (leb-false first (get_or numbers c 0))

-- a cluster's numbers after a move of h: those edges that lead to h did not give them, and do not now
module _ (near far table : List ℕ) (h t c m : ℕ) (in_table : h < length table) where
  low_kept : (k n : ℕ) → n ≡ turns m (lower_by near far table c) k → ((j : ℕ) → j < m → get_or near j 0 ≡ c → get_or far j 0 ≡ h → (n < get_or table h 0) × (n ≤ t))
      → n ≡ turns m (lower_by near far (set table h t) c) k
  unfolding lower_by
  low_kept k n e w =
      e ∙ choose_kept min (λ a b. a ≤ b) (λ a. omega arith) (λ a b c x y. omega arith) (λ a b. omega arith) (λ a b. omega arith) (λ x a b p q. omega arith) (λ a b p q. omega arith) min_one
      (λ j. eqb (get_or near j 0) c) (via table far) (via (set table h t) far) k m
      (λ j l q. either (eq_or_ne (get_or far j 0) h)
      (λ z. let (x, y) = w j l (eqb-true _ _ q) z in inr (rw z ((λ v. omega arith), rw (get_or-set_same table h t 0 in_table) (omega arith))))
      (λ z. inl (sym (get_or-set_other table h (get_or far j 0) t 0 z))))

  high_kept : (n : ℕ) → n ≡ turns m (raise_by near far table c) 0 → ((j : ℕ) → j < m → get_or near j 0 ≡ c → get_or far j 0 ≡ h → (get_or table h 0 + 1 < n) × (t + 1 ≤ n))
      → n ≡ turns m (raise_by near far (set table h t) c) 0
  unfolding raise_by
  high_kept n e w =
      e ∙ choose_kept max (λ a b. b ≤ a) (λ a. omega arith) (λ a b c x y. omega arith) (λ a b. omega arith) (λ a b. omega arith) (λ x a b p q. omega arith) (λ a b p q. omega arith) max_one
      (λ j. eqb (get_or near j 0) c) (λ j. via table far j + 1) (λ j. via (set table h t) far j + 1) 0 m
      (λ j l q. either (eq_or_ne (get_or far j 0) h)
      (λ z. let (x, y) = w j l (eqb-true _ _ q) z in inr (rw z ((λ v. omega arith), rw (get_or-set_same table h t 0 in_table) (omega arith))))
      (λ z. inl (ap (λ (x : ℕ). x + 1) (sym (get_or-set_other table h (get_or far j 0) t 0 z)))))

low_most : (near far table : List ℕ) (c k m : ℕ) → turns m (lower_by near far table c) k ≤ k
unfolding lower_by
low_most near far table c k m =
    choose_start min (λ a b. a ≤ b) (λ a. omega arith) (λ a b c x y. omega arith) (λ a b. omega arith) (λ a b. omega arith) (λ x a b p q. omega arith) (λ a b p q. omega arith)
    (λ j. eqb (get_or near j 0) c) (via table far) k m

-- h has moved, to which something was open
pub known_moved : {froms tos table low high : List ℕ} {marks marks' : List Mark} {k h own t : ℕ} → k ≤ 16 → h < length table → own ≡ get_or table h 0 → Known froms tos table k low high marks
    → (mark_at marks h ≡ Closed → ⊥) → Roused froms tos h own t low high marks marks' → Known froms tos (set table h t) k low high marks'
unfolding low_next high_before
known_moved {froms} {tos} {table} {low} {high} {marks} {marks'} {k} {h} {own} {t} lk lh eo K some R =
    record {
      low_long = K.low_long;
      high_long = K.high_long;
      marks_long = R.long;
      low_is = λ c l n.
          let was = K.low_is c l (before c n) in
          low_kept froms tos table h t c (length froms) lh k (get_or low c 0) was
          (λ j lj e z. either (R.before j lj z) (λ y. absurd (n (ap (mark_at marks') (sym e) ∙ y)))
          (λ y. let b = below low (min own (t + 1)) 16 c (omega (arith, was, low_most froms tos table c k (length froms))) (rw e at y) in (omega arith, omega arith)));
      high_is = λ c l n.
          let was = K.high_is c l (before c n) in
          high_kept tos froms table h t c (length froms) lh (get_or high c 0) was
          (λ j lj e z. either (R.next j lj z) (λ y. absurd (n (ap (mark_at marks') (sym e) ∙ y)))
          (λ y. let b = beyond high (max (own + 1) t) c (rw e at y) in (omega arith, omega arith)));
      closed = λ c l z.
          let old = sym (R.others c (λ y. cc)) ∙ z in
          either (eq_or_ne c h) (λ e. absurd (some (rw e at old))) (λ n. rw (get_or-set_other table h c t 0 n) (K.closed c l old));
    }
  where
    before : (c : ℕ) → (mark_at marks' c ≡ Stale → ⊥) → mark_at marks c ≡ Stale → ⊥
    before c n e = n (R.others c n ∙ e)

-- what the two walks from h gave, by the lists that they took
pub low_walked : {near far froms tos : List ℕ} (table : List ℕ) (h k : ℕ) {x : ℕ} → near ≡ froms → far ≡ tos → x ≡ turns (length near) (fold_by min near far table h) k
    → x ≡ low_next froms tos table h k
unfolding fold_by lower_by low_next
low_walked table h k n f e = rw (n, f) at e

pub high_walked : {near far froms tos : List ℕ} (table : List ℕ) (h : ℕ) {x : ℕ} → near ≡ tos → far ≡ froms → length tos ≡ length froms
    → x ≡ turns (length near) (fold_by (λ s p. max s (p + 1)) near far table h) 0 → x ≡ high_before froms tos table h
unfolding fold_by raise_by high_before
high_walked table h n f l e = rw (n, f, l) at e
