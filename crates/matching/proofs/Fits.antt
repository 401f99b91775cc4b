-- What the arrays say is what the rules say: the offer that a successor makes.
use Prim.Native.Nat.{ℕ, zero, suc, ◌≤◌, ◌<◌}
use mathlib.Core.Path.{◌≡◌, refl, sym, ap, ◌∙◌}
use mathlib.Core.Bool.{Bool, true, false, not, ◌&&◌, ◌||◌}
use mathlib.Core.Logic.{◌⊎◌, inl, inr}
use mathlib.Core.List.{List, [], ◌∷◌}
use native.Mathlib.Omega.{arith}
use lib.Dec.{eqb}
use lib.ListN.{length, get_or}
use borrow.Author.Tests.{eq-eqb, ne_eqb}
use Rattle.folds.specs.Fold.{when, sum_to}
use Rattle.folds.proofs.Cases.{no_bool, by, either, eq_or_ne, both, not_yes, not_no}
use Rattle.folds.proofs.Sums.{sum_to_ext, sum_to_none, sum_to_mono}
use Rattle.graph.specs.Graph.{Arcs, Edge, crossing, width_of, Inside}
use Rattle.graph.proofs.Edges.{arc_edge, edge_arc, edge_other}
use Rattle.graph.specs.Walk.{Acyclic}
use Rattle.topology.specs.Level.{levels_of}
use Rattle.contraction.specs.Rules.{Pair, pair, Round, pair_at, Next, OnlySuccessor, RuleOne, RuleTwo, Keeps}
use Rattle.contraction.specs.Tests.{all_of, fits, keeps}
use Rattle.contraction.specs.Next.{mate_of}
use Rattle.contraction.proofs.Tests.{all_of_e, keeps_more, tested_keeps}
use Rattle.contraction.proofs.Mates.{Is, alone, first, second, mate_is}
use Rattle.contraction.proofs.Join.{flat_or_only}
use Rattle.graph.specs.Coarse.{sent}
use Rattle.matching_scan.specs.State.{leaves}
use Rattle.matching.specs.Promises.{any_of}

-- some pair passes, at an index
pub any_of_cons : (t : Pair → Bool) (p : Pair) (ps : Round) → any_of t (p ∷ ps) ≡ (t p || any_of t ps)
unfolding any_of all_of
any_of_cons t p ps = go (t p) (all_of (λ q. not (t q)) ps)
  where
    go : (a b : Bool) → not (not a && b) ≡ (a || not b)
    go true b = refl
    go false b = refl

pub any_of_e : (t : Pair → Bool) (ps : Round) → any_of t ps ≡ true → (i : ℕ) × (i < length ps) × (t (pair_at ps i) ≡ true)
unfolding any_of all_of
any_of_e t [] e = absurd (no_bool e)
any_of_e t (p ∷ ps) e =
    by (t p) (λ y. (0, omega arith, y))
    (λ n. let (i, l, y) = any_of_e t ps (rw n at e) in (suc i, omega arith, y))

pub any_of_none : (t : Pair → Bool) (ps : Round) → any_of t ps ≡ false → (i : ℕ) → i < length ps → t (pair_at ps i) ≡ false
unfolding any_of
any_of_none t ps e i l = not_yes (t (pair_at ps i)) (all_of_e (λ q. not (t q)) ps (not_no (all_of (λ q. not (t q)) ps) e) i l)

-- what edge j sends sums to the width of the rung's edge
pub sent_width : (A : Arcs) (widths : List ℕ) (u b : ℕ) → sum_to A.count (sent A widths u b) ≡ width_of A widths u b
unfolding sent width_of crossing
sent_width A widths u b =
    either (eq_or_ne u b)
    (λ e. rw (eq-eqb u b e) (sum_to_none A.count _ (λ j l. same e j)))
    (λ n. rw (ne_eqb u b n) (sum_to_ext A.count _ _ (λ j l. other n j)))
  where
    same : u ≡ b → (j : ℕ) → when (eqb (A.from j) u && eqb (A.to j) b) (when (not (eqb (A.from j) (A.to j))) (get_or widths j 0)) ≡ 0
    same e j =
        either (eq_or_ne (A.from j) u)
        (λ p. either (eq_or_ne (A.to j) b)
        (λ q. rw (eq-eqb (A.from j) (A.to j) (p ∙ e ∙ sym q), eq-eqb (A.from j) u p, eq-eqb (A.to j) b q))
        (λ q. rw (eq-eqb (A.from j) u p, ne_eqb (A.to j) b q)))
        (λ p. rw (ne_eqb (A.from j) u p))

    other : (u ≡ b → ⊥) → (j : ℕ) → when (eqb (A.from j) u && eqb (A.to j) b) (when (not (eqb (A.from j) (A.to j))) (get_or widths j 0)) ≡ when (eqb (A.from j) u && eqb (A.to j) b) (get_or widths j 0)
    other n j =
        either (eq_or_ne (A.from j) u)
        (λ p. either (eq_or_ne (A.to j) b)
        (λ q. rw (ne_eqb (A.from j) (A.to j) (λ z. n (sym p ∙ z ∙ q)), eq-eqb (A.from j) u p, eq-eqb (A.to j) b q))
        (λ q. rw (eq-eqb (A.from j) u p, ne_eqb (A.to j) b q)))
        (λ p. rw (ne_eqb (A.from j) u p))

-- one term is lower, and none is higher: so is the sum
sum_strict : (n : ℕ) (f h : ℕ → ℕ) → ((k : ℕ) → k < n → f k ≤ h k) → (k : ℕ) → k < n → f k < h k → sum_to n f < sum_to n h
unfolding sum_to
sum_strict zero f h le k l s = absurd (omega arith)
sum_strict (suc n) f h le k l s =
    either (eq_or_ne k n)
    (λ e. let z : f n < h n = rw e at s in omega (arith, sum_to_mono n f h (λ i li. le i (omega arith))))
    (λ ne. omega (arith, sum_strict n f h (λ i li. le i (omega arith)) k (omega arith) s, le n (omega arith)))

module _ (A : Arcs) (widths : List ℕ) (wide : (j : ℕ) → j < A.count → 0 < get_or widths j 0) (u b : ℕ) (t : Edge A u b) where
  sent_le : (j : ℕ) → sent A widths u b j ≤ leaves A widths u j
  unfolding sent leaves
  sent_le j = go (eqb (A.from j) u) (eqb (A.to j) b)
    where
      go : (s r : Bool) → when (s && r) (crossing A widths j) ≤ when s (crossing A widths j)
      go true true = omega arith
      go true false = omega arith
      go false r = omega arith

  -- all that leaves u goes to b exactly if b is its only successor
  pub all_only : sum_to A.count (sent A widths u b) ≡ sum_to A.count (leaves A widths u) → (w : ℕ) → Edge A u w → w ≡ b
  unfolding sent leaves crossing
  all_only e w s =
      either (eq_or_ne w b) (λ q. q)
      (λ n.
      let (j, l, ea, eb) = edge_arc A u w s in
      let less : sent A widths u b j < leaves A widths u j =
      rw (eq-eqb (A.from j) u ea, ne_eqb (A.to j) b (λ q. n (sym eb ∙ q)), ne_eqb (A.from j) (A.to j) (λ q. edge_other A u w s (sym ea ∙ q ∙ eb))) (wide j l) in
      absurd (omega (arith, sum_strict A.count (sent A widths u b) (leaves A widths u) (λ k _. sent_le k) j l less)))

  pub only_all : ((w : ℕ) → Edge A u w → w ≡ b) → sum_to A.count (sent A widths u b) ≡ sum_to A.count (leaves A widths u)
  unfolding sent leaves crossing
  only_all h = sum_to_ext A.count _ _ (λ j l. go j l)
    where
      go : (j : ℕ) → j < A.count → when (eqb (A.from j) u && eqb (A.to j) b) (when (not (eqb (A.from j) (A.to j))) (get_or widths j 0)) ≡ when (eqb (A.from j) u) (when (not (eqb (A.from j) (A.to j))) (get_or widths j 0))
      go j l =
          either (eq_or_ne (A.from j) u)
          (λ p. either (eq_or_ne (A.from j) (A.to j))
          (λ q. rw (eq-eqb (A.from j) u p, eq-eqb (A.from j) (A.to j) q) (zero_either (eqb (A.to j) b)))
          (λ q. rw (eq-eqb (A.from j) u p, eq-eqb (A.to j) b (h (A.to j) (rw p at (arc_edge A j l q))))))
          (λ p. rw (ne_eqb (A.from j) u p))
        where
          zero_either : (s : Bool) → when s 0 ≡ 0
          zero_either true = refl
          zero_either false = refl

-- pairs that keep the rules, on g clusters without a cycle
module _ (A : Arcs) (g : ℕ) (inside : Inside A g) (ac : Acyclic (Edge A)) (ps : Round) (K : Keeps A g ps) (u b : ℕ) where
  abbrev L : List ℕ
  L = levels_of A g

  abbrev p : Pair
  p = pair u b

  -- u takes b: what that says of each
  pub record Free : Type 0 where
    pub joins : Edge A u b
    pub from_single : mate_of ps u ≡ u
    pub to_single : mate_of ps b ≡ b
    pub from_clear : (i : ℕ) → i < length ps → Edge A u (pair_at ps i).to → Next A g u (pair_at ps i).to → ⊥
    pub to_clear : (i : ℕ) → i < length ps → Edge A (pair_at ps i).from b → Next A g (pair_at ps i).from b → ⊥
    pub near : Next A g u b ⊎ OnlySuccessor A g u b

  pub fits_free : fits A L g ps p ≡ true → Free
  fits_free t =
      record {
        joins = (K'.one 0 (omega arith)).joins;
        from_single = go_from (mate_is ps u);
        to_single = go_to (mate_is ps b);
        from_clear = λ i l e n. (K'.two 0 (suc i) (omega arith) (omega arith) (λ z. omega arith)).clear e n;
        to_clear = λ i l e n. (K'.two (suc i) 0 (omega arith) (omega arith) (λ z. omega arith)).clear e n;
        near = flat_or_only A g inside ac (p ∷ ps) K' 0 (omega arith);
      }
    where
      K' : Keeps A g (p ∷ ps)
      K' = keeps_more A g inside ps p K t

      go_from : {y : ℕ} → Is ps u y → y ≡ u
      go_from (alone e n) = e
      go_from (first i l x y) = absurd ((K'.two 0 (suc i) (omega arith) (omega arith) (λ z. omega arith)).from_from x)
      go_from (second i l x y) = absurd ((K'.two 0 (suc i) (omega arith) (omega arith) (λ z. omega arith)).from_to x)

      go_to : {y : ℕ} → Is ps b y → y ≡ b
      go_to (alone e n) = e
      go_to (first i l x y) = absurd ((K'.two (suc i) 0 (omega arith) (omega arith) (λ z. omega arith)).from_to (sym x))
      go_to (second i l x y) = absurd ((K'.two (suc i) 0 (omega arith) (omega arith) (λ z. omega arith)).to_to (sym x))

  -- a cluster that is its own mate is in no pair
  outside : (c : ℕ) → mate_of ps c ≡ c → (i : ℕ) → i < length ps → (c ≡ (pair_at ps i).from → ⊥) × (c ≡ (pair_at ps i).to → ⊥)
  outside c e = go (mate_is ps c) e
    where
      go : {y : ℕ} → Is ps c y → y ≡ c → (i : ℕ) → i < length ps → (c ≡ (pair_at ps i).from → ⊥) × (c ≡ (pair_at ps i).to → ⊥)
      go (alone e n) q = n
      go (first i l x y) q = absurd (edge_other A _ _ (K.one i l).joins (sym x ∙ sym q ∙ y))
      go (second i l x y) q = absurd (edge_other A _ _ (K.one i l).joins (sym y ∙ q ∙ x))

  pub free_fits : Free → fits A L g ps p ≡ true
  unfolding keeps
  free_fits F = (both (fits A L g ps p) (keeps A L g ps) (tested_keeps A g inside (p ∷ ps) (record { one = ones; two = twos }))).0
    where
      ones : (i : ℕ) → i < length (p ∷ ps) → RuleOne A g (pair_at (p ∷ ps) i)
      ones zero l = record { joins = F.joins; near = either F.near (λ n. inl n) (λ o. inr (inl o)) }
      ones (suc i) l = K.one i (omega arith)

      twos : (i k : ℕ) → i < length (p ∷ ps) → k < length (p ∷ ps) → (i ≡ k → ⊥) → RuleTwo A g (pair_at (p ∷ ps) i) (pair_at (p ∷ ps) k)
      twos zero zero l h n = absurd (n refl)
      twos zero (suc k) l h n =
          record {
            clear = F.from_clear k (omega arith);
            from_from = (outside u F.from_single k (omega arith)).0;
            from_to = (outside u F.from_single k (omega arith)).1;
            to_to = (outside b F.to_single k (omega arith)).1;
          }
      twos (suc i) zero l h n =
          record {
            clear = F.to_clear i (omega arith);
            from_from = λ e. (outside u F.from_single i (omega arith)).0 (sym e);
            from_to = λ e. (outside b F.to_single i (omega arith)).0 (sym e);
            to_to = λ e. (outside b F.to_single i (omega arith)).1 (sym e);
          }
      twos (suc i) (suc k) l h n = K.two i k (omega arith) (omega arith) (λ e. n (ap suc e))
