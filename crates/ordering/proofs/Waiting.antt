-- Counts of the edges that wait give the order: a cluster is ready where its count is 0.
use Prim.Native.Nat.{ℕ, suc, ◌+◌, ◌-◌, ◌≤◌, ◌<◌}
use mathlib.Core.Path.{◌≡◌, refl, sym, ap, ◌∙◌}
use mathlib.Core.Bool.{Bool, true, false, not, ◌&&◌}
use mathlib.Core.List.{List, [], ◌∷◌}
use native.Mathlib.Omega.{arith}
use lib.Dec.{eqb}
use lib.ListN.{length, get_or, set}
use lib.Seq.{get_or-set_same, get_or-set_other}
use borrow.Author.Tests.{eq-eqb, ne_eqb, lt-ltb, le-ltb}
use Rattle.std.specs.Int.{from_bool}
use Rattle.folds.specs.Fold.{when, sum_to, count_to, first_to, zeros}
use Rattle.folds.proofs.Cases.{either, eq_or_ne, when_le, when_zero, and_true, bit_when}
use Rattle.folds.proofs.Sums.{sum_to_step, sum_to_less, sum_to_ext, sum_to_add}
use Rattle.folds.proofs.Searches.{first_to_ext, count_none}
use Rattle.folds.proofs.Lists.{get_d_zeros}
use Rattle.graph.specs.Graph.{Arcs}
use Rattle.graph.specs.Links.{Linked, leave}
use Rattle.graph.proofs.Links.{leave_from, stays, Only, On, sum_on, sum_next}
use Rattle.topology.specs.Order.{waits, ready, or_none, order_from}
use Rattle.ordering.specs.Counts.{left, cross, gone, Counted, TakenOff, Released, free}

module _ (A : Arcs) where
  pub left_le : (marks : List ℕ) (v j : ℕ) → left A marks v j ≤ 1
  unfolding left
  left_le marks v j = when_le (waits A marks v j) 1

  -- at first every edge between two waits
  left-zeros : (v j : ℕ) → left A (zeros 512) v j ≡ when (eqb (A.to j) v) (cross A j)
  unfolding left waits cross
  left-zeros v j =
      either (eq_or_ne (A.to j) v)
      (λ e. rw (← e, eq-eqb (A.to j) (A.to j) refl, get_d_zeros 512 (A.from j)) (rw and_true refl))
      (λ n. rw (ne_eqb (A.to j) v n))

  pub left_is : {a b w : ℕ} (v j : ℕ) → a ≡ A.from j → b ≡ A.to j → w ≡ from_bool (not (eqb a b)) → when (eqb b v) w ≡ left A (zeros 512) v j
  unfolding cross
  left_is v j h k e = rw (e, h, k, bit_when) (sym (left-zeros v j))

  pub gone_is : {b : ℕ} (u v j : ℕ) → A.from j ≡ u → b ≡ A.to j → when (eqb b v) (when (not (eqb u b)) 1) ≡ gone A u v j
  unfolding gone cross
  gone_is u v j e k = rw (k, e, eq-eqb u u refl)

  pub gone_only : (u v : ℕ) → Only (leave A) u (gone A u v)
  unfolding gone cross
  gone_only u v i n =
      either (eq_or_ne (A.from i) u)
      (λ e. rw (eq-eqb (A.from i) (A.to i) (e ∙ sym (stays A i n e))) (ap (λ (x : ℕ). when (eqb (A.from i) u) x) (when_zero (eqb (A.to i) v)) ∙ when_zero (eqb (A.from i) u)))
      (λ o. rw (ne_eqb (A.from i) u o))

  -- where u is taken, its edges no longer wait, and the others do as before
  left-gone : (marks : List ℕ) (u v j : ℕ) → get_or marks u 0 ≡ 0 → u < length marks → left A marks v j ≡ left A (set marks u 1) v j + gone A u v j
  unfolding left waits gone cross
  left-gone marks u v j z l =
      either (eq_or_ne (A.from j) u)
      (λ e.
      either (eq_or_ne (A.to j) v)
      (λ h. rw (e, ← h, eq-eqb (A.to j) (A.to j) refl, eq-eqb u u refl, get_or-set_same marks u 1 0 l, z) (split (eqb u (A.to j))))
      (λ n. rw (ne_eqb (A.to j) v n, eq-eqb (A.from j) u e)))
      (λ n. rw (ne_eqb (A.from j) u n, get_or-set_other marks u (A.from j) 1 0 n) (omega arith))
    where
      split : (t : Bool) → when (not t && true) 1 ≡ when (not t && false) 1 + when (not t) 1
      split true = refl
      split false = refl

  module _ {m : ℕ} {head next : List ℕ} (L : Linked (leave A) m head next) (count₀ pool₀ : List ℕ) (u g : ℕ) (lu : u < 512) where
    pub released_none : length count₀ ≡ 512 → Released A u (get_or head u 0) g count₀ pool₀ count₀ pool₀
    released_none e =
        record { tall = e; is = λ v _. omega (arith, sum_on L u (gone A u v) (gone_only u v) lu); keeps = λ _ _ k. k }

    pub released_room : (j b : ℕ) (count pool : List ℕ) → ((v : ℕ) → v < 512 → sum_to m (gone A u v) ≤ get_or count₀ v 0)
        → On (leave A) m u j → j < m → b ≡ A.to j → b < 512 → Released A u j g count₀ pool₀ count pool → (u ≡ b → ⊥) → 0 < get_or count b 0
    released_room j b count pool p o l k low r n =
        let q : 1 ≡ gone A u b j = rw (eq-eqb b b refl, ne_eqb u b n) at (gone_is u b j (leave_from A j (o.at l) lu) k) in
        omega (arith, r.is b low, p b low, sum_to_less (gone A u b) (j + 1) m (omega arith), sum_to_step j (gone A u b))

    pub released_turn : (j b : ℕ) (count pool count' pool' : List ℕ)
        → On (leave A) m u j → j < m → b ≡ A.to j → TakenOff u b g count pool count' pool' → Released A u j g count₀ pool₀ count pool
        → Released A u (get_or next j 0) g count₀ pool₀ count' pool'
    released_turn j b count pool count' pool' o l k d c =
        record {
          tall = d.tall;
          is = λ v lv. omega (arith, sum_next L u j _ _ (gone A u v) (gone_only u v) o l refl (gone_is u v j (leave_from A j (o.at l) lu) k), d.is v lv, c.is v lv);
          keeps = λ marks s h. d.keeps marks (λ v lv n. omega (arith, s v lv n, c.is v lv)) (c.keeps marks s h);
        }

  module _ (marks count : List ℕ) (C : Counted A marks count) where
    free-ready : (v : ℕ) → v < 512 → free marks count v ≡ ready A marks v
    unfolding free ready left count_to
    free-ready v l = rw (C.is v l, ← count_none A.count (waits A marks v))

    pub first_is : (g u : ℕ) → g ≤ 512 → u ≡ first_to g (free marks count) → u ≡ first_to g (ready A marks)
    first_is g u l e = e ∙ first_to_ext g _ _ (λ k lk. free-ready k (omega arith))

    split : (u v : ℕ) → get_or marks u 0 ≡ 0 → u < length marks → v < 512
        → get_or count v 0 ≡ sum_to A.count (left A (set marks u 1) v) + sum_to A.count (gone A u v)
    split u v z l lv = C.is v lv ∙ sum_to_ext A.count _ _ (λ j _. left-gone marks u v j z l) ∙ sum_to_add A.count _ _

    pub room : (u : ℕ) → get_or marks u 0 ≡ 0 → u < length marks → (v : ℕ) → v < 512 → sum_to A.count (gone A u v) ≤ get_or count v 0
    room u z l v lv = omega (arith, split u v z l lv)

    pub counted_next : (u g : ℕ) (pool count' pool' : List ℕ) → get_or marks u 0 ≡ 0 → u < length marks
        → Released A u A.count g count pool count' pool' → Counted A (set marks u 1) count'
    counted_next u g pool count' pool' z l R = record { tall = R.tall; is = λ v lv. omega (arith, split u v z l lv, R.is v lv) }

  -- the order, one step at a time
  module _ (g n v : ℕ) (marks : List ℕ) where
    pub order_more : n < g → v ≡ first_to g (ready A marks) → v < g → order_from A g (g - n) marks ≡ v ∷ order_from A g (g - (n + 1)) (set marks v 1)
    unfolding order_from or_none
    order_more l e h = let q : g - n ≡ suc (g - (n + 1)) = omega arith in rw (q, ← e, lt-ltb v g h)

    pub order_stop : n < g → v ≡ first_to g (ready A marks) → g ≤ v → order_from A g (g - n) marks ≡ []
    unfolding order_from or_none
    order_stop l e h = let q : g - n ≡ suc (g - (n + 1)) = omega arith in rw (q, ← e, le-ltb v g h)

  pub order_end : (g n : ℕ) (marks : List ℕ) → g ≤ n → order_from A g (g - n) marks ≡ []
  unfolding order_from
  order_end g n marks l = let q : g - n ≡ 0 = omega arith in rw q
