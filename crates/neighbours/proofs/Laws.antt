-- Walks along a cluster's edges that see the parts at the far ends.
use Prim.Native.Nat.{ℕ, ◌+◌, ◌-◌, ◌≤◌, ◌<◌, min, max}
use mathlib.Core.Path.{◌≡◌, refl, sym, ◌∙◌}
use mathlib.Core.Bool.{true, ◌&&◌}
use mathlib.Core.Logic.{◌⊎◌}
use mathlib.Core.List.{List}
use native.Mathlib.Omega.{arith}
use lib.Dec.{eqb}
use lib.ListN.{length, get_or, set, length-set, replicate, get_or-replicate}
use borrow.Author.Tests.{eqb-true, eq-eqb, ne_eqb}
use Rattle.folds.specs.Fold.{when, sum_to, turns, most_width}
use Rattle.folds.proofs.Cases.{by, either, when_le}
use Rattle.folds.proofs.Choose.{choose_is, choose_of, min_one, max_one}
use Rattle.folds.proofs.Lists.{set_add}
use Rattle.folds.proofs.Sums.{sum_to_step, sum_to_less, sum_to_mono, sum_to_none, sum_to_member}
use Rattle.graph.specs.Graph.{via}
use Rattle.graph.specs.Links.{Linked, Ended}
use Rattle.graph.proofs.Links.{Only, Acts, On, sum_on, sum_next, turns_on, turns_next}
use Rattle.neighbours.specs.Visit.{fold_by, lower_by, raise_by, low_next, high_before, width_to, pull_to, SumsRoom, Added, Pulled}

-- the lists, the other way round
pub ended_back : {froms tos : List ℕ} → Ended froms tos → Ended tos froms
ended_back E = record { from = E.to; to = E.from; same = sym E.same }

module _ (op : ℕ → ℕ → ℕ) (near far table : List ℕ) (h : ℕ) where
  fold_acts : Acts (λ i. get_or near i 0) h (fold_by op near far table h)
  unfolding fold_by
  fold_acts j n t = rw (ne_eqb (get_or near j 0) h n)

  module _ {m : ℕ} {head next : List ℕ} (L : Linked (λ i. get_or near i 0) m head next) where
    -- where the walk begins
    pub fold_on : (s : ℕ) → h < 512 → s ≡ turns (get_or head h 0) (fold_by op near far table h) s
    fold_on s l = turns_on L h _ s fold_acts l

    -- a turn, at an edge of h
    pub fold_next : (j : ℕ) → On (λ i. get_or near i 0) m h j → j < m → {c s r : ℕ} (s₀ : ℕ) → c ≡ get_or far j 0 → s ≡ turns j (fold_by op near far table h) s₀
        → r ≡ op s (get_or table c 0) → r ≡ turns (get_or next j 0) (fold_by op near far table h) s₀
    unfolding fold_by
    fold_next j o l s₀ q e g = turns_next L h j _ s₀ _ _ fold_acts o l e (rw (eq-eqb (get_or near j 0) h (o.at l), ← q) g)

module _ (near far widths table : List ℕ) (h : ℕ) where
  width_only : (u : ℕ) → Only (λ i. get_or near i 0) h (width_to near far widths table h u)
  unfolding width_to
  width_only u j n = rw (ne_eqb (get_or near j 0) h n)

  -- the width to a part is at most that of all edges
  width_le : (u m : ℕ) → sum_to m (width_to near far widths table h u) ≤ sum_to m (λ i. get_or widths i 0)
  unfolding width_to
  width_le u m = sum_to_mono m _ _ (λ j _. when_le (eqb (get_or near j 0) h && eqb (via table far j) u) (get_or widths j 0))

  module _ {m : ℕ} {head next : List ℕ} (L : Linked (λ i. get_or near i 0) m head next) (toward : List ℕ) where
    pub added_on : h < 512 → length toward ≡ 16 → Added near far widths table h (get_or head h 0) toward toward
    added_on l e = record { long = e; is = λ u _. omega (arith, sum_on L h (width_to near far widths table h u) (width_only u) l) }

    module _ (j : ℕ) (now : List ℕ) (o : On (λ i. get_or near i 0) m h j) (l : j < m) (A : Added near far widths table h j toward now) where
      -- a sum has room for the edge at hand
      pub added_room : SumsRoom toward → sum_to m (λ i. get_or widths i 0) ≤ most_width → (p : ℕ) → p < 16 → get_or now p 0 + get_or widths j 0 ≤ 134215680
      added_room r n p lp =
          omega (
            arith,
            r.room p lp,
            A.is p lp,
            width_le p j,
            sum_to_step j (λ i. get_or widths i 0),
            sum_to_less (λ i. get_or widths i 0) (j + 1) m (omega arith),
          )

      pub added_turn : (c p w : ℕ) → c ≡ get_or far j 0 → p ≡ get_or table c 0 → p < 16 → w ≡ get_or widths j 0
          → Added near far widths table h (get_or next j 0) toward (set now p (get_or now p 0 + w))
      unfolding width_to
      added_turn c p w q s lp g =
          record {
            long = length-set now p _ ∙ A.long;
            is = λ u lu.
                omega (
                  arith,
                  A.is u lu,
                  set_add now p w u (omega (arith, A.long)),
                  sum_next L h j _ _ (width_to near far widths table h u) (width_only u) o l refl (at u),
                );
          }
        where
          at : (u : ℕ) → when (eqb p u) w ≡ width_to near far widths table h u j
          at u = rw (eq-eqb (get_or near j 0) h (o.at l), s, q, g)

pub room_next : (near far widths table : List ℕ) {h m : ℕ} {now : List ℕ} → sum_to m (λ i. get_or widths i 0) ≤ most_width
    → Added near far widths table h m (replicate 16 0) now → SumsRoom now
room_next near far widths table {h} {m} n A =
    record { long = A.long; room = λ u lu. omega (arith, A.is u lu, get_or-replicate {A = ℕ} 16 u 0 0 lu, width_le near far widths table h u m) }

-- the parts at the far ends of the edges whose near end is h: none below the lowest, none above the highest, which are parts of some
module _ (near far table : List ℕ) (h : ℕ) where
  lower_le : (k m j : ℕ) → j < m → get_or near j 0 ≡ h → turns m (lower_by near far table h) k ≤ via table far j
  unfolding lower_by
  lower_le k m j l e = choose_of (λ i. eqb (get_or near i 0) h) (via table far) min k (λ a b. a ≤ b) (λ a b c x y. omega arith) (λ a b. omega arith) (λ a b. omega arith) m j l (eq-eqb _ _ e)

  lower_is : (k m : ℕ) → (turns m (lower_by near far table h) k ≡ k) ⊎ ((j : ℕ) × (j < m) × (eqb (get_or near j 0) h ≡ true) × (via table far j ≡ turns m (lower_by near far table h) k))
  unfolding lower_by
  lower_is k m = choose_is (λ i. eqb (get_or near i 0) h) (via table far) min k min_one m

  raise_le : (m j : ℕ) → j < m → get_or near j 0 ≡ h → via table far j + 1 ≤ turns m (raise_by near far table h) 0
  unfolding raise_by
  raise_le m j l e =
      choose_of (λ i. eqb (get_or near i 0) h) (λ i. via table far i + 1) max 0 (λ a b. b ≤ a) (λ a b c x y. omega arith) (λ a b. omega arith) (λ a b. omega arith) m j l (eq-eqb _ _ e)

  raise_is : (m : ℕ) → (turns m (raise_by near far table h) 0 ≡ 0) ⊎ ((j : ℕ) × (j < m) × (eqb (get_or near j 0) h ≡ true) × (via table far j + 1 ≡ turns m (raise_by near far table h) 0))
  unfolding raise_by
  raise_is m = choose_is (λ i. eqb (get_or near i 0) h) (λ i. via table far i + 1) max 0 max_one m

  -- some width to a part that one of these edges leads to
  width_some : (widths : List ℕ) (m j u : ℕ) → j < m → eqb (get_or near j 0) h ≡ true → via table far j ≡ u → 0 < get_or widths j 0 → 0 < sum_to m (width_to near far widths table h u)
  unfolding width_to
  width_some widths m j u l e q w =
      let s = sum_to_member m (λ i. when (eqb (get_or near i 0) h && eqb (via table far i) u) (get_or widths i 0)) j l in
      let t = rw (e, eq-eqb (via table far j) u q) at s in omega (arith, t)

  -- no width to a part that none of these edges leads to
  width_none : (widths : List ℕ) (m u : ℕ) → ((j : ℕ) → j < m → get_or near j 0 ≡ h → via table far j ≡ u → ⊥) → sum_to m (width_to near far widths table h u) ≡ 0
  unfolding width_to
  width_none widths m u n =
      sum_to_none m _
      (λ j l. by (eqb (get_or near j 0) h) (λ e. rw (e, ne_eqb (via table far j) u (n j l (eqb-true (get_or near j 0) h e)))) (λ e. rw e))

-- no edge of h leads to a part between those of its predecessors and those of its successors
pub pull_between : (froms tos widths table : List ℕ) (h k u : ℕ) → high_before froms tos table h ≤ u → u < low_next froms tos table h k → pull_to froms tos widths table h u ≡ 0
unfolding pull_to low_next high_before
pull_between froms tos widths table h k u a b =
    let x = width_none froms tos table h widths (length froms) u (λ j l e q. omega (arith, lower_le froms tos table h k (length froms) j l e)) in
    let y = width_none tos froms table h widths (length froms) u (λ j l e q. omega (arith, raise_le tos froms table h (length froms) j l e)) in omega (arith, x, y)

-- but to the part of the highest predecessor and to that of the lowest successor
pub pull_high : (froms tos widths table : List ℕ) (h : ℕ) → ((i : ℕ) → i < length froms → 0 < get_or widths i 0) → 0 < high_before froms tos table h
    → 0 < pull_to froms tos widths table h (high_before froms tos table h - 1)
unfolding pull_to high_before
pull_high froms tos widths table h wide l =
    either (raise_is tos froms table h (length froms)) (λ e. absurd (omega arith))
    (λ (j, lj, e, q). omega (arith, width_some tos froms table h widths (length froms) j (turns (length froms) (raise_by tos froms table h) 0 - 1) lj e (omega (arith, q)) (wide j lj)))

pub pull_low : (froms tos widths table : List ℕ) (h k : ℕ) → ((i : ℕ) → i < length froms → 0 < get_or widths i 0) → low_next froms tos table h k < k
    → 0 < pull_to froms tos widths table h (low_next froms tos table h k)
unfolding pull_to low_next
pull_low froms tos widths table h k wide l =
    either (lower_is froms tos table h k (length froms)) (λ e. absurd (omega arith))
    (λ (j, lj, e, q). omega (arith, width_some froms tos table h widths (length froms) j _ lj e q (wide j lj)))

-- the two ways together
pub both_ways : (froms tos widths table : List ℕ) {h : ℕ} {now now' : List ℕ} → length tos ≡ length froms
    → Added froms tos widths table h (length froms) (replicate 16 0) now
    → Added tos froms widths table h (length tos) now now' → Pulled froms tos widths table h now'
unfolding pull_to
both_ways froms tos widths table e A B =
    record {
      long = B.long;
      is = λ u l. let s = rw e at (B.is u l) in omega (arith, A.is u l, s, get_or-replicate {A = ℕ} 16 u 0 0 l);
    }
