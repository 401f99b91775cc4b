-- Counts and costs of clusters: joining in pairs at most halves the count, and the costs sum to those of the vertices.
use Prim.Native.Nat.{ℕ, zero, suc, ◌+◌, ◌*◌, ◌<◌, ◌≤◌}
use mathlib.Core.Path.{◌≡◌, refl, sym, ◌∙◌}
use mathlib.Core.Logic.{◌⊎◌}
use mathlib.Core.List.{List}
use native.Mathlib.Omega.{arith}
use lib.Dec.{eqb, ltb}
use lib.ListN.{length, get_or}
use borrow.Author.Tests.{eqb-true, eq-eqb, ne_eqb, ltb-true, ltb-false}
use Rattle.folds.specs.Fold.{when, sum_to, any_to}
use Rattle.folds.proofs.Cases.{by, either, eq_or_ne, when_le}
use Rattle.folds.proofs.Sums.{sum_to_ext, sum_to_mono, sum_to_swap, sum_to_only, sum_to_add, sum_to_le, sum_to_none}
use Rattle.folds.proofs.Searches.{any_e, any_none}
use Rattle.graph.specs.Graph.{cost_in, part_cost}
use Rattle.graph.specs.Rows.{clusters}
use Rattle.contraction.specs.Next.{joined_row}
use Rattle.contraction.proofs.Next.{Onto, number, next_at, number_apart, length_next, below_clusters}

ones : (n : ℕ) → sum_to n (λ k. 1) ≡ n
unfolding sum_to
ones zero = refl
ones (suc n) = omega (arith, ones n)

-- one number is counted at most once
once : (n k : ℕ) → sum_to n (λ c. when (eqb k c) 1) ≤ 1
once n k =
    by (ltb k n) (λ t. omega (arith, sum_to_only n k (λ _. 1) (ltb-true k n t)))
    (λ t. omega (arith, sum_to_none n (λ c. when (eqb k c) 1) (λ c l. rw (ne_eqb k c (λ e. omega (arith, ltb-false k n t))))))

module _ (row : List ℕ) (m : ℕ → ℕ) (back : (x : ℕ) → m (m x) ≡ x) (onto : Onto row) where
  apart : (a b : ℕ) → a < clusters row → b < clusters row → number row m a ≡ number row m b → (b ≡ a) ⊎ (b ≡ m a)
  apart a b la lb e =
      let (v, lv, ev) = onto a la in
      let (w, lw, ew) = onto b lb in number_apart row m back a b v w lv lw ev ew e

  number_in : (c : ℕ) → c < clusters row → number row m c < clusters (joined_row row m)
  number_in c l =
      let (v, lv, ev) = onto c l in
      let h = below_clusters (joined_row row m) v (rw (length_next row m) lv) in rw (next_at row m v lv, ev) at h

  -- at most two clusters have the number d
  few : (d : ℕ) → sum_to (clusters row) (λ c. when (eqb (number row m c) d) 1) ≤ 2
  few d =
      by (any_to (clusters row) (λ c. eqb (number row m c) d))
      (λ t.
      let (x, lx, ex) = any_e (clusters row) (λ c. eqb (number row m c) d) t in
      let f : ℕ → ℕ = λ c. when (eqb x c) 1 + when (eqb (m x) c) 1 in
      omega (
        arith,
        sum_to_mono (clusters row) (λ c. when (eqb (number row m c) d) 1) f (λ c lc. one x c lx lc (eqb-true _ _ ex)),
        sum_to_add (clusters row) (λ c. when (eqb x c) 1) (λ c. when (eqb (m x) c) 1),
        once (clusters row) x,
        once (clusters row) (m x),
      ))
      (λ t. omega (arith, sum_to_none (clusters row) (λ c. when (eqb (number row m c) d) 1) (λ c l. rw (any_none (clusters row) (λ c. eqb (number row m c) d) t c l))))
    where
      one : (x c : ℕ) → x < clusters row → c < clusters row → number row m x ≡ d → when (eqb (number row m c) d) 1 ≤ when (eqb x c) 1 + when (eqb (m x) c) 1
      one x c lx lc ex =
          either (eq_or_ne (number row m c) d)
          (λ e. either (apart x c lx lc (ex ∙ sym e))
          (λ q. rw (eq-eqb x c (sym q)) (omega (arith, when_le (eqb (number row m c) d) 1)))
          (λ q. rw (eq-eqb (m x) c (sym q)) (omega (arith, when_le (eqb (number row m c) d) 1))))
          (λ n. rw (ne_eqb (number row m c) d n) (omega arith))

  -- the next row has at least half as many clusters
  pub next_half : clusters row ≤ 2 * clusters (joined_row row m)
  next_half =
      let g = clusters row in
      let g' = clusters (joined_row row m) in
      let e : g ≡ sum_to g' (λ d. sum_to g (λ c. when (eqb (number row m c) d) 1)) =
      sym (ones g) ∙ sum_to_ext g _ _ (λ c l. sym (sum_to_only g' (number row m c) (λ _. 1) (number_in c l)))
      ∙ sum_to_swap g g' (λ c d. when (eqb (number row m c) d) 1) in
      omega (arith, sum_to_le g' 2 (λ d. sum_to g (λ c. when (eqb (number row m c) d) 1)) few)

-- the costs of a row's clusters sum to those of the vertices
pub costs_sum : (costs row : List ℕ) (g : ℕ) → ((v : ℕ) → v < length costs → get_or row v 0 < g) → sum_to g (part_cost costs row) ≡ sum_to (length costs) (λ v. get_or costs v 0)
unfolding part_cost cost_in
costs_sum costs row g below =
    sum_to_swap g (length costs) (λ c v. when (eqb (get_or row v 0) c) (get_or costs v 0))
    ∙ sum_to_ext (length costs) _ _ (λ v l. sum_to_only g (get_or row v 0) (λ _. get_or costs v 0) (below v l))
