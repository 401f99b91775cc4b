-- What a rung's lists say of a cluster is what the graph's edges say of it.
use Prim.Native.Nat.{ℕ, ◌+◌, ◌≤◌, ◌<◌, min, max}
use mathlib.Core.Path.{◌≡◌, sym, ap, ap₂, ◌∙◌}
use mathlib.Core.Bool.{Bool, true, false, not, ◌&&◌}
use mathlib.Core.List.{List}
use native.Mathlib.Omega.{arith}
use lib.Dec.{eqb}
use lib.ListN.{length, get_or}
use borrow.Author.Tests.{eqb-true, eqb-false, eq-eqb, ne_eqb}
use Rattle.folds.specs.Fold.{when, sum_to, turns}
use Rattle.folds.proofs.Cases.{either, eq_or_ne, both, not_yes}
use Rattle.folds.proofs.Choose.{choose_same}
use Rattle.folds.proofs.Sums.{sum_to_ext}
use Rattle.graph.specs.Graph.{Graph, edges, via, through, Formed, RowOf}
use Rattle.graph.specs.Coarse.{Coarse}
use Rattle.graph.proofs.Edges.{through_at}
use Rattle.graph.proofs.Coarse.{coarse_sum, listed_edge, edge_listed}
use Rattle.refinement.specs.Move.{leaves, share, pull}
use Rattle.refinement.specs.Pass.{lowered, raised, lowest_next, above_before}
use Rattle.neighbours.specs.Visit.{lower_by, raise_by, width_to, low_next, high_before, pull_to}

-- one way along the edges: near to far in the graph, from to onto in the lists
module _ (row near far from onto table : List ℕ) (m n h : ℕ) (inside : (j : ℕ) → j < m → get_or far j 0 < length row) (apart : (i : ℕ) → i < n → get_or from i 0 ≡ get_or onto i 0 → ⊥)
    (listed : (j : ℕ) → j < m → (via row near j ≡ via row far j → ⊥) → (i : ℕ) × (i < n) × (get_or from i 0 ≡ via row near j) × (get_or onto i 0 ≡ via row far j))
    (unlisted : (i : ℕ) → i < n → (j : ℕ) × (j < m) × (via row near j ≡ get_or from i 0) × (via row far j ≡ get_or onto i 0)) where
  part_at : (j : ℕ) → j < m → via (through row table) far j ≡ get_or table (via row far j) 0
  part_at j l = through_at row table (get_or far j 0) (inside j l)

  there : (i : ℕ) → i < n → eqb (get_or from i 0) h ≡ true → (j : ℕ) × (j < m) × (leaves row near far h j ≡ true) × (via (through row table) far j ≡ via table onto i)
  unfolding leaves
  there i l t =
      let (j, lj, en, ef) = unlisted i l in
      let e = eqb-true (get_or from i 0) h t in
      (j, lj, rw (en, ef, t, ne_eqb (get_or onto i 0) h (λ q. apart i l (e ∙ sym q))), part_at j lj ∙ ap (λ (c : ℕ). get_or table c 0) ef)

  back : (j : ℕ) → j < m → leaves row near far h j ≡ true → (i : ℕ) × (i < n) × (eqb (get_or from i 0) h ≡ true) × (via table onto i ≡ via (through row table) far j)
  unfolding leaves
  back j l t =
      let (a, b) = both (eqb (via row near j) h) (not (eqb (via row far j) h)) t in
      let e = eqb-true (via row near j) h a in
      let (i, li, en, ef) = listed j l (λ q. eqb-false (via row far j) h (not_yes _ b) (sym q ∙ e)) in
      (i, li, rw en a, ap (λ (c : ℕ). get_or table c 0) ef ∙ sym (part_at j l))

  low_way : (k : ℕ) → turns n (lower_by from onto table h) k ≡ turns m (lowered row near far (through row table) h) k
  unfolding lower_by lowered
  low_way k =
      choose_same min (λ a b. a ≤ b) (λ a. omega arith) (λ a b c x y. omega arith) (λ a b. omega arith) (λ a b. omega arith) (λ x a b p q. omega arith) (λ a b p q. omega arith)
      (λ i. eqb (get_or from i 0) h) (leaves row near far h) (via table onto) (via (through row table) far) k n m there back

  high_way : turns n (raise_by from onto table h) 0 ≡ turns m (raised row near far (through row table) h) 0
  unfolding raise_by raised
  high_way =
      choose_same max (λ a b. b ≤ a) (λ a. omega arith) (λ a b c x y. omega arith) (λ a b. omega arith) (λ a b. omega arith) (λ x a b p q. omega arith) (λ a b p q. omega arith)
      (λ i. eqb (get_or from i 0) h) (leaves row near far h) (λ i. via table onto i + 1) (λ j. via (through row table) far j + 1) 0 n m
      (λ i l t. let (j, lj, tj, e) = there i l t in (j, lj, tj, ap (λ (x : ℕ). x + 1) e)) (λ j l t. let (i, li, ti, e) = back j l t in (i, li, ti, ap (λ (x : ℕ). x + 1) e))

-- whether an edge from cluster a to cluster b leads from h to part u
toward : List ℕ → ℕ → ℕ → ℕ → ℕ → Bool
toward table h u a b = (eqb a h && not (eqb b h)) && eqb (get_or table b 0) u

module _ (table : List ℕ) (h u : ℕ) where
  toward_own : (a : ℕ) → toward table h u a a ≡ false
  unfolding toward
  toward_own a = either (eq_or_ne a h) (λ e. rw (eq-eqb a h e)) (λ o. rw (ne_eqb a h o))

  share_pair : (row near far widths : List ℕ) (j : ℕ) → get_or far j 0 < length row
      → share row near far widths (through row table) h u j ≡ when (toward table h u (via row near j) (via row far j)) (get_or widths j 0)
  unfolding share leaves toward
  share_pair row near far widths j l = rw (through_at row table (get_or far j 0) l)

  width_pair : (from onto widths : List ℕ) (i : ℕ) → (get_or from i 0 ≡ get_or onto i 0 → ⊥)
      → when (toward table h u (get_or from i 0) (get_or onto i 0)) (get_or widths i 0) ≡ width_to from onto widths table h u i
  unfolding width_to toward
  width_pair from onto widths i apart =
      either (eq_or_ne (get_or from i 0) h)
      (λ e. rw (eq-eqb (get_or from i 0) h e, ne_eqb (get_or onto i 0) h (λ q. apart (e ∙ sym q))))
      (λ o. rw (ne_eqb (get_or from i 0) h o))

module _ {G : Graph} {row : List ℕ} {g : ℕ} {froms tos widths : List ℕ} (C : Coarse G row g froms tos widths) (F : Formed G) (R : RowOf G row g)
    (wide : (j : ℕ) → j < edges G → 0 < get_or G.widths j 0) (table : List ℕ) (h : ℕ) where
  start_inside : (j : ℕ) → j < edges G → get_or G.starts j 0 < length row
  start_inside j l = omega (arith, F.start_in j l, R.whole)

  end_inside : (j : ℕ) → j < edges G → get_or G.ends j 0 < length row
  end_inside j l = omega (arith, F.end_in j l, R.whole)

  pub low_lists : (k : ℕ) → low_next froms tos table h k ≡ lowest_next G k row (through row table) h
  unfolding low_next lowest_next
  low_lists = low_way row G.starts G.ends froms tos table (edges G) (length froms) h end_inside C.apart (listed_edge C F R wide) (edge_listed C F R wide)

  pub high_lists : high_before froms tos table h ≡ above_before G row (through row table) h
  unfolding high_before above_before
  high_lists =
      high_way row G.ends G.starts tos froms table (edges G) (length froms) h start_inside (λ i l e. C.apart i l (sym e))
      (λ j l n. let (i, li, en, ef) = listed_edge C F R wide j l (λ q. n (sym q)) in (i, li, ef, en))
      (λ i l. let (j, lj, en, ef) = edge_listed C F R wide i l in (j, lj, ef, en))

  pub pull_lists : (u : ℕ) → pull_to froms tos widths table h u ≡ pull G row (through row table) h u
  unfolding pull_to pull
  pull_lists u = ap₂ ◌+◌ (sym out) (sym into)
    where
      out : sum_to (edges G) (share row G.starts G.ends G.widths (through row table) h u) ≡ sum_to (length froms) (width_to froms tos widths table h u)
      out =
          sum_to_ext (edges G) _ _ (λ j l. share_pair table h u row G.starts G.ends G.widths j (end_inside j l))
          ∙ coarse_sum C F R (toward table h u) (toward_own table h u) ∙ sum_to_ext (length froms) _ _ (λ i l. width_pair table h u froms tos widths i (C.apart i l))

      into : sum_to (edges G) (share row G.ends G.starts G.widths (through row table) h u) ≡ sum_to (length froms) (width_to tos froms widths table h u)
      into =
          sum_to_ext (edges G) _ _ (λ j l. share_pair table h u row G.ends G.starts G.widths j (start_inside j l))
          ∙ coarse_sum C F R (λ a b. toward table h u b a) (toward_own table h u) ∙ sum_to_ext (length froms) _ _ (λ i l. width_pair table h u tos froms widths i (λ e. C.apart i l (sym e)))
