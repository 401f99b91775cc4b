-- The lists of a rung's edges say what the graph's own edges say of the clusters.
use Prim.Native.Nat.{ℕ, suc, ◌+◌, ◌*◌, ◌≤◌, ◌<◌}
use mathlib.Core.Path.{◌≡◌, refl, sym, ap, ◌∙◌}
use mathlib.Core.Bool.{Bool, true, false, not, ◌&&◌}
use mathlib.Core.List.{List}
use native.Mathlib.Nat.{mul-le-mul_right}
use native.Mathlib.Omega.{arith}
use lib.Dec.{eqb}
use lib.ListN.{length, get_or}
use borrow.Author.Tests.{ne_eqb}
use Rattle.folds.specs.Fold.{when, sum_to}
use Rattle.folds.proofs.Cases.{eq_or_ne, either, same_test}
use Rattle.folds.proofs.Lists.{length-list_to, row_in}
use Rattle.folds.proofs.Sums.{sum_to_ext, sum_to-when, sum_to_only, sum_to_swap}
use Rattle.graph.specs.Graph.{Graph, graph_of, edges, via, identity, Arcs, arcs, joining, seen, edge, width_of, Formed, RowOf, Inside}
use Rattle.graph.specs.Links.{Ended}
use Rattle.graph.specs.RowGraph.{row_graph}
use Rattle.graph.specs.Rows.{clusters}
use Rattle.graph.specs.Coarse.{Coarse, Stored, RowLists}
use Rattle.graph.proofs.Edges.{identity_at, joining_is, row_inside, edge_arc, arc_edge}
use Rattle.graph.proofs.Rungs.{rung_edge}

-- a sum over the edges between different clusters, worked by their pairs
module _ (A : Arcs) (widths : List ℕ) (g : ℕ) (I : Inside A g) (F : ℕ → ℕ → Bool) (other : (a : ℕ) → F a a ≡ false) where
  share : ℕ → ℕ → ℕ → ℕ
  share a b j = when (eqb (A.from j) a) (when (eqb (A.to j) b) (when (F a b) (get_or widths j 0)))

  width_share : (a b : ℕ) → when (F a b) (width_of A widths a b) ≡ sum_to A.count (share a b)
  unfolding width_of share
  width_share a b =
      within (sum_to A.count (λ j. when (eqb (A.from j) a && eqb (A.to j) b) (get_or widths j 0)))
      ∙ sym (sum_to-when A.count (F a b) (λ j. when (eqb (A.from j) a && eqb (A.to j) b) (get_or widths j 0)))
      ∙ sum_to_ext A.count _ _ (λ j _. turned (eqb (A.from j) a) (eqb (A.to j) b) (F a b) (get_or widths j 0))
    where
      within : (w : ℕ) → when (F a b) (when (not (eqb a b)) w) ≡ when (F a b) w
      within w = either (eq_or_ne a b) (λ e. rw (e, other b)) (λ n. rw (ne_eqb a b n))

      turned : (p q t : Bool) (w : ℕ) → when t (when (p && q) w) ≡ when p (when q (when t w))
      turned true true t w = refl
      turned true false true w = refl
      turned true false false w = refl
      turned false q true w = refl
      turned false q false w = refl

  by_pairs : sum_to g (λ a. sum_to g (λ b. when (F a b) (width_of A widths a b))) ≡ sum_to A.count (λ j. when (F (A.from j) (A.to j)) (get_or widths j 0))
  unfolding share
  by_pairs =
      sum_to_ext g _ _ (λ a _. sum_to_ext g _ _ (λ b _. width_share a b) ∙ sum_to_swap g A.count (λ b j. share a b j))
      ∙ sum_to_swap g A.count (λ a j. sum_to g (λ b. share a b j))
      ∙ sum_to_ext A.count _ _ (λ j l. one_edge j l)
    where
      one_edge : (j : ℕ) → j < A.count → sum_to g (λ a. sum_to g (λ b. share a b j)) ≡ when (F (A.from j) (A.to j)) (get_or widths j 0)
      one_edge j l =
          sum_to_ext g _ _ (λ a _. sum_to-when g (eqb (A.from j) a) (λ b. when (eqb (A.to j) b) (when (F a b) (get_or widths j 0))))
          ∙ sum_to_only g (A.from j) (λ a. sum_to g (λ b. when (eqb (A.to j) b) (when (F a b) (get_or widths j 0)))) (I j l).0
          ∙ sum_to_only g (A.to j) (λ b. when (F (A.from j) b) (get_or widths j 0)) (I j l).1

module _ {G : Graph} {row : List ℕ} {g : ℕ} {froms tos widths : List ℕ} (C : Coarse G row g froms tos widths) where
  -- the lists name the clusters themselves
  pub from_is : (i : ℕ) → i < length froms → via (identity g) froms i ≡ get_or froms i 0
  from_is i l = identity_at g _ (C.from_in i l)

  pub to_is : (i : ℕ) → i < length froms → via (identity g) tos i ≡ get_or tos i 0
  to_is i l = identity_at g _ (C.to_in i l)

  pub coarse_inside : Inside (arcs (identity g) froms tos) g
  coarse_inside i l = (rw (from_is i l) (C.from_in i l), rw (to_is i l) (C.to_in i l))

  pub coarse_joining : arcs (identity g) froms tos ≡ joining froms tos
  coarse_joining = joining_is g froms tos C.from_in (λ i l. C.to_in i (omega (arith, C.same_ends)))

  pub coarse_ended : g ≤ 512 → Ended froms tos
  coarse_ended few =
      record {
        from = record { few = C.few; low = λ i l. omega (arith, C.from_in i l) };
        to = record { few = omega (arith, C.few, C.same_ends); low = λ i l. omega (arith, C.to_in i (omega (arith, C.same_ends))) };
        same = C.same_ends;
      }

  module _ (F : Formed G) (R : RowOf G row g) where
    -- a sum over edges between different clusters is the same over the lists
    pub coarse_sum : (f : ℕ → ℕ → Bool) → ((a : ℕ) → f a a ≡ false)
        → sum_to (edges G) (λ j. when (f (via row G.starts j) (via row G.ends j)) (get_or G.widths j 0)) ≡ sum_to (length froms) (λ i. when (f (get_or froms i 0) (get_or tos i 0)) (get_or widths i 0))
    coarse_sum f other =
        sym (by_pairs (seen G row) G.widths g (row_inside F R) f other)
        ∙ sum_to_ext g _ _ (λ a _. sum_to_ext g _ _ (λ b _. ap (when (f a b)) (sym (C.width a b))))
        ∙ by_pairs (arcs (identity g) froms tos) widths g coarse_inside f other
        ∙ sum_to_ext (length froms) _ _ (λ i l. rw (from_is i l, to_is i l))

    coarse_formed : Formed (graph_of (identity g) froms tos widths)
    unfolding identity
    coarse_formed =
        let n : length (identity g) ≡ g = length-list_to _ _ in
        record {
          same_ends = C.same_ends;
          same_widths = C.same_widths;
          start_in = λ j l. omega (arith, C.from_in j l);
          end_in = λ j l. omega (arith, C.to_in j l);
        }

    coarse_row : RowOf (graph_of (identity g) froms tos widths) (identity g) g
    unfolding identity
    coarse_row = let n : length (identity g) ≡ g = length-list_to _ _ in record { whole = refl; below = λ v l. rw (identity_at g v (omega arith)) (omega arith) }

    module _ (wide : (j : ℕ) → j < edges G → 0 < get_or G.widths j 0) where
      -- two clusters are joined in the lists exactly if an edge joins them
      pub coarse_edge : (a b : ℕ) → edge (arcs (identity g) froms tos) a b ≡ edge (seen G row) a b
      unfolding row_graph
      coarse_edge a b =
          let (there, back) = rung_edge (graph_of (identity g) froms tos widths) (identity g) row g coarse_formed coarse_row C.wide a b in
          let (up, down) = rung_edge G row row g F R wide a b in
          same_test _ _ (λ t. up (rw (← C.width a b) (back t))) (λ t. there (rw (C.width a b) (down t)))

      -- so each edge between clusters is listed, and what is listed is one
      pub listed_edge : (j : ℕ) → j < edges G → (via row G.starts j ≡ via row G.ends j → ⊥)
          → (i : ℕ) × (i < length froms) × (get_or froms i 0 ≡ via row G.starts j) × (get_or tos i 0 ≡ via row G.ends j)
      listed_edge j l n =
          let (i, li, ef, et) = edge_arc (arcs (identity g) froms tos) _ _ (coarse_edge (via row G.starts j) (via row G.ends j) ∙ arc_edge (seen G row) j l n) in
          (i, li, sym (from_is i li) ∙ ef, sym (to_is i li) ∙ et)

      pub edge_listed : (i : ℕ) → i < length froms → (j : ℕ) × (j < edges G) × (via row G.starts j ≡ get_or froms i 0) × (via row G.ends j ≡ get_or tos i 0)
      edge_listed i l =
          let n : via (identity g) froms i ≡ via (identity g) tos i → ⊥ = λ e. C.apart i l (sym (from_is i l) ∙ e ∙ to_is i l) in
          let (j, lj, ef, et) = edge_arc (seen G row) _ _ (sym (coarse_edge (via (identity g) froms i) (via (identity g) tos i)) ∙ arc_edge (arcs (identity g) froms tos) i l n) in
          (j, lj, ef ∙ from_is i l, et ∙ to_is i l)

-- the rows and the lists up to a lower row
pub rows_held : (r top n l : ℕ) → r ≤ top → suc top * n ≤ l → suc r * n ≤ l
rows_held r top n l a h = let q : suc r ≤ suc top = omega arith in omega (arith, mul-le-mul_right n q)

pub lower_stored : {G : Graph} {rows : ℕ → List ℕ} {top m : ℕ} {froms tos widths sizes : List ℕ} (r : ℕ) → r ≤ top → Stored G rows top m froms tos widths sizes
    → Stored G rows r m froms tos widths sizes
lower_stored {top = top} {m = m} r l S =
    record {
      from_room = rows_held r top m _ l S.from_room;
      to_room = rows_held r top m _ l S.to_room;
      width_room = rows_held r top m _ l S.width_room;
      few = λ i h. S.few i (omega arith);
      is = λ i h. S.is i (omega arith);
    }

-- the lists of the highest row are in them
pub stored_held : {G : Graph} {rows : ℕ → List ℕ} {r m : ℕ} {froms tos widths sizes : List ℕ} → Stored G rows r m froms tos widths sizes
    → (r * m + get_or sizes r 0 ≤ length froms) × (r * m + get_or sizes r 0 ≤ length tos) × (r * m + get_or sizes r 0 ≤ length widths)
stored_held {r = r} {m = m} S =
    let q : r * m + m ≤ suc r * m = row_in r (suc r) m (omega arith) in
    let f = S.few r (omega arith) in (omega (arith, S.from_room), omega (arith, S.to_room), omega (arith, S.width_room))

-- the lists of one of the rows
pub stored_lists : {G : Graph} {rows : ℕ → List ℕ} {top m : ℕ} {froms tos widths sizes : List ℕ} (r : ℕ) → r ≤ top → Stored G rows top m froms tos widths sizes
    → clusters (rows r) ≤ 512 → RowLists m r froms tos sizes
stored_lists r l S few = let (f, t, w) = stored_held (lower_stored r l S) in record { from_in = f; to_in = t; ends = coarse_ended (S.is r l) few }

pub stored_widths : {G : Graph} {rows : ℕ → List ℕ} {top m : ℕ} {froms tos widths sizes : List ℕ} (r : ℕ) → r ≤ top → Stored G rows top m froms tos widths sizes
    → r * m + get_or sizes r 0 ≤ length widths
stored_widths r l S = (stored_held (lower_stored r l S)).2
