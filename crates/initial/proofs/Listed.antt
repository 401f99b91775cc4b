-- The lists of a row's edges say of the clusters' positions what the graph's own edges say of the vertices'.
use Prim.Native.Nat.{ℕ, ◌≤◌, ◌<◌}
use mathlib.Core.Path.{◌≡◌, refl, ap, sym, ◌∙◌}
use mathlib.Core.Bool.{Bool, false, ◌&&◌}
use mathlib.Core.List.{List}
use native.Mathlib.Omega.{arith}
use lib.Dec.{leb, ltb}
use lib.ListN.{length, get_or}
use borrow.Author.Tests.{ltb-true, lt-leb}
use Rattle.folds.proofs.Cases.{by}
use Rattle.folds.proofs.Sums.{sum_to_ext}
use Rattle.graph.specs.Graph.{Graph, vertices, edges, via, RowOf, Proper}
use Rattle.graph.specs.Links.{Ends}
use Rattle.graph.specs.Coarse.{Coarse}
use Rattle.graph.proofs.Coarse.{coarse_sum, edge_listed}
use Rattle.division_table.proofs.Intervals.{leaving}
use Rattle.division_scan.specs.Scan.{Positioned, leaving_by}
use Rattle.initial.specs.Positions.{PositionsOf, leaving_of}

-- whether an edge from cluster a to cluster b leaves the positions y to x - 1
crosses : List ℕ → ℕ → ℕ → ℕ → ℕ → Bool
crosses at y x a b = leb y (get_or at a 0) && ltb (get_or at a 0) x && leb x (get_or at b 0)

crosses_own : (at : List ℕ) (y x a : ℕ) → crosses at y x a a ≡ false
unfolding crosses
crosses_own at y x a =
    by (leb y (get_or at a 0))
    (λ t. by (ltb (get_or at a 0) x) (λ u. rw (t, u) (lt-leb x (get_or at a 0) (ltb-true (get_or at a 0) x u))) (λ u. rw (t, u)))
    (λ t. rw t)

-- `at` has the position of each cluster, `places` that of each vertex's cluster
module _ {G : Graph} {row places from to width : List ℕ} {g : ℕ} (at : List ℕ) (P : Proper G) (R : RowOf G row g) (onto : (c : ℕ) → c < g → (v : ℕ) × (v < vertices G) × (get_or row v 0 ≡ c))
    (S : PositionsOf G g places) (C : Coarse G row g from to width) (small : g ≤ 512) (tall : length at ≡ g) (is : (v : ℕ) → v < vertices G → get_or places v 0 ≡ get_or at (get_or row v 0) 0) where
  start_is : (j : ℕ) → j < edges G → via places G.starts j ≡ get_or at (via row G.starts j) 0
  start_is j l = is _ (P.formed.start_in j l)

  end_is : (j : ℕ) → j < edges G → via places G.ends j ≡ get_or at (via row G.ends j) 0
  end_is j l = is _ (P.formed.end_in j l)

  below : (c : ℕ) → c < g → get_or at c 0 < g
  below c l = let (v, h, e) = onto c l in omega (arith, is v h, ap (λ (x : ℕ). get_or at x 0) e, S.row.below v h)

  ends_in : (ends : List ℕ) → length ends ≡ length from → ((i : ℕ) → i < length from → get_or ends i 0 < g) → Ends at ends
  ends_in ends e h =
      record { few = omega (arith, C.few); rows = omega arith; in_row = λ i l. omega (arith, h i (omega arith)); low = λ c l. omega (arith, below c (omega arith)) }

  forward : (i : ℕ) → i < length from → via at from i ≤ via at to i
  forward i l =
      let (j, h, ef, et) = edge_listed C P.formed R P.wide i l in
      omega (arith, start_is j h, end_is j h, S.forward j h, ap (λ (x : ℕ). get_or at x 0) ef, ap (λ (x : ℕ). get_or at x 0) et)

  pub listed_edges : Positioned at from to width g
  listed_edges =
      record {
        whole = tall;
        joins = record { out = ends_in from refl C.from_in; into = ends_in to C.same_ends C.to_in; same = C.same_ends };
        same = C.same_widths;
        narrow = rw C.same_widths C.narrow;
        below = λ i l. below _ (C.from_in i l);
        forward = forward;
      }

  -- what leaves an interval
  leaving_listed : (y x : ℕ) → leaving_by at from to width y x ≡ leaving_of G places y x
  unfolding leaving_by leaving crosses
  leaving_listed y x =
      sym (sum_to_ext (edges G) _ _ (λ j l. rw (start_is j l, end_is j l)) ∙ coarse_sum C P.formed R (crosses at y x) (crosses_own at y x))

  pub listed_leaving : leaving_by at from to width ≡ leaving_of G places
  listed_leaving = λ i y x. leaving_listed y x i
