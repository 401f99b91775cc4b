-- Edges between clusters, read off the lists and back; the cut and the costs of parts.
use Prim.Native.Nat.{ℕ, zero, suc, ◌≤◌, ◌<◌}
use mathlib.Core.Path.{◌≡◌, refl, sym, ap₂, fun_ext, ◌∙◌}
use mathlib.Core.Bool.{not, ◌&&◌}
use mathlib.Core.List.{List}
use native.Mathlib.Omega.{arith}
use lib.Dec.{eqb, ltb}
use lib.ListN.{length, get_or}
use borrow.Author.Tests.{eqb-true, eqb-false, eq-eqb, ne_eqb, ltb-true, ltb-false}
use Rattle.folds.specs.Fold.{list_to}
use Rattle.folds.proofs.Cases.{both, both_i, not_yes, by, when_le}
use Rattle.folds.proofs.Searches.{any_i, any_e}
use Rattle.folds.proofs.Lists.{get_d_past, get_d_list_to, length-list_to}
use Rattle.graph.specs.Graph.{Graph, vertices, via, identity, Arcs, arcs, joining, seen, edge, Edge, crossing, cost_in, through, Formed, RowOf, Inside}

module _ (A : Arcs) where
  -- edge j, read as an edge between clusters, and back
  pub arc_edge : (j : ℕ) → j < A.count → (A.from j ≡ A.to j → ⊥) → Edge A (A.from j) (A.to j)
  unfolding edge
  arc_edge j h ne =
      rw (ne_eqb (A.from j) (A.to j) ne)
      (any_i A.count (λ i. eqb (A.from i) (A.from j) && eqb (A.to i) (A.to j)) j h
      (both_i (eqb (A.from j) (A.from j)) (eqb (A.to j) (A.to j)) (eq-eqb (A.from j) (A.from j) refl) (eq-eqb (A.to j) (A.to j) refl)))

  pub edge_arc : (a b : ℕ) → Edge A a b → (j : ℕ) × (j < A.count) × (A.from j ≡ a) × (A.to j ≡ b)
  unfolding edge
  edge_arc a b t =
      let (j, h, e) = any_e A.count (λ i. eqb (A.from i) a && eqb (A.to i) b) (both (not (eqb a b)) _ t).1 in
      let (p, q) = both (eqb (A.from j) a) (eqb (A.to j) b) e in
      (j, h, eqb-true _ _ p, eqb-true _ _ q)

  pub edge_other : (a b : ℕ) → Edge A a b → a ≡ b → ⊥
  unfolding edge
  edge_other a b t = eqb-false a b (not_yes (eqb a b) (both (not (eqb a b)) _ t).0)

  pub edge_inside : (g : ℕ) → Inside A g → (a b : ℕ) → Edge A a b → (a < g) × (b < g)
  edge_inside g inside a b t =
      let (j, h, ea, eb) = edge_arc a b t in let (ha, hb) = inside j h in (omega arith, omega arith)

-- the same edges, seen twice
pub edge_same : (A B : Arcs) → A.count ≡ B.count → ((j : ℕ) → j < A.count → (A.from j ≡ B.from j) × (A.to j ≡ B.to j)) → (a b : ℕ) → Edge A a b → Edge B a b
edge_same A B n h a b t =
    let (j, l, ea, eb) = edge_arc A a b t in
    let (ha, hb) = h j l in
    let r = arc_edge B j (omega arith) (λ q. edge_other A a b t (sym ea ∙ ha ∙ q ∙ sym hb ∙ eb)) in
    rw (sym ha ∙ ea, sym hb ∙ eb) at r

-- a row of a graph keeps its edges inside
pub row_inside : {G : Graph} {row : List ℕ} {g : ℕ} → Formed G → RowOf G row g → Inside (seen G row) g
row_inside f r j h = (r.below _ (f.start_in j h), r.below _ (f.end_in j h))

-- rung 0
pub identity_row : (G : Graph) → RowOf G (identity (vertices G)) (vertices G)
unfolding identity
identity_row G = record { whole = length-list_to _ _; below = λ v h. rw (get_d_list_to (vertices G) (λ i. i) v h) h }

pub identity_at : (n v : ℕ) → v < n → get_or (identity n) v 0 ≡ v
unfolding identity
identity_at n v h = get_d_list_to n (λ i. i) v h

identity_none : (n : ℕ) → get_or (identity n) 0 0 ≡ 0
unfolding identity list_to
identity_none zero = refl
identity_none (suc n) = identity_at (suc n) 0 (omega arith)

-- lists that name clusters, seen through the row of the clusters themselves
via-identity : (n : ℕ) (ends : List ℕ) → ((j : ℕ) → j < length ends → get_or ends j 0 < n) → (j : ℕ) → via (identity n) ends j ≡ get_or ends j 0
via-identity n ends low j =
    by (ltb j (length ends))
    (λ t. identity_at n _ (low j (ltb-true j (length ends) t)))
    (λ t. rw (get_d_past ends j (ltb-false j (length ends) t)) (identity_none n))

pub joining_is : (n : ℕ) (froms tos : List ℕ) → ((j : ℕ) → j < length froms → get_or froms j 0 < n) → ((j : ℕ) → j < length tos → get_or tos j 0 < n) → arcs (identity n) froms tos ≡ joining froms tos
joining_is n froms tos lf lt =
    ap₂ (λ (f t : ℕ → ℕ). record { count = length froms; from = f; to = t }) (fun_ext (via-identity n froms lf)) (fun_ext (via-identity n tos lt))

pub through_at : (row table : List ℕ) (v : ℕ) → v < length row → get_or (through row table) v 0 ≡ get_or table (get_or row v 0) 0
unfolding through
through_at row table v h = get_d_list_to (length row) (λ i. get_or table (get_or row i 0) 0) v h

pub length-through : (row table : List ℕ) → length (through row table) ≡ length row
unfolding through
length-through row table = length-list_to _ _

-- bounds of the sums that code forms
pub crossing_le : (A : Arcs) (widths : List ℕ) (b : ℕ) → ((k : ℕ) → get_or widths k 0 ≤ b) → (j : ℕ) → crossing A widths j ≤ b
unfolding crossing
crossing_le A widths b h j = omega (arith, h j, when_le (not (eqb (A.from j) (A.to j))) (get_or widths j 0))

pub cost_in_le : (costs parts : List ℕ) (u b : ℕ) → ((k : ℕ) → get_or costs k 0 ≤ b) → (v : ℕ) → cost_in costs parts u v ≤ b
unfolding cost_in
cost_in_le costs parts u b h v = omega (arith, h v, when_le (eqb (get_or parts v 0) u) (get_or costs v 0))
