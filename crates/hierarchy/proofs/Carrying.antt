-- What is carried of a row is what a round on its lists asks for, and the round is that on the row.
use Prim.Native.Nat.{ℕ, ◌≤◌, ◌<◌}
use mathlib.Core.Path.{◌≡◌, sym, ap, ◌∙◌}
use mathlib.Core.List.{List}
use native.Mathlib.Omega.{arith}
use lib.Dec.{ltb}
use lib.ListN.{length, get_or, take}
use lib.Seq.{length-take-le, get_or-take}
use borrow.Author.Tests.{ltb-true, ltb-false}
use Rattle.folds.proofs.Cases.{by, either, eq_or_ne}
use Rattle.folds.proofs.Lists.{get_d_past}
use Rattle.graph.specs.Graph.{Graph, graph_of, identity, arcs, joining, seen, RowOf, Proper}
use Rattle.graph.specs.Coarse.{Coarse}
use Rattle.graph.proofs.Coarse.{coarse_joining, coarse_ended, coarse_edge}
use Rattle.topology.specs.Order.{order_of, InOrder}
use Rattle.topology.proofs.Same.{order_same}
use Rattle.matching_scan.specs.State.{Simple}
use Rattle.matching.specs.Promises.{RoundReady, Matched}
use Rattle.matching.proofs.Lists.{round_coarse, ready_coarse}
use Rattle.hierarchy.specs.Promises.{Carries}

-- the order by a rung's lists is that of its row
pub coarse_order : {G : Graph} {row : List ℕ} {g : ℕ} {froms tos widths : List ℕ} → Coarse G row g froms tos widths → Proper G → RowOf G row g → order_of (joining froms tos) g ≡ order_of (seen G row) g
coarse_order {G} {row} {g} {froms} {tos} C P R = rw (← coarse_joining C) (order_same (arcs (identity g) froms tos) (seen G row) (coarse_edge C P.formed R P.wide) g)

-- the lists of a row are edges between clusters, no two from one to the same
pub coarse_simple : {G : Graph} {row : List ℕ} {g : ℕ} {froms tos widths : List ℕ} → Coarse G row g froms tos widths → g ≤ 512 → Simple froms tos widths
coarse_simple {froms = froms} {tos = tos} C small =
    record {
      joins = coarse_ended C small;
      same = C.same_widths;
      narrow = rw C.same_widths C.narrow;
      single = single;
    }
  where
    single : (i j : ℕ) → i < length froms → j < length froms → get_or froms i 0 ≡ get_or froms j 0 → get_or tos i 0 ≡ get_or tos j 0 → i ≡ j
    single i j li lj f t =
        either (eq_or_ne i j) (λ e. e)
        (λ n. by (ltb i j) (λ q. absurd (C.once i j (ltb-true i j q) lj f t)) (λ q. absurd (C.once j i (omega (arith, ltb-false i j q)) li (sym f) (sym t))))

module _ {G : Graph} {row : List ℕ} {g : ℕ} {weights froms tos widths order : List ℕ} (R : RoundReady G row g) (C : Carries G row g weights froms tos widths order) where
  cost_length : length (take g weights) ≡ g
  cost_length = length-take-le g weights (omega (arith, C.weighed.tall, R.small))

  cost_at : (c : ℕ) → get_or (take g weights) c 0 ≡ get_or weights c 0
  cost_at c = by (ltb c g) (λ t. get_or-take g weights c 0 (ltb-true c g t)) (λ t. get_d_past (take g weights) c (omega (arith, cost_length, ltb-false c g t)) ∙ sym (C.weighed.past c (ltb-false c g t)))

  pub carried_ready : RoundReady (graph_of (take g weights) froms tos widths) (identity g) g
  carried_ready = ready_coarse R C.lists (take g weights) cost_length (λ c. cost_at c ∙ C.costs c) C.onto

  pub carried_order : InOrder (joining froms tos) g order
  carried_order = record { long = C.ordered.long; is = λ i l. C.ordered.is i l ∙ ap (λ (o : List ℕ). get_or o i 0) (sym (coarse_order C.lists R.proper R.row_of)) }

  pub carried_matched : {mates : List ℕ} {bound r : ℕ} → Matched (graph_of (take g weights) froms tos widths) bound (identity g) mates r → Matched G bound row mates r
  carried_matched {mates} {bound} {r} M =
      let e = round_coarse R C.lists (take g weights) cost_length (λ c. cost_at c ∙ C.costs c) bound in
      record { counts = rw (← e) M.counts; few = M.few; mates_are = rw (← e) M.mates_are }
