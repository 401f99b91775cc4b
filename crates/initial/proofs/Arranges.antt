-- Laws of the loops that invert the order and give each vertex its position.
use Prim.Native.Nat.{ℕ, ◌+◌, ◌≤◌, ◌<◌}
use mathlib.Core.Path.{◌≡◌, ap, sym, ◌∙◌}
use mathlib.Core.List.{List}
use native.Mathlib.Omega.{arith}
use lib.ListN.{length, get_or, set, length-set, take, length-take}
use lib.Seq.{get_or-set_same, get_or-set_other, get_or-take}
use Rattle.folds.proofs.Cases.{either, eq_or_ne}
use Rattle.folds.proofs.Lists.{list_to_ext}
use Rattle.graph.specs.Walk.{Acyclic}
use Rattle.graph.specs.Graph.{Arcs, Edge, Inside, through}
use Rattle.topology.specs.Order.{order_of, place_in}
use Rattle.topology.proofs.Orders.{order_all, order_below, order_once, place_in_at}
use Rattle.initial.specs.Initial.{places_in}
use Rattle.initial.specs.Positions.{Once, Inverse}

pub inverse_none : {order at : List ℕ} → length at ≡ 512 → Inverse 0 order at
inverse_none t = record { tall = t; is = λ i l. absurd (omega arith) }

pub inverse_turn : {g i a : ℕ} {order at : List ℕ} → Once g order → i < g → a ≡ get_or order i 0 → Inverse i order at → Inverse (i + 1) order (set at a i)
inverse_turn {g} {i} {a} {order} {at} O l e I =
    record {
      tall = length-set at a i ∙ I.tall;
      is = λ k h.
          either (eq_or_ne k i)
          (λ q. rw (q, ← e) (get_or-set_same at a i 0 (omega (arith, I.tall, O.low i l))))
          (λ n. get_or-set_other at a (get_or order k 0) i 0 (λ q. n (O.once k i (omega arith) l (q ∙ e))) ∙ I.is k (omega arith));
    }

-- the order of a row's clusters, and its inverse
module _ (A : Arcs) (g : ℕ) (order : List ℕ) (inside : Inside A g) (small : g ≤ 512) (acyclic : Acyclic (Edge A)) (q : take g order ≡ order_of A g) where
  all : length (order_of A g) ≡ g
  all = order_all A g inside acyclic

  long : g ≤ length order
  long = omega (arith, all, length-take g order, ap length q)

  front : (i : ℕ) → i < g → get_or order i 0 ≡ get_or (order_of A g) i 0
  front i h = sym (get_or-take g order i 0 h) ∙ ap (λ (l : List ℕ). get_or l i 0) q

  pub order_low : (i : ℕ) → i < g → get_or order i 0 < g
  order_low i h = rw (front i h) (order_below A g inside i (omega (arith, all)))

  pub order_is_once : Once g order
  order_is_once =
      record {
        long = long;
        low = λ i h. omega (arith, order_low i h);
        once = λ i j h k e. order_once A g inside i j (omega (arith, all)) (omega (arith, all)) (sym (front i h) ∙ e ∙ front j k);
      }

  pub at_order : (at : List ℕ) → Inverse g order at → (c : ℕ) → c < g → get_or order (get_or at c 0) 0 ≡ c
  at_order at I c h =
      let p = place_in (order_of A g) c in
      let (l, e) = place_in_at A g inside all c h in
      let there : get_or order p 0 ≡ c = front p l ∙ e in
      ap (λ (x : ℕ). get_or order (get_or at x 0) 0) (sym there) ∙ ap (λ (x : ℕ). get_or order x 0) (I.is p l) ∙ there

  pub through_places : (row at : List ℕ) → ((v : ℕ) → v < length row → get_or row v 0 < g) → Inverse g order at → through row at ≡ places_in A g row
  unfolding through places_in
  through_places row at low I =
      list_to_ext (length row) _ _ (λ v h.
      let c = get_or row v 0 in
      let (p, e) = place_in_at A g inside all c (low v h) in
      ap (λ (x : ℕ). get_or at x 0) (sym (front (place_in (order_of A g) c) p ∙ e)) ∙ I.is (place_in (order_of A g) c) p)
