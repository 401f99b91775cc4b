-- Classes that no edge goes down: a cycle stays in one.
use Prim.Native.Nat.{ℕ, ◌+◌, ◌≤◌, ◌<◌}
use mathlib.Core.Path.{◌≡◌, sym, ap, ◌∙◌}
use mathlib.Core.Bool.{false}
use mathlib.Core.List.{List}
use native.Mathlib.Omega.{arith}
use lib.ListN.{get_or}
use Rattle.folds.proofs.Cases.{by, either, eq_or_ne, bit_few, bit_none}
use Rattle.std.specs.Int.{from_bool}
use Rattle.std.proofs.Common.{ltb, ltb-false}
use Rattle.graph.specs.Walk.{Walk, one, more}
use Rattle.graph.specs.Graph.{Arcs, Edge}
use Rattle.graph.proofs.Edges.{edge_arc, edge_other}
use Rattle.topology.specs.Reach.{on_cycle}
use Rattle.topology.proofs.Reaches.{on_cycle_walk}

module _ (A : Arcs) (class : List ℕ) where
  abbrev class_of : ℕ → ℕ
  class_of v = get_or class v 0

  -- of the first j edges: if `sum` is 0 none goes to a lower class, and `low` is at most what one inside a class leaves
  pub record Tried (j low sum : ℕ) : Type 0 where
    pub few : sum ≤ j
    pub up : sum ≡ 0 → (i : ℕ) → i < j → class_of (A.from i) ≤ class_of (A.to i)
    pub least : (i : ℕ) → i < j → (A.from i ≡ A.to i → ⊥) → class_of (A.from i) ≡ class_of (A.to i) → low ≤ A.from i

  pub tried_none : (g : ℕ) → Tried 0 g 0
  tried_none g = record { few = omega arith; up = λ _ i l. absurd (omega arith); least = λ i l. absurd (omega arith) }

  pub tried_turn : {j low sum a b f r : ℕ} → a ≡ A.from j → b ≡ A.to j → f ≡ from_bool (ltb (class_of b) (class_of a))
      → (r ≤ low) × ((a ≡ b → ⊥) → class_of a ≡ class_of b → r ≤ a) → Tried j low sum → Tried (j + 1) r (sum + f)
  tried_turn {j} {a = a} {b = b} ea eb F R T =
      record {
        few = omega (arith, F, bit_few (ltb (class_of b) (class_of a)), T.few);
        up = λ z i l. either (eq_or_ne i j) (λ q. rw (q, ← ea, ← eb) (ltb-false (class_of b) (class_of a) (bit_none _ (omega (arith, F))))) (λ n. T.up (omega arith) i (omega arith));
        least = λ i l. either (eq_or_ne i j) (λ q. rw (q, ← ea, ← eb) R.1) (λ n d e. omega (arith, R.0, T.least i (omega arith) d e));
      }

  -- along a walk the class of what its first edge goes to is not above that of its end
  first_edge : ((i : ℕ) → i < A.count → class_of (A.from i) ≤ class_of (A.to i)) → {a c : ℕ} → Walk (Edge A) a c
      → (i : ℕ) × (i < A.count) × (A.from i ≡ a) × (A.from i ≡ A.to i → ⊥) × (class_of (A.to i) ≤ class_of c)
  first_edge up {a} {c} (one e) =
      let (i, l, ea, ec) = edge_arc A a c e in
      (i, l, ea, (λ q. edge_other A a c e (sym ea ∙ q ∙ ec)), omega (arith, ap class_of ec))
  first_edge up (more {b = b} {c = c} w e) =
      let (i, l, ea, n, h) = first_edge up w in
      let (k, lk, eb, ec) = edge_arc A b c e in
      (i, l, ea, n, omega (arith, h, up k lk, ap class_of eb, ap class_of ec))

  pub classes_free : {low sum : ℕ} (g : ℕ) → Tried A.count low sum → sum ≡ 0 → (v : ℕ) → v < low → on_cycle A g v ≡ false
  classes_free g T z v lv =
      by (on_cycle A g v)
      (λ t.
      let (i, l, ea, n, h) = first_edge (T.up z) (on_cycle_walk A g v t) in
      absurd (omega (arith, T.least i l n (omega (arith, h, T.up z i l, ap class_of ea)))))
      (λ f. f)
