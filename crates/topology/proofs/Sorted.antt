-- Where every edge goes from a lower to a higher number, the topological order is that of the numbers.
use Prim.Native.Nat.{ℕ, zero, suc, ◌+◌, ◌≤◌, ◌<◌}
use mathlib.Core.Path.{◌≡◌, refl, sym, ap, ap₂, ◌∙◌}
use mathlib.Core.Bool.{true, not}
use mathlib.Core.List.{List, [], ◌∷◌, ◌++◌}
use native.Mathlib.Nat.{add-zero}
use native.Mathlib.Omega.{arith}
use lib.Dec.{eqb}
use lib.ListN.{length, get_or, set, length-set}
use lib.Seq.{get_or-set_same, get_or-set_other}
use borrow.Author.Tests.{eq-eqb, ne_eqb, lt-ltb, eqb-true}
use Rattle.folds.specs.Fold.{first_to, any_to, list_to, zeros}
use Rattle.folds.proofs.Cases.{by, either, eq_or_ne, both, no_bool}
use Rattle.folds.proofs.Searches.{first_to_found, first_to_all, any_e}
use Rattle.folds.proofs.Lists.{get_d_zeros, length-zeros, list_to_ext}
use Rattle.graph.specs.Graph.{Arcs, identity}
use Rattle.topology.specs.Order.{waits, ready, or_none, order_from, order_of}

-- the k numbers from i on
run : ℕ → ℕ → List ℕ
run i k = list_to k (λ x. i + x)

run_cons : (i k : ℕ) → run i (suc k) ≡ i ∷ run (suc i) k
unfolding run list_to
run_cons i zero = ap (λ (x : ℕ). x ∷ []) (add-zero i)
run_cons i (suc k) = ap₂ ◌++◌ (run_cons i k) (ap (λ (x : ℕ). x ∷ []) (omega arith))

module _ (A : Arcs) (g : ℕ) (rises : (j : ℕ) → j < A.count → A.from j ≤ A.to j) where
  -- those below i are taken, and no others
  record Below (i : ℕ) (marks : List ℕ) : Type 0 where
    tall : g ≤ length marks
    taken : (x : ℕ) → x < i → get_or marks x 0 ≡ 0 → ⊥
    left : (x : ℕ) → i ≤ x → get_or marks x 0 ≡ 0

  is_ready : (i : ℕ) (marks : List ℕ) → Below i marks → ready A marks i ≡ true
  unfolding ready waits
  is_ready i marks B =
      rw (eq-eqb (get_or marks i 0) 0 (B.left i (omega arith)))
      (by (any_to A.count (waits A marks i))
      (λ t.
      let (j, l, e) = any_e A.count (waits A marks i) t in
      let (into, rest) = both (eqb (A.to j) i) _ e in
      let (other, z) = both (not (eqb (A.from j) i)) _ rest in
      either (eq_or_ne (A.from j) i)
      (λ q. absurd (no_bool (rw (eq-eqb (A.from j) i q) at other)))
      (λ q. absurd (B.taken (A.from j) (omega (arith, rises j l, eqb-true (A.to j) i into)) (eqb-true _ 0 z))))
      (λ f. rw f))

  is_first_lem : (i : ℕ) (marks : List ℕ) → i < g → Below i marks → first_to g (ready A marks) ≡ i
  unfolding ready
  is_first_lem i marks l B =
      first_to_found g i (ready A marks) (first_to_all i (ready A marks) (λ x h. rw (ne_eqb (get_or marks x 0) 0 (B.taken x h)))) (is_ready i marks B) l

  below_next : (i : ℕ) (marks : List ℕ) → i < g → Below i marks → Below (suc i) (set marks i 1)
  below_next i marks l B =
      record {
        tall = rw (length-set marks i 1) B.tall;
        taken = λ x h. either (eq_or_ne x i)
            (λ e z. let q : ◌≡◌ {A = ℕ} 1 0 = sym (get_or-set_same marks i 1 0 (omega (arith, B.tall))) ∙ ap (λ (y : ℕ). get_or (set marks i 1) y 0) (sym e) ∙ z in omega arith)
            (λ n z. B.taken x (omega arith) (sym (get_or-set_other marks i x 1 0 n) ∙ z));
        left = λ x h. get_or-set_other marks i x 1 0 (λ e. omega arith) ∙ B.left x (omega arith);
      }

  run_is : (k i : ℕ) (marks : List ℕ) → i + k ≡ g → Below i marks → order_from A g k marks ≡ run i k
  unfolding order_from or_none run list_to
  run_is zero i marks e B = refl
  run_is (suc k) i marks e B =
      let f = is_first_lem i marks (omega arith) B in
      rw (f, lt-ltb i g (omega arith)) (ap (λ (l : List ℕ). i ∷ l) (run_is k (suc i) (set marks i 1) (omega arith) (below_next i marks (omega arith) B)) ∙ sym (run_cons i k))

  pub order_sorted : order_of A g ≡ identity g
  unfolding order_of identity run
  order_sorted =
      run_is g 0 (zeros g) (omega arith) record { tall = omega (arith, length-zeros g); taken = λ x h. absurd (omega arith); left = λ x _. get_d_zeros g x }
      ∙ list_to_ext g _ _ (λ x _. omega arith)
