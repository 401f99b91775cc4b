-- The measure: a gain above 0 lowers it, and so does a move that evens and keeps the cut.
use Prim.Native.Nat.{ℕ, zero, suc, ◌+◌, ◌*◌, ◌≤◌, ◌<◌}
use mathlib.Core.Path.{◌≡◌, sym, ◌∙◌}
use mathlib.Core.Logic.{◌⊎◌, inl, inr}
use mathlib.Core.List.{List}
use native.Mathlib.Nat.{add-zero, add-suc, suc-mul, mul-suc, mul-le-mul_right, mul-le-mul}
use native.Mathlib.Omega.{arith}
use lib.Dec.{eqb, ltb}
use lib.ListN.{get_or}
use borrow.Author.Tests.{eq-eqb, ne_eqb, ltb-true, lt-ltb}
use Rattle.folds.specs.Fold.{pick, when, sum_to}
use Rattle.folds.proofs.Cases.{either, eq_or_ne, when_le, same_test}
use Rattle.folds.proofs.Sums.{sum_to_le, sum_to_mono, sum_to_ext, sum_to_add, sum_to_only}
use Rattle.graph.specs.Graph.{Graph, vertices, cut_of, cost_in, part_cost, Formed}
use Rattle.refinement.specs.Move.{larger_cost}
use Rattle.refinement.specs.Pass.{spread, most_spread, measure}
use Rattle.refinement.proofs.Move.{cost_third, cost_new, cost_old}

square_next : (a d : ℕ) → (a + suc d) * (a + suc d) ≡ (a + d) * (a + d) + (a + d) + (a + d) + 1
square_next a d = rw (add-suc a d, suc-mul (a + d) (suc (a + d)), mul-suc (a + d) (a + d)) (omega arith)

-- d goes from b + d to a, which is below b
square_even : (a b d : ℕ) → a < b → (a + d) * (a + d) + b * b + d ≤ a * a + (b + d) * (b + d)
square_even a b zero l = rw (add-zero a, add-zero b) (omega arith)
square_even a b (suc d) l = omega (arith, square_even a b d l, square_next a d, square_next b d)

-- two sums whose terms differ at s and t alone
sum_two : (n s t : ℕ) (f g : ℕ → ℕ) → s < n → t < n → (s ≡ t → ⊥) → ((u : ℕ) → (s ≡ u → ⊥) → (t ≡ u → ⊥) → f u ≡ g u)
    → sum_to n f + (g s + g t) ≡ sum_to n g + (f s + f t)
sum_two n s t f g ls lt n' same =
    rw (← total g, ← total f) (sym (sum_to_add n f _) ∙ sum_to_ext n _ _ (λ u l. term u) ∙ sum_to_add n g _)
  where
    total : (x : ℕ → ℕ) → sum_to n (λ u. when (eqb s u) (x u) + when (eqb t u) (x u)) ≡ x s + x t
    total x = sum_to_add n (λ u. when (eqb s u) (x u)) (λ u. when (eqb t u) (x u)) ∙ omega (arith, sum_to_only n s x ls, sum_to_only n t x lt)

    term : (u : ℕ) → f u + (when (eqb s u) (g u) + when (eqb t u) (g u)) ≡ g u + (when (eqb s u) (f u) + when (eqb t u) (f u))
    term u =
        either (eq_or_ne s u) (λ e. rw (eq-eqb s u e, ne_eqb t u (λ q. n' (e ∙ sym q))) (omega arith))
        (λ n. either (eq_or_ne t u) (λ e. rw (ne_eqb s u n, eq-eqb t u e) (omega arith)) (λ m. rw (ne_eqb s u n, ne_eqb t u m) (omega (arith, same u n m))))

-- first the one, then the other
two_falls : (c c' s s' b : ℕ) → s' ≤ b → (c' < c) ⊎ ((c' ≤ c) × (s' < s)) → c' * suc b + s' < c * suc b + s
two_falls c c' s s' b l w =
    either w (λ x. omega (arith, mul-le-mul_right (suc b) x, suc-mul c' (suc b))) (λ x. omega (arith, mul-le-mul_right (suc b) x.0, x.1))

spread_most : (G : Graph) (k : ℕ) (parts : List ℕ) → spread G k parts ≤ most_spread G k
unfolding spread most_spread part_cost cost_in
spread_most G k parts =
    sum_to_le k _ _ (λ u.
    let l = sum_to_mono (vertices G) _ (λ v. get_or G.costs v 0) (λ v l. when_le (eqb (get_or parts v 0) u) (get_or G.costs v 0)) in mul-le-mul l l)

-- all vertices of h have the part s; in parts' they have the part t, and the others what they had
module _ (G : Graph) (F : Formed G) (row parts parts' : List ℕ) (h s t : ℕ)
    (all : (v : ℕ) → v < vertices G → get_or row v 0 ≡ h → get_or parts v 0 ≡ s)
    (upd : (v : ℕ) → v < vertices G → get_or parts' v 0 ≡ pick (eqb (get_or row v 0) h) t (get_or parts v 0))
    (n : s ≡ t → ⊥) where
  -- the test by the sums of the two parts
  pub even_sums : 0 < part_cost G.costs row h
      → ltb (larger_cost G parts' s t) (larger_cost G parts s t) ≡ ltb (part_cost G.costs parts t + part_cost G.costs row h) (part_cost G.costs parts s)
  unfolding larger_cost
  even_sums d =
      let new = cost_new G F row parts parts' h s t all upd n in
      let old = cost_old G F row parts parts' h s t all upd n in
      same_test (ltb (larger_cost G parts' s t) (larger_cost G parts s t)) (ltb (part_cost G.costs parts t + part_cost G.costs row h) (part_cost G.costs parts s))
      (λ e. let l = ltb-true (larger_cost G parts' s t) (larger_cost G parts s t) e in lt-ltb _ (part_cost G.costs parts s) (omega arith))
      (λ e. let l = ltb-true (part_cost G.costs parts t + part_cost G.costs row h) (part_cost G.costs parts s) e in lt-ltb (larger_cost G parts' s t) (larger_cost G parts s t) (omega arith))

  module _ (k : ℕ) (ls : s < k) (lt : t < k) where
    even_falls : larger_cost G parts' s t < larger_cost G parts s t → spread G k parts' < spread G k parts
    unfolding larger_cost spread
    even_falls e =
        let d = part_cost G.costs row h in
        let new = cost_new G F row parts parts' h s t all upd n in
        let old = cost_old G F row parts parts' h s t all upd n in
        let two = sum_two k s t (λ u. part_cost G.costs parts u * part_cost G.costs parts u) (λ u. part_cost G.costs parts' u * part_cost G.costs parts' u) ls lt n
        (λ u p q. rw (cost_third G F row parts parts' h s t all upd u p q)) in
        let x = square_even (part_cost G.costs parts t) (part_cost G.costs parts' s) d (omega arith) in
        let y = rw (← new, old) at x in
        omega arith

    pub measure_falls : (cut_of G parts' < cut_of G parts) ⊎ ((cut_of G parts' ≤ cut_of G parts) × (larger_cost G parts' s t < larger_cost G parts s t))
        → measure G k parts' < measure G k parts
    unfolding measure
    measure_falls w = two_falls _ _ _ _ (most_spread G k) (spread_most G k parts') (either w inl (λ x. inr (x.0, even_falls x.1)))
