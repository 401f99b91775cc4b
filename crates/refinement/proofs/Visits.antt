-- A visit takes what document 02, a says, and that is one part.
use Prim.Native.Nat.{ℕ, ◌+◌, ◌≤◌, ◌<◌, min, max}
use mathlib.Core.Path.{◌≡◌, refl, sym, ◌∙◌}
use mathlib.Core.Bool.{Bool, true, false, not, ◌&&◌}
use mathlib.Core.Logic.{◌⊎◌, inl, inr}
use mathlib.Core.List.{List}
use native.Mathlib.Omega.{arith}
use lib.Dec.{eqb, ltb, leb}
use lib.IntN.{pos}
use lib.Signed.{lt_z}
use lib.ListN.{get_or}
use borrow.Author.Tests.{eqb-true, eqb-false, eq-eqb, ne_eqb, ltb-true, ltb-false, leb-true, lt-ltb, le-ltb, le-leb}
use Rattle.folds.proofs.Cases.{no_bool, by, either, both, both_i, one_of, or_l, or_r, not_yes}
use Rattle.folds.proofs.Best.{Best, best_to_lem}
use Rattle.folds.proofs.Choose.{choose_is, choose_of, min_one, max_one}
use Rattle.folds.proofs.Searches.{any_i, any_e}
use Rattle.graph.specs.Graph.{Graph, vertices, edges, via}
use Rattle.graph.specs.Rows.{clusters}
use Rattle.graph.specs.Table.{part_size}
use Rattle.refinement.specs.Move.{moved_to, part_of, leaves, pull, gain_to, Candidate, Stays, Allowed, Gains, Balances, Improves}
use Rattle.refinement.specs.Pass.{lowered, raised, lowest_next, above_before, stays, allows, is_candidate, improves, target}
use Rattle.refinement.specs.Own.{GainsMost, EvensOut, Taken}
use Rattle.refinement.proofs.Gains.{gain_less, gain_above, zero_gain, gain_zero}

module _ (G : Graph) (row parts : List ℕ) (h : ℕ) where
  -- the highest part of the predecessors: that of one of them, and no lower than any
  above_is : (above_before G row parts h ≡ 0) ⊎ ((j : ℕ) × (j < edges G) × (leaves row G.ends G.starts h j ≡ true) × (via parts G.starts j + 1 ≡ above_before G row parts h))
  unfolding above_before raised
  above_is = choose_is (leaves row G.ends G.starts h) (λ j. via parts G.starts j + 1) max 0 max_one (edges G)

  above_of : (j : ℕ) → j < edges G → leaves row G.ends G.starts h j ≡ true → via parts G.starts j + 1 ≤ above_before G row parts h
  unfolding above_before raised
  above_of =
      choose_of (leaves row G.ends G.starts h) (λ j. via parts G.starts j + 1) max 0 (λ a b. b ≤ a) (λ a b c x y. omega arith) (λ a b. omega arith) (λ a b. omega arith) (edges G)

  -- the lowest part of the successors
  low_is : (k : ℕ) → (lowest_next G k row parts h ≡ k) ⊎ ((j : ℕ) × (j < edges G) × (leaves row G.starts G.ends h j ≡ true) × (via parts G.ends j ≡ lowest_next G k row parts h))
  unfolding lowest_next lowered
  low_is k = choose_is (leaves row G.starts G.ends h) (via parts G.ends) min k min_one (edges G)

  low_of : (k j : ℕ) → j < edges G → leaves row G.starts G.ends h j ≡ true → lowest_next G k row parts h ≤ via parts G.ends j
  unfolding lowest_next lowered
  low_of k = choose_of (leaves row G.starts G.ends h) (via parts G.ends) min k (λ a b. a ≤ b) (λ a b c x y. omega arith) (λ a b. omega arith) (λ a b. omega arith) (edges G)

  -- a part that no predecessor is above, and none that a successor is below
  pub above_le : (t : ℕ) → ((j : ℕ) → j < edges G → leaves row G.ends G.starts h j ≡ true → via parts G.starts j ≤ t) → above_before G row parts h ≤ t + 1
  above_le t f = either above_is (λ e. omega arith) (λ w. omega (arith, f w.0 w.1 w.2, w.3))

  pub low_ge : (k t : ℕ) → t ≤ k → ((j : ℕ) → j < edges G → leaves row G.starts G.ends h j ≡ true → t ≤ via parts G.ends j) → t ≤ lowest_next G k row parts h
  low_ge k t l f = either (low_is k) (λ e. omega arith) (λ w. omega (arith, f w.0 w.1 w.2, w.3))

  stays_found : stays G row parts h ≡ true → Stays G row parts h
  unfolding stays
  stays_found t =
      let (v, l, e) = any_e (vertices G) _ t in
      let (p, q) = both (eqb (get_or parts v 0) (part_of row parts h)) (not (eqb (get_or row v 0) h)) e in
      (v, l, eqb-true _ _ p, eqb-false _ _ (not_yes _ q))

  stays_test : Stays G row parts h → stays G row parts h ≡ true
  unfolding stays
  stays_test (v, l, e, n) =
      any_i (vertices G) (λ i. eqb (get_or parts i 0) (part_of row parts h) && not (eqb (get_or row i 0) h)) v l (rw (eq-eqb (get_or parts v 0) (part_of row parts h) e, ne_eqb (get_or row v 0) h n))

  candidate_found : (k t : ℕ) → t < k → is_candidate G k row parts h t ≡ true → Candidate G k row parts h t
  unfolding is_candidate
  candidate_found k t l e =
      let (z, xy) = both (not (eqb (part_of row parts h) t)) _ e in
      let (x, y) = both (leb (above_before G row parts h) (t + 1)) _ xy in
      record {
        low = λ j lj q. omega (arith, above_of j lj q, leb-true (above_before G row parts h) (t + 1) x);
        high = λ j lj q. omega (arith, low_of k j lj q, leb-true t (lowest_next G k row parts h) y);
        below = l;
        other = eqb-false _ _ (not_yes _ z);
      }

  candidate_test : (k t : ℕ) → Candidate G k row parts h t → is_candidate G k row parts h t ≡ true
  unfolding is_candidate
  candidate_test k t c =
      rw (le-leb _ _ (above_le t c.low), le-leb _ _ (low_ge k t (omega (arith, c.below)) c.high), ne_eqb _ _ c.other)

  improves_found : (t : ℕ) → improves G row parts h t ≡ true → Improves G row parts h t
  unfolding improves
  improves_found t e =
      either (one_of (lt_z (pos 0) (gain_to G row parts h t)) _ e) inl
      (λ x. let (p, q) = both (eqb (pull G row parts h t) (pull G row parts h (part_of row parts h))) _ x in inr (zero_gain G row parts h t (eqb-true _ _ p), ltb-true _ _ q))

  improves_test : (t : ℕ) → Improves G row parts h t → improves G row parts h t ≡ true
  unfolding improves
  improves_test t b =
      either b (or_l (lt_z (pos 0) (gain_to G row parts h t)) _)
      (λ x. or_r (lt_z (pos 0) (gain_to G row parts h t)) _ (both_i _ _ (eq-eqb _ _ (gain_zero G row parts h t x.0)) (lt-ltb _ _ x.1)))

  module _ (k bound : ℕ) (l : h < clusters row) where
    abbrev choice : ℕ → Bool
    choice t = is_candidate G k row parts h t && (allows G bound row parts h t && improves G row parts h t)

    choice_found : (t : ℕ) → t < k → choice t ≡ true → Allowed G k bound row parts h t × Improves G row parts h t
    unfolding allows
    choice_found t lt e =
        let (x, yz) = both (is_candidate G k row parts h t) _ e in
        let (y, z) = both (allows G bound row parts h t) _ yz in
        let (fits, left) = both (leb (part_size G (moved_to row h t parts) t) bound) _ y in
        (record { cluster = l; candidate = candidate_found k t lt x; fits = leb-true _ _ fits; stays = stays_found left }, improves_found t z)

    choice_test : (t : ℕ) → Allowed G k bound row parts h t → Improves G row parts h t → choice t ≡ true
    unfolding allows
    choice_test t a b = rw (candidate_test k t a.candidate, le-leb _ _ a.fits, stays_test a.stays, improves_test t b)

    own_out : choice (part_of row parts h) ≡ false
    unfolding is_candidate
    own_out = rw (eq-eqb (part_of row parts h) (part_of row parts h) refl)

    abbrev less : ℕ → ℕ → Bool
    less a b = lt_z (gain_to G row parts h a) (gain_to G row parts h b)

    less_self : (a : ℕ) → less a a ≡ false
    less_self a = gain_less G row parts h a a ∙ le-ltb (pull G row parts h a) (pull G row parts h a) (omega arith)

    less_mix : (a b c : ℕ) → less a b ≡ false → less a c ≡ true → (less b c ≡ true) × (less c b ≡ false)
    less_mix a b c x y =
        let p = ltb-false (pull G row parts h a) (pull G row parts h b) (sym (gain_less G row parts h a b) ∙ x) in
        let q = ltb-true (pull G row parts h a) (pull G row parts h c) (sym (gain_less G row parts h a c) ∙ y) in
        (gain_less G row parts h b c ∙ lt-ltb (pull G row parts h b) (pull G row parts h c) (omega arith), gain_less G row parts h c b ∙ le-ltb (pull G row parts h c) (pull G row parts h b) (omega arith))

    -- h stays where nothing improves, or goes to the best that does
    target_is : ((target G k bound row parts h ≡ part_of row parts h) × ((u : ℕ) → u < k → choice u ≡ false)) ⊎ Best k choice less (target G k bound row parts h)
    unfolding target
    target_is = best_to_lem choice less (part_of row parts h) own_out less_self less_mix k

    pub target_improves : (target G k bound row parts h ≡ part_of row parts h)
        ⊎ (Allowed G k bound row parts h (target G k bound row parts h) × Improves G row parts h (target G k bound row parts h))
    target_improves = either target_is (λ w. inl w.0) (λ w. inr (choice_found _ w.below w.has))

    -- the same in widths
    above : (u : ℕ) → Gains G row parts h u → pull G row parts h (part_of row parts h) < pull G row parts h u
    above u g = ltb-true _ _ (sym (gain_above G row parts h u) ∙ g)

    not_above : (u : ℕ) → lt_z (pos 0) (gain_to G row parts h u) ≡ false → pull G row parts h u ≤ pull G row parts h (part_of row parts h)
    not_above u e = ltb-false (pull G row parts h (part_of row parts h)) _ (sym (gain_above G row parts h u) ∙ e)

    smaller : (a b : ℕ) → pull G row parts h a < pull G row parts h b → less a b ≡ true
    smaller a b q = gain_less G row parts h a b ∙ lt-ltb (pull G row parts h a) (pull G row parts h b) q

    no_smaller : (a b : ℕ) → pull G row parts h b ≤ pull G row parts h a → less a b ≡ false
    no_smaller a b q = gain_less G row parts h a b ∙ le-ltb (pull G row parts h a) (pull G row parts h b) q

    module _ {t : ℕ} (w : Best k choice less t) (a : Allowed G k bound row parts h t) where
      most_taken : Gains G row parts h t → GainsMost G k bound row parts h t
      most_taken g =
          record {
            allowed = a;
            above = g;
            largest = λ u b.
                by (lt_z (pos 0) (gain_to G row parts h u)) (λ e. w.largest u b.candidate.below (choice_test u b (inl e))) (λ e. no_smaller t u (omega (arith, above t g, not_above u e)));
            lowest = λ u b lu.
                by (lt_z (pos 0) (gain_to G row parts h u)) (λ e. w.lowest u lu (choice_test u b (inl e))) (λ e. smaller u t (omega (arith, above t g, not_above u e)));
          }

      even_taken : Balances G row parts h t → EvensOut G k bound row parts h t
      even_taken x =
          record {
            none = λ u b g. no_bool (sym (w.largest u b.candidate.below (choice_test u b (inl g))) ∙ smaller t u (omega (arith, above u g, gain_zero G row parts h t x.0)));
            allowed = a;
            balances = x;
            lowest = λ u b y.
                by (ltb u t)
                (λ e. absurd (no_bool (sym (no_smaller u t (omega (arith, gain_zero G row parts h t x.0, gain_zero G row parts h u y.0))) ∙ w.lowest u (ltb-true u t e) (choice_test u b (inr y)))))
                (ltb-false u t);
          }

    -- a visit takes what document 02 says
    pub target_taken : Taken G k bound row parts h (target G k bound row parts h)
    target_taken =
        either target_is
        (λ (e, z).
        let no : (u : ℕ) → Allowed G k bound row parts h u → Improves G row parts h u → ⊥ = λ u a b. no_bool (sym (z u a.candidate.below) ∙ choice_test u a b) in
        inr (inr (record { own = e; none = λ u a g. no u a (inl g); none_balances = λ u a b. no u a (inr b) })))
        (λ w. let (a, b) = choice_found _ w.below w.has in either b (λ g. inl (most_taken w a g)) (λ x. inr (inl (even_taken w a x))))

  -- and that is one part
  module _ {k bound : ℕ} where
    most_low : {t u : ℕ} → GainsMost G k bound row parts h t → GainsMost G k bound row parts h u → t ≤ u
    most_low {t} {u} x y = by (ltb u t) (λ e. absurd (no_bool (sym (y.largest t x.allowed) ∙ x.lowest u y.allowed (ltb-true u t e)))) (ltb-false u t)

    pub taken_one : (t u : ℕ) → Taken G k bound row parts h t → Taken G k bound row parts h u → t ≡ u
    taken_one t u (inl x) (inl y) = omega (arith, most_low x y, most_low y x)
    taken_one t u (inl x) (inr (inl y)) = absurd (y.none t x.allowed x.above)
    taken_one t u (inl x) (inr (inr y)) = absurd (y.none t x.allowed x.above)
    taken_one t u (inr (inl x)) (inl y) = absurd (x.none u y.allowed y.above)
    taken_one t u (inr (inl x)) (inr (inl y)) = omega (arith, x.lowest u y.allowed y.balances, y.lowest t x.allowed x.balances)
    taken_one t u (inr (inl x)) (inr (inr y)) = absurd (y.none_balances t x.allowed x.balances)
    taken_one t u (inr (inr x)) (inl y) = absurd (x.none u y.allowed y.above)
    taken_one t u (inr (inr x)) (inr (inl y)) = absurd (x.none_balances u y.allowed y.balances)
    taken_one t u (inr (inr x)) (inr (inr y)) = x.own ∙ sym y.own
