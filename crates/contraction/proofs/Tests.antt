-- The tests of the join rules say the rules, and the other way round.
use Prim.Native.Nat.{ℕ, zero, suc, ◌<◌}
use mathlib.Core.Path.{◌≡◌, refl, sym, ap, ◌∙◌}
use mathlib.Core.Bool.{Bool, true, false, not, ◌&&◌, ◌||◌}
use mathlib.Core.Logic.{inl, inr}
use mathlib.Core.List.{List, [], ◌∷◌}
use native.Mathlib.Omega.{arith}
use lib.Dec.{eqb}
use lib.ListN.{length}
use borrow.Author.Tests.{eqb-true, eq-eqb}
use Rattle.folds.proofs.Cases.{no_bool, either, both, both_i, one_of, or_l, or_r, not_yes}
use Rattle.folds.proofs.Searches.{all_i, all_e}
use Rattle.graph.specs.Graph.{Arcs, edge, Inside}
use Rattle.graph.proofs.Edges.{edge_inside}
use Rattle.topology.specs.Level.{levels_of, level, next_in}
use Rattle.contraction.specs.Rules.{Pair, Round, pair_at, Next, OnlySuccessor, OnlyPredecessor, RuleOne, RuleTwo, Keeps}
use Rattle.contraction.specs.Tests.{all_of, only_successor, only_predecessor, rule_one, rule_two, fits, keeps}

-- a test of every pair, read at an index, and back
pub all_of_e : (t : Pair → Bool) (ps : Round) → all_of t ps ≡ true → (i : ℕ) → i < length ps → t (pair_at ps i) ≡ true
unfolding all_of
all_of_e t [] e i l = absurd (omega arith)
all_of_e t (p ∷ ps) e zero l = (both (t p) (all_of t ps) e).0
all_of_e t (p ∷ ps) e (suc i) l = all_of_e t ps (both (t p) (all_of t ps) e).1 i (omega arith)

pub all_of_i : (t : Pair → Bool) (ps : Round) → ((i : ℕ) → i < length ps → t (pair_at ps i) ≡ true) → all_of t ps ≡ true
unfolding all_of
all_of_i t [] h = refl
all_of_i t (p ∷ ps) h = both_i (t p) (all_of t ps) (h 0 (omega arith)) (all_of_i t ps (λ i l. h (suc i) (omega arith)))

-- a implies b, as a test
imp : (a b : Bool) → (not a || b) ≡ true → a ≡ true → b ≡ true
imp true b p q = p
imp false b p q = absurd (no_bool q)

imp_i : (a b : Bool) → (a ≡ true → b ≡ true) → (not a || b) ≡ true
imp_i true b f = f refl
imp_i false b f = refl

pub not_i : (a : Bool) → (a ≡ true → ⊥) → not a ≡ true
not_i true f = absurd (f refl)
not_i false f = refl

pub not_e : (a : Bool) → not a ≡ true → a ≡ true → ⊥
not_e a e t = no_bool (sym (not_yes a e) ∙ t)

not_eq : (a b : ℕ) → (a ≡ b → ⊥) → not (eqb a b) ≡ true
not_eq a b n = not_i (eqb a b) (λ e. n (eqb-true a b e))

eq_not : (a b : ℕ) → not (eqb a b) ≡ true → a ≡ b → ⊥
eq_not a b e q = not_e (eqb a b) e (eq-eqb a b q)

module _ (A : Arcs) (g : ℕ) (inside : Inside A g) where
  -- the tests take the levels as a list
  abbrev L : List ℕ
  L = levels_of A g

  next_e : (u v : ℕ) → next_in L u v ≡ true → Next A g u v
  unfolding next_in level
  next_e u v t = eqb-true _ _ t

  next_i : (u v : ℕ) → Next A g u v → next_in L u v ≡ true
  unfolding next_in level
  next_i u v e = eq-eqb _ _ e

  successor_e : (u v : ℕ) → only_successor A L g u v ≡ true → OnlySuccessor A g u v
  unfolding only_successor
  successor_e u v t w e = eqb-true w v (imp (edge A u w) (eqb w v) (all_e g _ t w (edge_inside A g inside u w e).1) e)

  successor_i : (u v : ℕ) → OnlySuccessor A g u v → only_successor A L g u v ≡ true
  unfolding only_successor
  successor_i u v h = all_i g _ (λ w l. imp_i (edge A u w) (eqb w v) (λ e. eq-eqb w v (h w e)))

  predecessor_e : (u v : ℕ) → only_predecessor A L g u v ≡ true → OnlyPredecessor A g u v
  unfolding only_predecessor
  predecessor_e u v t w e = eqb-true w u (imp (edge A w v) (eqb w u) (all_e g _ t w (edge_inside A g inside w v e).0) e)

  predecessor_i : (u v : ℕ) → OnlyPredecessor A g u v → only_predecessor A L g u v ≡ true
  unfolding only_predecessor
  predecessor_i u v h = all_i g _ (λ w l. imp_i (edge A w v) (eqb w u) (λ e. eq-eqb w u (h w e)))

  pub one_tested : (p : Pair) → rule_one A L g p ≡ true → RuleOne A g p
  unfolding rule_one
  one_tested p t =
      let u = p.from in
      let v = p.to in
      let (e, r) = both (edge A u v) _ t in
      record {
        joins = e;
        near = either (one_of (next_in L u v) _ r) (λ s. inl (next_e u v s))
            (λ s. inr (either (one_of (only_successor A L g u v) _ s) (λ q. inl (successor_e u v q)) (λ q. inr (predecessor_e u v q))));
      }

  pub tested_one : (p : Pair) → RuleOne A g p → rule_one A L g p ≡ true
  unfolding rule_one
  tested_one p r =
      let u = p.from in
      let v = p.to in
      both_i (edge A u v) _ r.joins
      (either r.near (λ s. or_l (next_in L u v) _ (next_i u v s))
      (λ s. or_r (next_in L u v) _ (either s (λ q. or_l (only_successor A L g u v) _ (successor_i u v q)) (λ q. or_r (only_successor A L g u v) _ (predecessor_i u v q)))))

  pub two_tested : (p q : Pair) → rule_two A L g p q ≡ true → RuleTwo A g p q
  unfolding rule_two
  two_tested p q t =
      let (a, r) = both (not (edge A p.from q.to && next_in L p.from q.to)) _ t in
      let (b, s) = both (not (eqb p.from q.from)) _ r in
      let (c, d) = both (not (eqb p.from q.to)) _ s in
      record {
        clear = λ e n. not_e _ a (both_i (edge A p.from q.to) _ e (next_i p.from q.to n));
        from_from = eq_not _ _ b;
        from_to = eq_not _ _ c;
        to_to = eq_not _ _ d;
      }

  pub tested_two : (p q : Pair) → RuleTwo A g p q → rule_two A L g p q ≡ true
  unfolding rule_two
  tested_two p q r =
      both_i (not (edge A p.from q.to && next_in L p.from q.to)) _
      (not_i _ (λ t. let (e, n) = both (edge A p.from q.to) _ t in r.clear e (next_e _ _ n)))
      (both_i (not (eqb p.from q.from)) _ (not_eq _ _ r.from_from)
      (both_i (not (eqb p.from q.to)) _ (not_eq _ _ r.from_to) (not_eq _ _ r.to_to)))

  -- one pair more that keeps the rules with those at hand
  pub keeps_more : (ps : Round) (p : Pair) → Keeps A g ps → fits A L g ps p ≡ true → Keeps A g (p ∷ ps)
  unfolding fits
  keeps_more ps p K t = record { one = ones; two = twos }
    where
      parts : (rule_one A L g p ≡ true) × (all_of (λ q. rule_two A L g p q && rule_two A L g q p) ps ≡ true)
      parts = both (rule_one A L g p) _ t

      with_other : (i : ℕ) → i < length ps → (rule_two A L g p (pair_at ps i) ≡ true) × (rule_two A L g (pair_at ps i) p ≡ true)
      with_other i l = both (rule_two A L g p (pair_at ps i)) _ (all_of_e _ ps parts.1 i l)

      ones : (i : ℕ) → i < length (p ∷ ps) → RuleOne A g (pair_at (p ∷ ps) i)
      ones zero l = one_tested p parts.0
      ones (suc i) l = K.one i (omega arith)

      twos : (i k : ℕ) → i < length (p ∷ ps) → k < length (p ∷ ps) → (i ≡ k → ⊥) → RuleTwo A g (pair_at (p ∷ ps) i) (pair_at (p ∷ ps) k)
      twos zero zero l h n = absurd (n refl)
      twos zero (suc k) l h n = two_tested p (pair_at ps k) (with_other k (omega arith)).0
      twos (suc i) zero l h n = two_tested (pair_at ps i) p (with_other i (omega arith)).1
      twos (suc i) (suc k) l h n = K.two i k (omega arith) (omega arith) (λ e. n (ap suc e))

  -- no pairs
  pub keeps_none : Keeps A g []
  keeps_none = record { one = λ i l. absurd (omega arith); two = λ i k l h n. absurd (omega arith) }

  -- the tests say the rules ..
  pub keeps_tested : (ps : Round) → keeps A L g ps ≡ true → Keeps A g ps
  unfolding keeps
  keeps_tested [] t = keeps_none
  keeps_tested (p ∷ ps) t = let (f, r) = both (fits A L g ps p) (keeps A L g ps) t in keeps_more ps p (keeps_tested ps r) f

  -- .. and the other way round
  pub tested_keeps : (ps : Round) → Keeps A g ps → keeps A L g ps ≡ true
  unfolding keeps fits
  tested_keeps [] K = refl
  tested_keeps (p ∷ ps) K =
      both_i (rule_one A L g p && all_of (λ q. rule_two A L g p q && rule_two A L g q p) ps) (keeps A L g ps)
      (both_i (rule_one A L g p) _ (tested_one p (K.one 0 (omega arith)))
      (all_of_i _ ps (λ i l. both_i (rule_two A L g p (pair_at ps i)) _
      (tested_two p (pair_at ps i) (K.two 0 (suc i) (omega arith) (omega arith) (λ e. omega arith)))
      (tested_two (pair_at ps i) p (K.two (suc i) 0 (omega arith) (omega arith) (λ e. omega arith))))))
      (tested_keeps ps (record {
        one = λ i l. K.one (suc i) (omega arith);
        two = λ i k l h n. K.two (suc i) (suc k) (omega arith) (omega arith) (λ e. n (omega arith));
      }))
