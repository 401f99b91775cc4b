-- A round on a rung's lists is the round on its row.
use Prim.Native.Nat.{ℕ, ◌<◌}
use mathlib.Core.Path.{◌≡◌, refl, sym, ap, ◌∙◌}
use mathlib.Core.Bool.{Bool, not, ◌&&◌, ◌||◌}
use mathlib.Core.List.{List, [], ◌∷◌}
use native.Mathlib.Omega.{arith}
use lib.Dec.{eqb, ltb}
use lib.ListN.{length, get_or}
use borrow.Author.Tests.{eq-eqb, ne_eqb, ltb-true, ltb-false}
use Rattle.folds.specs.Fold.{when, all_to}
use Rattle.folds.proofs.Cases.{by, either, eq_or_ne}
use Rattle.folds.proofs.Sums.{sum_to_ext, sum_to_only, sum_to_none, sum_to_member}
use Rattle.folds.proofs.Searches.{first_to_ext}
use Rattle.folds.proofs.Lists.{list_to_ext, length-list_to, get_d_past}
use Rattle.graph.specs.Graph.{Graph, graph_of, vertices, identity, Arcs, seen, edge, width_of, part_cost, cost_in}
use Rattle.graph.specs.Coarse.{Coarse}
use Rattle.graph.proofs.Walks.{acyclic_map}
use Rattle.graph.proofs.Edges.{identity_at}
use Rattle.graph.proofs.Coarse.{coarse_edge}
use Rattle.topology.specs.Level.{levels_of, next_in}
use Rattle.topology.specs.Order.{order_of}
use Rattle.topology.proofs.Same.{Same, order_same, levels_same}
use Rattle.contraction.specs.Rules.{Pair, pair, Round}
use Rattle.contraction.proofs.Rounds.{identity-clusters}
use Rattle.contraction.specs.Tests.{all_of, only_successor, only_predecessor, rule_one, rule_two, fits}
use Rattle.matching.specs.Choice.{may_take, offer, widest, taken, visit, visits, round_of}
use Rattle.matching.specs.Promises.{RoundReady}

all_ext : (n : ℕ) (p q : ℕ → Bool) → ((k : ℕ) → k < n → p k ≡ q k) → all_to n p ≡ all_to n q
unfolding all_to
all_ext n p q h = ap (λ (z : ℕ). eqb z n) (first_to_ext n _ _ (λ k l. ap not (h k l)))

all_of_ext : (t s : Pair → Bool) (ps : Round) → ((p : Pair) → t p ≡ s p) → all_of t ps ≡ all_of s ps
unfolding all_of
all_of_ext t s [] h = refl
all_of_ext t s (p ∷ ps) h = rw (h p, all_of_ext t s ps h)

-- the rules depend only on which clusters are joined
module _ (A B : Arcs) (S : Same A B) (levels : List ℕ) (g : ℕ) where
  one_same : (p : Pair) → rule_one A levels g p ≡ rule_one B levels g p
  unfolding rule_one only_successor only_predecessor next_in
  one_same p =
      rw (
        S p.from p.to,
        all_ext g (λ w. not (edge A p.from w) || eqb w p.to) (λ w. not (edge B p.from w) || eqb w p.to) (λ w _. rw (S p.from w)),
        all_ext g (λ w. not (edge A w p.to) || eqb w p.from) (λ w. not (edge B w p.to) || eqb w p.from) (λ w _. rw (S w p.to)),
      )

  two_same : (p q : Pair) → rule_two A levels g p q ≡ rule_two B levels g p q
  unfolding rule_two next_in
  two_same p q = rw (S p.from q.to)

  fits_same : (ps : Round) (p : Pair) → fits A levels g ps p ≡ fits B levels g ps p
  unfolding fits
  fits_same ps p = rw (one_same p, all_of_ext (λ q. rule_two A levels g p q && rule_two A levels g q p) (λ q. rule_two B levels g p q && rule_two B levels g q p) ps (λ q. rw (two_same p q, two_same q p)))

-- and the choice also on widths and costs
module _ (G H : Graph) (row row' levels : List ℕ) (g bound : ℕ) (S : Same (seen G row) (seen H row'))
    (widths : (a b : ℕ) → width_of (seen G row) G.widths a b ≡ width_of (seen H row') H.widths a b)
    (costs : (c : ℕ) → part_cost G.costs row c ≡ part_cost H.costs row' c) where
  offer_same : (ps : Round) (u v : ℕ) → offer G row levels g bound ps u v ≡ offer H row' levels g bound ps u v
  unfolding offer may_take
  offer_same ps u v = rw (fits_same (seen G row) (seen H row') S levels g ps (pair u v), costs u, costs v, widths u v)

  visit_same : (ps : Round) (u : ℕ) → visit G row levels g bound ps u ≡ visit H row' levels g bound ps u
  unfolding visit taken widest
  visit_same ps u = rw (list_to_ext g (offer G row levels g bound ps u) (offer H row' levels g bound ps u) (λ v _. offer_same ps u v))

  visits_same : (us : List ℕ) (ps : Round) → visits G row levels g bound ps us ≡ visits H row' levels g bound ps us
  unfolding visits
  visits_same [] ps = refl
  visits_same (u ∷ us) ps = rw (visit_same ps u) (visits_same us (visit H row' levels g bound ps u))

eqb_turn : (a b : ℕ) → eqb a b ≡ eqb b a
eqb_turn a b = either (eq_or_ne a b) (λ e. eq-eqb a b e ∙ sym (eq-eqb b a (sym e))) (λ n. ne_eqb a b n ∙ sym (ne_eqb b a (λ z. n (sym z))))

-- a cluster of its own costs what it costs
pub cost_identity : (cs : List ℕ) (c : ℕ) → part_cost cs (identity (length cs)) c ≡ get_or cs c 0
unfolding part_cost cost_in
cost_identity cs c =
    sum_to_ext (length cs) _ _ (λ v l. rw (identity_at (length cs) v l, eqb_turn v c))
    ∙ by (ltb c (length cs)) (λ t. sum_to_only (length cs) c (λ v. get_or cs v 0) (ltb-true c _ t))
    (λ t. sum_to_none (length cs) _ (λ v l. rw (ne_eqb c v (λ e. omega (arith, ltb-false c (length cs) t)))) ∙ sym (get_d_past cs c (ltb-false c _ t)))

-- a rung's lists with its clusters' costs
module _ {G : Graph} {row : List ℕ} {g : ℕ} {froms tos ws : List ℕ} (R : RoundReady G row g) (C : Coarse G row g froms tos ws)
    (cs : List ℕ) (len : length cs ≡ g) (costs : (c : ℕ) → get_or cs c 0 ≡ part_cost G.costs row c) where
  abbrev H : Graph
  H = graph_of cs froms tos ws

  same : Same (seen H (identity g)) (seen G row)
  same = coarse_edge C R.proper.formed R.row_of R.proper.wide

  pub round_coarse : (bound : ℕ) → round_of H bound (identity g) ≡ round_of G bound row
  unfolding round_of
  round_coarse bound =
      rw (identity-clusters g, ← R.count, levels_same (seen H (identity g)) (seen G row) same g, order_same (seen H (identity g)) (seen G row) same g)
      (visits_same H G (identity g) row (levels_of (seen G row) g) g bound same C.width
      (λ c. ap (λ (n : ℕ). part_cost cs (identity n) c) (sym len) ∙ cost_identity cs c ∙ costs c) (order_of (seen G row) g) [])

  module _ (onto : (c : ℕ) → c < g → (v : ℕ) × (v < vertices G) × (get_or row v 0 ≡ c)) where
    costly : (c : ℕ) → c < g → 0 < get_or cs c 0
    unfolding part_cost cost_in
    costly c l =
        let (v, lv, e) = onto c l in
        let h = sum_to_member (vertices G) (λ x. when (eqb (get_or row x 0) c) (get_or G.costs x 0)) v lv in
        omega (arith, costs c, rw (eq-eqb (get_or row v 0) c e) at h, R.proper.costly v lv)

    pub ready_coarse : RoundReady H (identity g) g
    unfolding identity
    ready_coarse =
        let n : length (identity g) ≡ g = length-list_to _ _ in
        record {
          proper = record {
            formed = record {
              same_ends = C.same_ends;
              same_widths = C.same_widths;
              start_in = λ i l. omega (arith, C.from_in i l);
              end_in = λ i l. omega (arith, C.to_in i l);
            };
            some = omega (arith, R.row_of.below 0 R.proper.some);
            few = omega (arith, R.small);
            many = C.few;
            costly = λ c l. costly c (omega arith);
            wide = C.wide;
          };
          row_of = record { whole = n ∙ sym len; below = λ v l. rw (identity_at g v (omega arith)) (omega arith) };
          acyclic = acyclic_map (λ a b t. sym (same a b) ∙ t) R.acyclic;
          count = sym (identity-clusters g);
          small = R.small;
        }
