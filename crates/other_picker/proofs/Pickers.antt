-- The other picker's rounds keep the rules, so the claim about rounds is cited as it stands; and it picks other pairs.
use Prim.Native.Nat.{ℕ, zero, suc}
use mathlib.Core.Path.{◌≡◌, refl}
use mathlib.Core.List.{List, [], ◌∷◌}
use lib.ListN.{take}
use Rattle.folds.specs.Fold.{sum_to, max_to, first_to, any_to, all_to, list_to, turns, zeros}
use Rattle.folds.proofs.Cases.{by, both}
use Rattle.graph.specs.Walk.{Acyclic}
use Rattle.graph.specs.Graph.{Graph, vertices, identity, seen, edge, Edge, width_of, cost_in, part_cost, Formed, Inside}
use Rattle.graph.specs.Rows.{clusters, Layer}
use Rattle.graph.proofs.Edges.{row_inside}
use Rattle.topology.specs.Level.{rise, levels_after, levels_of, next_in}
use Rattle.topology.specs.Order.{waits, ready, or_none, order_from, order_of}
use Rattle.contraction.specs.Rules.{pair, Round, Keeps}
use Rattle.contraction.specs.Tests.{all_of, only_successor, only_predecessor, rule_one, rule_two, fits}
use Rattle.contraction.specs.Next.{next_row_of}
use Rattle.contraction.proofs.Crossed.{case3}
use Rattle.contraction.specs.Rounds.{row_after, AllKeep}
use Rattle.contraction.proofs.Tests.{keeps_none, keeps_more}
use Rattle.contraction.proofs.Rounds.{bottom_layer, next_layer, rounds_acyclic}
use Rattle.matching.specs.Choice.{may_take, offer, widest, taken, visit, visits, round_of}
use Rattle.other_picker.specs.Picker.{highest, visit_high, visits_high, round_high, rounds_high}

module _ (G : Graph) (bound : ℕ) (row : List ℕ) (g : ℕ) (inside : Inside (seen G row) g) where
  abbrev L : List ℕ
  L = levels_of (seen G row) g

  visit_keeps : (ps : Round) (u : ℕ) → Keeps (seen G row) g ps → Keeps (seen G row) g (visit_high G bound row L g ps u)
  unfolding visit_high may_take
  visit_keeps ps u K =
      let v = highest g (list_to g (offer G row L g bound ps u)) in
      by (may_take G row L g bound ps u v)
      (λ t. rw t (keeps_more (seen G row) g inside ps (pair u v) K (both (fits (seen G row) L g ps (pair u v)) _ t).0))
      (λ t. rw t K)

  visits_keep : (ps : Round) (us : List ℕ) → Keeps (seen G row) g ps → Keeps (seen G row) g (visits_high G bound row L g ps us)
  unfolding visits_high
  visits_keep ps [] K = K
  visits_keep ps (u ∷ us) K = visits_keep (visit_high G bound row L g ps u) us (visit_keeps ps u K)

round_keeps : (G : Graph) (bound : ℕ) (row : List ℕ) → Formed G → Layer G row → Keeps (seen G row) (clusters row) (round_high G bound row)
unfolding round_high
round_keeps G bound row F S =
    let inside = row_inside F S.row_of in visits_keep G bound row (clusters row) inside [] (order_of (seen G row) (clusters row)) (keeps_none (seen G row) (clusters row) inside)

rounds_keep : (G : Graph) (bound f : ℕ) (row : List ℕ) → Formed G → Layer G row → AllKeep G row (rounds_high G bound f row)
unfolding rounds_high
rounds_keep G bound zero row F S = tt
rounds_keep G bound (suc f) row F S =
    let K = round_keeps G bound row F S in (K, rounds_keep G bound f (next_row_of row (round_high G bound row)) F (next_layer G row (round_high G bound row) F S K))

-- WHOEVER PICKED: the claim of contraction, cited for the other picker's list
pub other_acyclic : (G : Graph) → Formed G → Acyclic (Edge (seen G (identity (vertices G)))) → (bound f i : ℕ)
    → Acyclic (Edge (seen G (row_after (identity (vertices G)) (take i (rounds_high G bound f (identity (vertices G)))))))
other_acyclic G F ac bound f i =
    rounds_acyclic G F ac (rounds_high G bound f (identity (vertices G))) (rounds_keep G bound f (identity (vertices G)) F (bottom_layer G ac)) i

-- on case 3 of document 01 the two pick different pairs
pub picks_low : round_of case3 4 (identity 4) ≡ pair 0 2 ∷ []
unfolding case3 identity edge width_of cost_in part_cost sum_to max_to first_to any_to all_to list_to zeros clusters rise levels_after levels_of waits ready or_none order_from order_of all_of next_in only_successor only_predecessor rule_one rule_two fits may_take offer widest taken visit visits round_of
picks_low = refl

pub picks_high : round_high case3 4 (identity 4) ≡ pair 0 3 ∷ []
unfolding case3 identity edge width_of cost_in part_cost sum_to max_to first_to any_to all_to list_to zeros clusters rise levels_after levels_of waits ready or_none order_from order_of all_of next_in only_successor only_predecessor rule_one rule_two fits may_take offer highest turns visit_high visits_high round_high
picks_high = refl
