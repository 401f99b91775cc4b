-- The chosen pairs keep the join rules, and each costs at most the bound.
use Prim.Native.Nat.{ℕ, zero, suc, ◌+◌, ◌<◌, ◌≤◌}
use mathlib.Core.Path.{◌≡◌, sym, ◌∙◌}
use mathlib.Core.Bool.{Bool, true}
use mathlib.Core.List.{List, [], ◌∷◌}
use native.Mathlib.Nat.{eq-or-lt_of_le}
use native.Mathlib.Omega.{arith}
use lib.Dec.{eqb}
use lib.ListN.{length, get_or}
use borrow.Author.Tests.{eqb-true, eqb-false, eq-eqb, leb-true}
use Rattle.folds.specs.Fold.{max_to, first_to, list_to}
use Rattle.folds.proofs.Cases.{no_bool, by, either, both}
use Rattle.folds.proofs.Searches.{first_to_le, first_to_hit, first_to_below, max_at}
use Rattle.folds.proofs.Lists.{get_d_list_to}
use Rattle.graph.specs.Graph.{Graph, seen, Formed, RowOf, Inside, part_cost}
use Rattle.graph.specs.Rows.{clusters}
use Rattle.graph.proofs.Edges.{row_inside}
use Rattle.topology.specs.Level.{levels_of}
use Rattle.contraction.specs.Rules.{pair, Round, pair_at, Keeps}
use Rattle.contraction.specs.Tests.{fits}
use Rattle.contraction.proofs.Tests.{keeps_none, keeps_more}
use Rattle.matching.specs.Choice.{may_take, offer, widest, taken, visit, visits, round_of}

-- every pair costs at most the bound
abbrev pub Within : Graph → List ℕ → ℕ → Round → Type 0
Within G row bound ps = (i : ℕ) → i < length ps → part_cost G.costs row (pair_at ps i).from + part_cost G.costs row (pair_at ps i).to ≤ bound

first_low : (g : ℕ) (p : ℕ → Bool) (v : ℕ) → v < g → p v ≡ true → first_to g p < g
first_low g p v l t =
    either (eq-or-lt_of_le (first_to_le g p)) (λ q. absurd (no_bool (sym (first_to_below g p v (rw q l)) ∙ t))) (λ q. q)

-- the largest entry, where it is not 0, is found
pub widest_found : (G : Graph) (row levels : List ℕ) (g bound : ℕ) (offers : List ℕ) → (max_to g (λ w. get_or offers w 0) ≡ 0 → ⊥)
    → (widest G row levels g bound offers < g) × (get_or offers (widest G row levels g bound offers) 0 ≡ max_to g (λ w. get_or offers w 0))
unfolding widest
widest_found G row levels g bound offers n =
    let m = max_to g (λ w. get_or offers w 0) in
    let p : ℕ → Bool = λ v. eqb (get_or offers v 0) m in
    let l : first_to g p < g = either (max_at g (λ w. get_or offers w 0)) (λ z. absurd (n z)) (λ (v, lv, e). first_low g p v lv (eq-eqb (get_or offers v 0) m (sym e))) in
    (l, eqb-true _ _ (first_to_hit g p l))

-- an offer above 0 is one that may be taken
offer_may : (G : Graph) (row levels : List ℕ) (g bound : ℕ) (ps : Round) (u v : ℕ) → (offer G row levels g bound ps u v ≡ 0 → ⊥) → may_take G row levels g bound ps u v ≡ true
unfolding offer
offer_may G row levels g bound ps u v n = by (may_take G row levels g bound ps u v) (λ t. t) (λ t. absurd (n (rw t)))

-- the rules, and the bound
abbrev pub Kept : Graph → List ℕ → ℕ → ℕ → Round → Type 0
Kept G row g bound ps = Keeps (seen G row) g ps × Within G row bound ps

pub none_kept : (G : Graph) (row : List ℕ) (g bound : ℕ) → Inside (seen G row) g → Kept G row g bound []
none_kept G row g bound inside = (keeps_none (seen G row) g inside, λ i l. absurd (omega arith))

module _ (G : Graph) (row : List ℕ) (g bound : ℕ) (inside : Inside (seen G row) g) where
  abbrev L : List ℕ
  L = levels_of (seen G row) g

  one_more : (ps : Round) (u v : ℕ) → Kept G row g bound ps → may_take G row L g bound ps u v ≡ true → Kept G row g bound (pair u v ∷ ps)
  unfolding may_take
  one_more ps u v (K, W) t =
      let (f, c) = both (fits (seen G row) L g ps (pair u v)) _ t in
      (keeps_more (seen G row) g inside ps (pair u v) K f, costs (leb-true _ _ c))
    where
      costs : part_cost G.costs row u + part_cost G.costs row v ≤ bound → Within G row bound (pair u v ∷ ps)
      costs c zero l = c
      costs c (suc i) l = W i (omega arith)

  pub visit_kept : (ps : Round) (u : ℕ) → Kept G row g bound ps → Kept G row g bound (visit G row L g bound ps u)
  unfolding visit taken
  visit_kept ps u K =
      let offers = list_to g (offer G row L g bound ps u) in
      by (eqb (max_to g (λ w. get_or offers w 0)) 0) (λ t. rw t K)
      (λ t.
      let n = eqb-false _ _ t in
      let (l, e) = widest_found G row L g bound offers n in
      rw t (one_more ps u (widest G row L g bound offers) K
      (offer_may G row L g bound ps u (widest G row L g bound offers) (λ z. n (sym e ∙ get_d_list_to g (offer G row L g bound ps u) (widest G row L g bound offers) l ∙ z)))))

  visits_keep : (ps : Round) (us : List ℕ) → Kept G row g bound ps → Kept G row g bound (visits G row L g bound ps us)
  unfolding visits
  visits_keep ps [] K = K
  visits_keep ps (u ∷ us) K = visits_keep (visit G row L g bound ps u) us (visit_kept ps u K)

-- THE CHOSEN PAIRS keep the join rules on their row, and each costs at most the bound
module _ (G : Graph) (bound : ℕ) (row : List ℕ) (F : Formed G) (R : RowOf G row (clusters row)) where
  chosen : Keeps (seen G row) (clusters row) (round_of G bound row) × Within G row bound (round_of G bound row)
  unfolding round_of
  chosen =
      let inside = row_inside F R in
      visits_keep G row (clusters row) bound inside [] _ (none_kept G row (clusters row) bound inside)

  pub round_keeps : Keeps (seen G row) (clusters row) (round_of G bound row)
  round_keeps = chosen.0

  pub round_within : Within G row bound (round_of G bound row)
  round_within = chosen.1
