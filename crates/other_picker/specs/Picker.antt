-- Pairs picked as document 01 says, but with ties to the highest number.
use Rattle.std.specs.Prelude.{ℕ, zero, suc, List, [], ◌∷◌, eqb, get_or}
use Rattle.folds.specs.Fold.{pick, max_to, list_to, turns}
use Rattle.graph.specs.Graph.{Graph, seen}
use Rattle.graph.specs.Rows.{clusters}
use Rattle.topology.specs.Level.{levels_of}
use Rattle.topology.specs.Order.{order_of}
use Rattle.contraction.specs.Rules.{pair, Round}
use Rattle.contraction.specs.Next.{next_row_of}
use Rattle.matching.specs.Choice.{may_take, offer}

-- the last number below g with the largest entry
unfoldable pub highest : ℕ → List ℕ → ℕ
highest g offers = turns g (λ v last. pick (eqb (get_or offers v 0) (max_to g (λ w. get_or offers w 0))) v last) 0

module _ (G : Graph) (bound : ℕ) (row levels : List ℕ) (g : ℕ) where
  unfoldable pub visit_high : Round → ℕ → Round
  visit_high ps u =
      let v = highest g (list_to g (offer G row levels g bound ps u)) in
      pick (may_take G row levels g bound ps u v) (pair u v ∷ ps) ps

  unfoldable pub visits_high : Round → List ℕ → Round
  visits_high ps [] = ps
  visits_high ps (u ∷ us) = visits_high (visit_high ps u) us

unfoldable pub round_high : Graph → ℕ → List ℕ → Round
round_high G bound row = let g = clusters row in visits_high G bound row (levels_of (seen G row) g) g [] (order_of (seen G row) g)

-- f rounds from a row on, none dropped
unfoldable pub rounds_high : Graph → ℕ → ℕ → List ℕ → List Round
rounds_high G bound zero row = []
rounds_high G bound (suc f) row = let ps = round_high G bound row in ps ∷ rounds_high G bound f (next_row_of row ps)
