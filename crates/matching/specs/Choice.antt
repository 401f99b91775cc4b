-- One round's choice of pairs, as document 01 says it.
use Rattle.std.specs.Prelude.{ℕ, ◌+◌, Bool, ◌&&◌, List, [], ◌∷◌, eqb, leb, get_or}
use Rattle.folds.specs.Fold.{pick, when, max_to, first_to, list_to}
use Rattle.graph.specs.Graph.{Graph, seen, width_of, part_cost}
use Rattle.graph.specs.Rows.{clusters}
use Rattle.topology.specs.Level.{levels_of}
use Rattle.topology.specs.Order.{order_of}
use Rattle.contraction.specs.Rules.{pair, Round}
use Rattle.contraction.specs.Tests.{fits}

-- on a row with the levels `levels` of its g clusters and a bound on a cluster's cost
module _ (G : Graph) (row levels : List ℕ) (g bound : ℕ) where
  -- u may take v: both rules hold with the pairs chosen so far, and the joint cost is within the bound (document 01: the limit)
  unfoldable pub may_take : Round → ℕ → ℕ → Bool
  may_take ps u v = fits (seen G row) levels g ps (pair u v) && leb (part_cost G.costs row u + part_cost G.costs row v) bound

  -- the summed width from u to v where u may take v, else 0
  unfoldable pub offer : Round → ℕ → ℕ → ℕ
  offer ps u v = when (may_take ps u v) (width_of (seen G row) G.widths u v)

  -- the lowest of those with the widest offer, where there is one
  unfoldable pub widest : List ℕ → ℕ
  widest offers = first_to g (λ v. eqb (get_or offers v 0) (max_to g (λ w. get_or offers w 0)))

  -- the pairs, with what u takes
  unfoldable pub taken : List ℕ → ℕ → Round → Round
  taken offers u ps = pick (eqb (max_to g (λ w. get_or offers w 0)) 0) ps (pair u (widest offers) ∷ ps)

  unfoldable pub visit : Round → ℕ → Round
  visit ps u = let offers = list_to g (offer ps u) in taken offers u ps

  -- the clusters visited one after another
  unfoldable pub visits : Round → List ℕ → Round
  visits ps [] = ps
  visits ps (u ∷ us) = visits (visit ps u) us

-- document 01: a round visits groups in play order; the pair chosen last comes first
unfoldable pub round_of : Graph → ℕ → List ℕ → Round
round_of G bound row =
    let g = clusters row in
    let levels = levels_of (seen G row) g in visits G row levels g bound [] (order_of (seen G row) g)
