-- The join rules as tests that compute (laws `keeps_tested` and `tested_keeps`).
use Rattle.std.specs.Prelude.{ℕ, Bool, true, not, ◌&&◌, ◌||◌, List, [], ◌∷◌, eqb}
use Rattle.topology.specs.Level.{next_in}
use Rattle.folds.specs.Fold.{all_to}
use Rattle.graph.specs.Graph.{Arcs, edge}
use Rattle.contraction.specs.Rules.{Pair, Round}

-- every pair of a round passes
unfoldable pub all_of : (Pair → Bool) → Round → Bool
all_of t [] = true
all_of t (p ∷ ps) = t p && all_of t ps

-- over g clusters, with their levels as a list
module _ (A : Arcs) (levels : List ℕ) (g : ℕ) where
  unfoldable pub only_successor : ℕ → ℕ → Bool
  only_successor u v = all_to g (λ w. not (edge A u w) || eqb w v)

  unfoldable pub only_predecessor : ℕ → ℕ → Bool
  only_predecessor u v = all_to g (λ w. not (edge A w v) || eqb w u)

  unfoldable pub rule_one : Pair → Bool
  rule_one p = edge A p.from p.to && (next_in levels p.from p.to || (only_successor p.from p.to || only_predecessor p.from p.to))

  unfoldable pub rule_two : Pair → Pair → Bool
  rule_two p q =
      not (edge A p.from q.to && next_in levels p.from q.to)
      && (not (eqb p.from q.from) && (not (eqb p.from q.to) && not (eqb p.to q.to)))

  -- p keeps both rules with the pairs ps
  unfoldable pub fits : Round → Pair → Bool
  fits ps p = rule_one p && all_of (λ q. rule_two p q && rule_two q p) ps

  unfoldable pub keeps : Round → Bool
  keeps [] = true
  keeps (p ∷ ps) = fits ps p && keeps ps
