-- Laws of sizes and places: what first cut, moves and inspection know of them.
use Prim.Native.Nat.{ℕ, ◌≤◌, ◌<◌}
use mathlib.Core.Path.{◌≡◌, refl}
use mathlib.Core.Bool.{Bool, true}
use mathlib.Core.List.{List}
use native.Mathlib.Omega.{arith}
use lib.ListN.{get_or}
use Rattle.folds.specs.Fold.{when, sum_to}
use Rattle.folds.proofs.Cases.{by, when_le}
use Rattle.folds.proofs.Sums.{sum_to_ext, sum_to_mono}
use Rattle.graph.specs.Graph.{Graph, vertices, cost_in, part_cost}
use Rattle.graph.specs.Table.{size_of, part_size, place_at}

module _ (G : Graph) where
  pub size_ext : (p q : ℕ → Bool) → ((v : ℕ) → v < vertices G → p v ≡ q v) → size_of G p ≡ size_of G q
  unfolding size_of
  size_ext p q e = sum_to_ext (vertices G) _ _ (λ v l. rw (e v l))

  pub size_mono : (p q : ℕ → Bool) → ((v : ℕ) → v < vertices G → p v ≡ true → q v ≡ true) → size_of G p ≤ size_of G q
  unfolding size_of
  size_mono p q h =
      sum_to_mono (vertices G) _ _ (λ v l.
      by (p v)
      (λ e. let r : when (p v) (get_or G.costs v 0) ≤ when (q v) (get_or G.costs v 0) = rw (e, h v l e) (omega arith) in r)
      (λ e. let r : when (p v) (get_or G.costs v 0) ≤ when (q v) (get_or G.costs v 0) = rw e (omega arith) in r))

  pub size_whole : (p : ℕ → Bool) → size_of G p ≤ sum_to (vertices G) (λ v. get_or G.costs v 0)
  unfolding size_of
  size_whole p = sum_to_mono (vertices G) _ _ (λ v _. when_le (p v) (get_or G.costs v 0))

  -- today a part's size is its cost, and its place its number
  pub size_cost : (parts : List ℕ) (u : ℕ) → part_size G parts u ≡ part_cost G.costs parts u
  unfolding part_size size_of part_cost cost_in
  size_cost parts u = refl

  pub place_is : (k : ℕ) (parts : List ℕ) (u : ℕ) → place_at G k parts u ≡ u
  unfolding place_at
  place_is k parts u = refl
