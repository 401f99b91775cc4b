-- Checks 10 to 13 of document 01, on a table with an entry for each vertex.
use Rattle.std.specs.Prelude.{ℕ, ◌<◌, ◌≤◌, ◌≡◌, Bool, not, List, eqb, ltb, leb, get_or}
use Rattle.folds.specs.Fold.{any_to, first_to}
use Rattle.graph.specs.Walk.{Acyclic}
use Rattle.graph.specs.Graph.{Graph, vertices, arcs, seen, Edge}
use Rattle.graph.specs.Table.{part_size}
use Rattle.topology.specs.Reach.{lowest_on_cycle}
use Rattle.validity.specs.Check.{refuse_at}
use Rattle.validity.specs.declared.Cause.TheVariants.{Entry, Empty, Over, PartCycle}
use Rattle.validity.specs.Cause.{Verdict, Passed}

-- 10: entry of k or more
unfoldable pub bad_entry : ℕ → List ℕ → ℕ → Bool
bad_entry k parts v = leb k (get_or parts v 0)

-- 11: stage without blocks
unfoldable pub is_empty : ℕ → List ℕ → ℕ → Bool
is_empty n parts u = not (any_to n (λ v. eqb (get_or parts v 0) u))

-- 12: stage over the limit
unfoldable pub is_over : Graph → ℕ → List ℕ → ℕ → Bool
is_over G bound parts u = ltb bound (part_size G parts u)

-- 13: stages form a loop
unfoldable pub cycles_from : List ℕ → List ℕ → ℕ → List ℕ → Verdict
cycles_from starts ends k parts = refuse_at PartCycle (lowest_on_cycle (arcs parts starts ends) k) k Passed

unfoldable pub table_of : Graph → ℕ → ℕ → List ℕ → Verdict
table_of G k bound parts =
    refuse_at Entry (first_to (vertices G) (bad_entry k parts)) (vertices G)
    (refuse_at Empty (first_to k (is_empty (vertices G) parts)) k
    (refuse_at Over (first_to k (is_over G bound parts)) k (cycles_from G.starts G.ends k parts)))

-- demand 2: stages filled, within the limit and free of loops among themselves, and every entry names one of them
pub record Fine (G : Graph) (k bound : ℕ) (parts : List ℕ) : Type 0 where
  pub named : (v : ℕ) → v < vertices G → get_or parts v 0 < k
  pub filled : (u : ℕ) → u < k → (v : ℕ) × (v < vertices G) × (get_or parts v 0 ≡ u)
  pub within : (u : ℕ) → u < k → part_size G parts u ≤ bound
  pub acyclic : Acyclic (Edge (seen G parts))
