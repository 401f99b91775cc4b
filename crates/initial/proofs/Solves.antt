-- What the filled table says of the least division.
use Prim.Native.Nat.{ℕ, ◌+◌, ◌≤◌, ◌<◌}
use mathlib.Core.Path.{◌≡◌, ap, ◌∙◌}
use mathlib.Core.List.{List}
use native.Mathlib.Omega.{arith}
use native.Mathlib.Nat.{zero-add}
use lib.ListN.{get_or}
use Rattle.graph.specs.Graph.{Graph, vertices, cost_in}
use Rattle.graph.specs.Totals.{Totals}
use Rattle.division_table.specs.Division.{none, some, between}
use Rattle.division_table.specs.Promises.{best, no_cut, span, within, starts_by}
use Rattle.division_table.specs.Fewest.{After}
use Rattle.division_table.proofs.Best.{best_same}
use Rattle.division_table.proofs.Cells.{read_some, read_none}
use Rattle.division_table.proofs.Fills.{within_monotone, too_few}
use Rattle.division_table.proofs.Spans.{span_between, between_small}
use Rattle.initial.specs.Initial.{roomy}
use Rattle.division_scan.specs.Scan.{Positioned, leaving_by, Costs, CutsKnown}
use Rattle.division_scan.proofs.Flows.{leaving_small}
use Rattle.initial.proofs.Places.{run_cost}

-- the table, read at position 0
module _ {places starts ends widths cost : List ℕ} {bound g : ℕ} {away cuts : List ℕ} (P : Positioned places starts ends widths g) (n : ℕ) (ln : n < 16)
    (some-place : 0 < g) (T : CutsKnown n places starts ends widths cost bound g 0 away cuts) where
  pub solved_none : no_cut ≤ get_or cuts n 0 → best g (within cost bound) (leaving_by places starts ends widths) n 0 ≡ none
  solved_none h =
      read_none g (within cost bound) (leaving_by places starts ends widths) (leaving_small P) (within_monotone cost bound) cuts n (omega arith) T.before T.counts T.done n 0 (omega (arith, T.counts.first)) some-place (rw (zero-add n) h)

  pub solved_some : get_or cuts n 0 < no_cut
      → best g (within cost bound) (leaving_by places starts ends widths) n 0 ≡ some (get_or cuts n 0) (starts_by g (leaving_by places starts ends widths) cuts n 0)
  solved_some h =
      read_some g (within cost bound) (leaving_by places starts ends widths) (leaving_small P) (within_monotone cost bound) cuts n (omega arith) T.before T.counts T.done n 0 (omega (arith, T.counts.first)) some-place (rw (zero-add n) h)
      ∙ ap (λ (i : ℕ). some (get_or cuts i 0) (starts_by g (leaving_by places starts ends widths) cuts n 0)) (zero-add n)

-- the cuts before any is known
-- the costs of the positions
module _ (G : Graph) {g : ℕ} {places cost : List ℕ} (few : vertices G ≤ 512) (small : g ≤ 512) (C : Totals places G.costs 512 (vertices G) cost) where
  cost_between : (y x : ℕ) → y ≤ x → x ≤ g → span cost y x ≡ between (vertices G) (λ v. get_or places v 0) (λ v. get_or G.costs v 0) y x
  unfolding cost_in
  cost_between y = span_between (vertices G) (λ v. get_or places v 0) (λ v. get_or G.costs v 0) cost y g (λ x l h. C.is x (omega arith))

  pub cost_light : ((k : ℕ) → get_or G.costs k 0 < 65536) → Costs cost g
  cost_light n =
      record {
        tall = C.long;
        light = omega (arith, cost_between 0 g (omega arith) (omega arith), between_small (vertices G) (λ v. get_or places v 0) (λ v. get_or G.costs v 0) 0 g 65535 (λ v. omega (arith, n v)));
      }

  tests : (bound y x : ℕ) → y ≤ x → x ≤ g → roomy G bound places y x ≡ within cost bound y x
  unfolding roomy within
  tests bound y x l h = rw (run_cost G places y x, cost_between y x l h)

  module _ (bound : ℕ) (out : ℕ → ℕ → ℕ) (n : ℕ) where
    pub cost_best : best g (roomy G bound places) out n 0 ≡ best g (within cost bound) out n 0
    cost_best = best_same g (roomy G bound places) (within cost bound) out (tests bound) n 0

    pub solved_few : {after : List ℕ} → After g (within cost bound) 0 after → n + 1 < get_or after 0 0 → best g (roomy G bound places) out n 0 ≡ none
    solved_few A h = cost_best ∙ too_few {j = n} out 0 A (omega arith)
