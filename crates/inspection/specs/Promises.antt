-- What the functions of this crate ask and promise.
use Rattle.std.specs.Prelude.{ℕ, ◌≤◌, ◌≡◌, Result, List, [], ◌∷◌, length}
use Rattle.graph.specs.Graph.{Graph, vertices, Arcs, cut, Proper}
use Rattle.validity.specs.Cause.{Verdict, told}
use Rattle.validity.specs.declared.Refusal.{Refusal}
use Rattle.inspection.specs.Inspect.{answer_of, order_for}

-- what checks 1 to 8 leave known: an entry for each vertex, and room for the start order
pub record TableReady (G : Graph) (k : ℕ) (parts order : List ℕ) : Type 0 where
  pub proper : Proper G
  pub whole : length parts ≡ vertices G
  pub few : k ≤ 16
  pub room : k ≤ length order

-- what a verdict on a table comes to: its cut and the start order of its parts, or the refusal
pub record Judged (v : Verdict) (A : Arcs) (widths : List ℕ) (k : ℕ) (order order' : List ℕ) (r : Result ℕ Refusal) : Type 0 where
  pub answer : answer_of r ≡ told v (cut A widths ∷ [])
  pub after : order' ≡ order_for v A k order
