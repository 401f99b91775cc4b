-- What is claimed of the split's answer, and of the running order on a rung.
use Rattle.std.specs.Prelude.{ℕ, ◌<◌, ◌≡◌, List, length, get_or}
use Rattle.folds.specs.Fold.{over}
use Rattle.graph.specs.Graph.{Graph, Arcs, Edge}
use Rattle.topology.specs.Order.{order_of, place_in}
use Rattle.validity.specs.Cause.{refusal, answered}
use Rattle.validity.specs.declared.Cause.TheVariants.{Uncut}
use Rattle.hierarchy.specs.Rounds.{kept_of, rows_after}
use Rattle.refinement.specs.Pass.{Tally}
use Rattle.partition.specs.Phases.{nothing, parted, result_of}
use Rattle.partition.specs.Split.{figures, summary_of, split_of, table_after, rows_left}

-- what an answer of number 0 stands for: the phases' result, document 01's values, and both tables afterwards
pub record Answers (most : ℕ) (G : Graph) (k bound : ℕ) (table rows : List ℕ) (rung : ℕ) (first : List ℕ) (tally : Tally) : Type 0 where
  pub result : result_of G k bound ≡ parted rung first tally
  pub answer : split_of most G k bound table rows ≡ answered (figures (summary_of G (kept_of G k bound) rung tally))
  pub table_is : table_after most G k bound table rows ≡ over tally.parts table
  pub rows_is : rows_left most G k bound table rows ≡ rows_after G k bound rows

-- and the refusal 9: the stage table is left, and the ladder holds its rows
pub record Uncuttable (most : ℕ) (G : Graph) (k bound : ℕ) (table rows : List ℕ) : Type 0 where
  pub result : result_of G k bound ≡ nothing
  pub answer : split_of most G k bound table rows ≡ refusal Uncut 0
  pub table_is : table_after most G k bound table rows ≡ table
  pub rows_is : rows_left most G k bound table rows ≡ rows_after G k bound rows

-- document 01, play order: it takes all g groups, each at its place, and every wire between two of them goes from an earlier place to a later one
pub record Ordered (A : Arcs) (g : ℕ) : Type 0 where
  pub all : length (order_of A g) ≡ g
  pub each : (c : ℕ) → c < g → get_or (order_of A g) (place_in (order_of A g) c) 0 ≡ c
  pub rises : (a b : ℕ) → Edge A a b → place_in (order_of A g) a < place_in (order_of A g) b
