-- What the work below the checks asks, and what it answers.
use Rattle.std.specs.Prelude.{ℕ, ◌≡◌, ◌≤◌, ◌*◌, Option, Some, None, List, length, take}
use Rattle.folds.specs.Fold.{over, zeros}
use Rattle.graph.specs.Graph.{Graph, vertices, edges, identity, seen, joining}
use Rattle.graph.specs.Links.{Linked, leave}
use Rattle.topology.specs.Order.{order_of}
use Rattle.topology.specs.Level.{levels_of}
use Rattle.validity.specs.Cause.{Answer, refusal, answered}
use Rattle.validity.specs.Sound.{Sound}
use Rattle.validity.specs.declared.Cause.TheVariants.{Uncut}
use Rattle.hierarchy.specs.Rounds.{kept_of, rows_after}
use Rattle.partition.specs.Phases.{Result, nothing, parted, result_of}
use Rattle.partition.specs.declared.Summary.{Summary}
use Rattle.partition.specs.Split.{figures, summary_of, parts_into}

-- what the checks leave known of a graph that passed them, and of what is lent
pub record Ready (G : Graph) (k bound : ℕ) (order levels head next table rows : List ℕ) : Type 0 where
  pub sound : Sound G k bound
  pub table_room : vertices G ≤ length table
  pub rows_room : 9 * vertices G ≤ length rows
  pub order_is : take (vertices G) order ≡ order_of (seen G (identity (vertices G))) (vertices G)
  pub levels_is : levels ≡ over (levels_of (seen G (identity (vertices G))) (vertices G)) (zeros 512)
  pub linked : Linked (leave (joining G.starts G.ends)) (edges G) head next

-- the work below the checks, as code answers it
abbrev pub inner_of : Graph → ℕ → Result → Option Summary
inner_of G kept nothing = None
inner_of G kept (parted rung first tally) = Some (summary_of G kept rung tally)

abbrev pub answer_by : Option Summary → Answer
answer_by (Some s) = answered (figures s)
answer_by None = refusal Uncut 0

pub record Works (G : Graph) (k bound : ℕ) (table rows table' rows' : List ℕ) (r : Option Summary) : Type 0 where
  pub is : r ≡ inner_of G (kept_of G k bound) (result_of G k bound)
  pub table_is : table' ≡ parts_into (result_of G k bound) table
  pub rows_is : rows' ≡ rows_after G k bound rows
