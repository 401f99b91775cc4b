-- the slices that are handed out are the parts
use Rattle.folds.proofs.Slices.{slice_part}
use Rattle.graph.proofs.StoredRows.edges.Goals as goal

pub invariant_of-result : goal.invariant_of-result
invariant_of-result c = record { ended = rw c.from.ensures (simp slice_part c.requires.row_lists.ends) }

pub returns-clause-starts : goal.returns-clause-starts
returns-clause-starts c = rw c.from.ensures (slice_part _ _ _)

pub returns-clause-ends : goal.returns-clause-ends
returns-clause-ends c = rw c.from.ensures (slice_part _ _ _)
