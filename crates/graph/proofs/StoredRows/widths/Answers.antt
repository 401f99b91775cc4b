-- the slice that is handed out is the part
use Rattle.folds.proofs.Slices.{slice_part}
use Rattle.graph.proofs.StoredRows.widths.Goals as goal

pub returns : goal.returns
returns c = rw c.from.ensures (slice_part _ _ _)
