-- the first start above p, or else their number
use Rattle.division_table.proofs.Tables.{labelled}
use Rattle.division_table.proofs.interval.Goals as goal

pub returns : goal.returns
returns c = labelled (rw c.start_above.ensures at c.unwrap_or.ensures)
