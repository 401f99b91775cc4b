-- the lanes that reach gives are stored
use native.Mathlib.Omega.{arith}
use Rattle.division_table.proofs.Tables.{filled_is, lanes_stored}
use Rattle.division_table.proofs.fill.Goals as goal

pub returns : goal.returns
returns g c = filled_is c.requires.from_bound c.requires.table c.reach-best.ensures
    (lanes_stored c.reach-best.ensures.low c.requires.table.low c.reach-best.ensures.tall (omega (arith, c.requires.table.long)) c.copy_from_slice.ensures.after (omega arith))
