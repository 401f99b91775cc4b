-- the test of `next_in`, on two entries read
use Rattle.topology.specs.Level.{next_in}
use Rattle.matching_scan.proofs.is_next.Goals as goal

pub returns : goal.returns
unfolding next_in
returns c = rw (c.from.ensures, c.from-2.ensures)
