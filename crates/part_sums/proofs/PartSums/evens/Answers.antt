-- The test of the two sums as they are read.
use Rattle.part_sums.specs.Sums.{sums_even}
use Rattle.part_sums.proofs.PartSums.evens.Goals as goal

pub returns : goal.returns
unfolding sums_even
returns c = rw (c.from.ensures, c.from-2.ensures, c.from-3.ensures)
