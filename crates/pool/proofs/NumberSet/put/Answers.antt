-- The bit is set, and the word is marked as not empty.
use Rattle.pool.specs.Pool.{put_of}
use Rattle.pool.proofs.NumberSet.put.Goals as goal

pub returns : goal.returns
unfolding put_of
returns c = rw (c.bit.ensures, c.bit-2.ensures)
