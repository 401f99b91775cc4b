-- The bit is cleared, and the mark of a word that is then empty.
use Rattle.std.proofs.Common.{eq-eqb, ne_eqb}
use Rattle.pool.specs.Pool.{taken_of}
use Rattle.pool.proofs.NumberSet.take.Goals as goal

pub returns-then-x-eq0 : goal.returns-then-x-eq0
unfolding taken_of
returns-then-x-eq0 c = rw (← c.bit.ensures, ← c.bit-then-x-eq0.ensures, eq-eqb _ _ c.if-x-eq0.true)

pub returns-else-x-eq0 : goal.returns-else-x-eq0
unfolding taken_of
returns-else-x-eq0 c = rw (← c.bit.ensures, ne_eqb _ _ c.if-x-eq0.false)
