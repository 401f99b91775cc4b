-- The first word that is not empty holds the lowest number.
use Rattle.std.proofs.Common.{arith, eq-eqb, ne_eqb}
use Rattle.pool.specs.Pool.{lowest_of}
use Rattle.pool.proofs.NumberSet.lowest.Goals as goal

pub returns-then-top-eq0 : goal.returns-then-top-eq0
unfolding lowest_of
returns-then-top-eq0 c = rw (eq-eqb _ _ c.if-top-eq0.true)

pub bounds-self-w : goal.bounds-self-w
bounds-self-w c = omega (arith, c.low_bit-w.ensures, c.requires c.if-top-eq0.false)

pub returns : goal.returns
unfolding lowest_of
returns c = rw (ne_eqb _ _ c.if-top-eq0.false, ← c.low_bit-w.ensures, c.low_bit.ensures)
