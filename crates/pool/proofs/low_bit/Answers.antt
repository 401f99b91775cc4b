-- The lowest bit of a word that is not 0.
use lib.Count.{trailing_le}
use native.Mathlib.Omega.{arith}
use Rattle.pool.proofs.low_bit.Goals as goal

pub overflow_cast-result : goal.overflow_cast-result
overflow_cast-result c = omega (arith, trailing_le 64 c.args.x)
