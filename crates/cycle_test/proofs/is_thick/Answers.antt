use Rattle.std.proofs.Common.{arith, ltb-true}
use Rattle.cycle_test.proofs.is_thick.Goals as goal

pub returns : goal.returns
returns c = λ t. omega (arith, ltb-true)
