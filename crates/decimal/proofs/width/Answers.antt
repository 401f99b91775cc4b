-- By the power of ten that `ilog10` finds.
use Rattle.std.proofs.Common.{arith, sym}
use Rattle.decimal.proofs.Writing.{width_is}
use Rattle.decimal.proofs.width.Goals as goal

pub returns : goal.returns
returns c =
    record {
      is = sym (width_is c.args.v _ _ c.max.ensures c.ilog10.ensures.power_le c.ilog10.ensures.next_power_gt);
      low = omega (arith, c.ilog10.ensures.bound);
    }
