use Rattle.std.proofs.Common.{arith, refl}
use Rattle.folds.proofs.Slices.{put_part}
use Rattle.decimal.proofs.copy.Goals as goal

pub returns : goal.returns
returns c = record { next = refl; is = put_part _ _ _ _ _ c.copy_from_slice.ensures.after (omega arith) }
