-- The two stores are those of `shifted`.
use Rattle.part_sums.proofs.Sums.{shifted_two}
use Rattle.part_sums.specs.Sums.{shifted}
use mathlib.Core.Path.{refl}
use Rattle.part_sums.proofs.PartSums.moved.Goals as goal

pub returns : goal.returns
unfolding shifted
returns c = shifted_two _ _ _ _ _ refl
