use native.Mathlib.Omega.{arith}
use mathlib.Core.Path.{◌≡◌, refl}
use Rattle.joined_edges.proofs.Joins.{written_none}
use Rattle.folds.specs.Fold.{zeros}
use Rattle.joined_edges.proofs.join_edges.Goals as goal

pub loop-u-init : goal.loop-u-init
unfolding zeros
loop-u-init c = (written_none _ _ _ (omega arith) (omega arith) (omega arith), refl)

pub returns : goal.returns
unfolding zeros
returns c = let e : c.loop-u.u ≡ c.args.g = omega arith in rw e at c.loop-u.invariant.0
