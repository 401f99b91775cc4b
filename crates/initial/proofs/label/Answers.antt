use native.Mathlib.Omega.{arith}
use mathlib.Core.Path.{◌≡◌, ◌∙◌, ap}
use lib.ListN.{length}
use lib.Seq.{take_all}
use Rattle.folds.proofs.Slices.{filled_none, filled_turn, filled_end}
use Rattle.division_table.specs.Division.{interval_of}
use Rattle.initial.specs.Initial.{parts_of}
use Rattle.initial.proofs.label.Goals as goal

pub loop-v-init : goal.loop-v-init
loop-v-init c = filled_none _ _

pub loop-v-preserved : goal.loop-v-preserved
loop-v-preserved c =
    let all = take_all (length c.args.starts.now) c.args.starts.now (omega arith) in
    filled_turn c.loop-v.invariant ((rw all at c.interval.ensures.is) ∙ ap (interval_of c.args.starts.now) c.from.ensures) (omega arith)

pub returns : goal.returns
unfolding parts_of
returns c = let e : c.loop-v.v ≡ length c.args.places.now = omega arith in filled_end (rw e at c.loop-v.invariant)
