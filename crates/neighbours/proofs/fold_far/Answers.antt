use Rattle.neighbours.proofs.Laws.{fold_on, fold_next}
use Rattle.graph.proofs.Links.{walk_on, walk_next}
use mathlib.Core.Path.{refl}
use Rattle.neighbours.proofs.fold_far.Goals as goal

pub loop-j-init : goal.loop-j-init
loop-j-init g c = (
  refl,
  rw c.from-j.ensures (walk_on c.args.side.linked _ c.requires.1.0),
  rw c.from-j.ensures (fold_on _ _ _ _ _ c.args.side.linked _ c.requires.1.0),
  c.ranges.start.fits,
)

pub loop-j-preserved : goal.loop-j-preserved
loop-j-preserved g c = let (q, o, e, l) = c.loop-j.invariant in
    let p = c.args.table.now.placed.low c.end_at-c.result c.end_at-c.ensures.low in
    let step = c.requires.1.1.1 _ _ _ l p c.step-value.ensures in (
      refl,
      rw c.from-j-in-loop-j.ensures (walk_next c.args.side.linked _ _ o c.loop-j-test.true),
      rw c.from-j-in-loop-j.ensures (fold_next _ _ _ _ _ c.args.side.linked c.loop-j.j o c.loop-j-test.true _ c.end_at-c.ensures.is e step),
      c.step-value.type_inv,
    )
