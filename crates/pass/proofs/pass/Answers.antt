use Rattle.pass.proofs.Work.{done_none, done_turn}
use Rattle.pass.proofs.pass.Goals as goal

pub loop-h-init : goal.loop-h-init
loop-h-init c = (done_none _ _ c.args.table.now.placed, c.requires.known)

pub loop-h-preserved : goal.loop-h-preserved
loop-h-preserved c = let (d, k) = c.loop-h.invariant in
    (done_turn _ d c.refine_cluster-p.ensures.work_done, rw d.counts at c.refine_cluster-p.ensures.known_2)
