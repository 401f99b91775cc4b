use Rattle.graph.proofs.Coarse.{stored_lists}
use Rattle.refine.proofs.Rung.{ready_few}
use Rattle.refine.proofs.Down.{descent_start, descent_at, descent_next, descent_end}
use native.Mathlib.Omega.{arith}
use Rattle.refine.proofs.refine_down.Goals as goal

pub loop-r-init : goal.loop-r-init
loop-r-init c = record {
  descent = descent_start _ c.requires.descends.proper _ _ c.requires.descends.few _ _ c.requires.descends.hierarchy _ c.requires.descends.good (omega (arith, c.requires.cut_value, c.ranges.cut.fits));
  tracks = record { sums = c.of_table-sums.ensures; cut_is = c.requires.cut_value };
  links = λ _. c.requires.linked_at;
}

pub loop-r-preserved : goal.loop-r-preserved
loop-r-preserved c = let I = c.loop-r.invariant in
    let (d, s) = descent_next _ c.requires.descends.proper _ _ c.requires.descends.few _ _ c.requires.descends.hierarchy _ _ _ _ I.descent _ _ c.loop-r-test.true I.tracks c.refine_at-p.ensures in
    record { descent = d; tracks = s; links = λ e. absurd (omega (arith, I.descent.within)) }

pub link_row-requires-clause-row_lists : goal.link_row-requires-clause-row_lists
link_row-requires-clause-row_lists c = let I = c.loop-r.invariant in
    let (a, s) = descent_at _ c.requires.descends.proper _ _ c.requires.descends.few _ _ c.requires.descends.hierarchy _ _ _ _ I.descent c.loop-r-test.true I.tracks in
    stored_lists _ (omega (arith, I.descent.within)) c.args.ladder.stored (ready_few a)

pub returns-clause-moves_after : goal.returns-clause-moves_after
returns-clause-moves_after c = descent_end _ c.requires.descends.proper _ _ c.requires.descends.few _ _ c.requires.descends.hierarchy _ _ _ _ c.loop-r.invariant.descent (omega arith)
