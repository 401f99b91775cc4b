use Rattle.refine.proofs.Rung.{coarse_indexed, ready_few, ready_keyed, ready_drawn, ready_stands, stands_fall, stands_turn, stands_end}
use Rattle.refine.proofs.Bridge.{pass_visitable}
use Rattle.pass.specs.Work.{work_of}
use Rattle.graph.proofs.Totals.{zero_sums}
use Rattle.neighbours.proofs.Laws.{ended_back}
use Rattle.folds.proofs.Cases.{not_yes, not_no}
use native.Mathlib.Omega.{arith}
use Rattle.refine.proofs.settle.Goals as goal

pub invariant_of-back : goal.invariant_of-back
invariant_of-back c = record { ended = ended_back c.args.joined.links.edges.ended }

pub sum_costs-requires : goal.sum_costs-requires
sum_costs-requires c = record {
  keyed = ready_keyed c.requires.row_ready;
  by_index = zero_sums 512;
}

pub survey-requires : goal.survey-requires
survey-requires c = (c.requires.row_ready.few, omega (arith, c.cluster_count-g.ensures, ready_few c.requires.row_ready))

pub invariant_of-edges : goal.invariant_of-edges
invariant_of-edges c = record {
  ended = c.args.joined.links.edges.ended;
  indexed = coarse_indexed c.args.joined.coarse c.args.joined.links.linked c.link_leaving.ensures;
}

pub loop-p-init : goal.loop-p-init
loop-p-init c = record {
  whole = c.cluster_count-g.ensures;
  drawn = ready_drawn c.requires.row_ready c.args.joined.coarse c.sum_costs.ensures;
  stands = ready_stands _ c.requires.row_ready c.requires.tracks c.args.table.now.placed;
  known = c.survey.ensures;
}

pub pass-p-requires-clause-by_index : goal.pass-p-requires-clause-by_index
pass-p-requires-clause-by_index c = let I = c.loop-p.invariant in
    λ j l. pass_visitable _ c.requires.row_ready.proper _ _ c.requires.row_ready.few _ _ _ _ _ I.drawn (work_of c.loop-p.table.parts c.loop-p.p) I.stands.tracks I.stands.placed I.stands.good j (omega (arith, I.whole))

pub returns-then-not-p : goal.returns-then-not-p
returns-then-not-p c = let I = c.loop-p.invariant in
    let (e, s) = stands_end _ c.requires.row_ready.proper _ _ c.requires.row_ready.few _ _ _ _ _ I.drawn _ _ _ I.stands _ I.whole c.pass-p.ensures.work_done.is_so (not_yes _ c.if-not-p.true) in
    record { is = e; tracks = s; placed = c.pass-p.ensures.work_done.placed }

pub loop-p-smaller : goal.loop-p-smaller
loop-p-smaller c = let I = c.loop-p.invariant in
    stands_fall _ c.requires.row_ready.proper _ _ c.requires.row_ready.few _ _ _ _ _ I.drawn _ _ _ I.stands _ I.whole c.pass-p.ensures.work_done.is_so (not_no _ c.if-not-p.false)

pub loop-p-preserved : goal.loop-p-preserved
loop-p-preserved c = let I = c.loop-p.invariant in
    record {
      whole = I.whole;
      drawn = I.drawn;
      stands = stands_turn _ c.requires.row_ready.proper _ _ c.requires.row_ready.few _ _ _ _ _ I.drawn _ _ _ I.stands _ I.whole c.pass-p.ensures.work_done.is_so (not_no _ c.if-not-p.false);
      known = rw I.stands.tracks.sums.counts at c.pass-p.ensures.known_2;
    }
