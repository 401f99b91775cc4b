-- Each phase asks what the one before left: the rows with their lists, orders and links, then the first cut.
use Rattle.partition.proofs.Work.{choose_hierarchy, choose_lent, work_none, refine_descends, refine_stored, refine_few, refine_cut, work_found}
use Rattle.partition.proofs.phases.Goals as goal

pub choose-requires-clause-hierarchy : goal.choose-requires-clause-hierarchy
choose-requires-clause-hierarchy g c = choose_hierarchy c.requires.ready c.build-rounds.ensures.built

pub choose-requires-clause-borrowed : goal.choose-requires-clause-borrowed
choose-requires-clause-borrowed g c = choose_lent c.requires.ready c.build-rounds.ensures.built

pub returns-in_err-first : goal.returns-in_err-first
returns-in_err-first g c = rw c.from_residual.ensures (work_none c.requires.ready c.build-rounds.ensures.built c.choose.ensures.chooses c.in_err-first.was)

pub refine-last-requires-clause-descends : goal.refine-last-requires-clause-descends
refine-last-requires-clause-descends g c = refine_descends c.requires.ready c.build-rounds.ensures.built c.choose.ensures.chooses c.in_ok-first.was

pub refine-last-requires-clause-stored : goal.refine-last-requires-clause-stored
refine-last-requires-clause-stored g c =
    let v = c.view-view.ensures in
    rw (v.froms, v.tos, v.wides, v.sizes) (refine_stored c.requires.ready c.build-rounds.ensures.built c.choose.ensures.chooses c.in_ok-first.was c.build-rounds.ensures.carried)

pub refine-last-requires-clause-rung_bound : goal.refine-last-requires-clause-rung_bound
refine-last-requires-clause-rung_bound g c = refine_few c.requires.ready c.build-rounds.ensures.built c.choose.ensures.chooses c.in_ok-first.was

pub refine-last-requires-clause-cut_value : goal.refine-last-requires-clause-cut_value
refine-last-requires-clause-cut_value g c = refine_cut c.requires.ready c.build-rounds.ensures.built c.choose.ensures.chooses c.in_ok-first.was

pub returns : goal.returns
returns g c = work_found c.requires.ready c.build-rounds.ensures.built c.choose.ensures.chooses c.in_ok-first.was c.refine-last.ensures
