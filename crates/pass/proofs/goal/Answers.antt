-- The parts around the cluster are right, and the choice by them is that of `worked`.
use Rattle.pass.proofs.Work.{around_fresh, goal_fresh}
use Rattle.pass.proofs.goal.Goals as goal

pub decide-requires-clause-around : goal.decide-requires-clause-around
decide-requires-clause-around c = around_fresh c.requires.h_bound.0 c.args.row.now.listed c.requires.seated c.part_at-own.ensures c.refresh.ensures c.from.ensures c.from-2.ensures

pub returns : goal.returns
returns c = goal_fresh _ _ _ _ _ _ _ c.requires.h_bound.0 c.part_at-own.ensures c.refresh.ensures c.from.ensures c.from-2.ensures c.decide.ensures
