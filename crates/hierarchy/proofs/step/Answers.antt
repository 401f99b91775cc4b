-- where no round was kept all is as it was; else what is carried is handed on
use Rattle.hierarchy.proofs.Stepping.{step_asks, step_some}
use Rattle.hierarchy.proofs.step.Goals as goal

pub invariant_of-names : goal.invariant_of-names
invariant_of-names c = let t = step_asks c.requires.round_ready.0 c.requires.round_ready.1 c.requires.carrying c.requires.r_bound.1 c.requires.r_bound.0 c.requires.rows_room c.in_ok-h.ensures c.args.plan.light in record { maps = t.0 }

pub hand_on-requires : goal.hand_on-requires
hand_on-requires c = let t = step_asks c.requires.round_ready.0 c.requires.round_ready.1 c.requires.carrying c.requires.r_bound.1 c.requires.r_bound.0 c.requires.rows_room c.in_ok-h.ensures c.args.plan.light in record { names_few = t.1; hands_on = t.2 }

pub returns : goal.returns
returns c = let t = step_some c.requires.round_ready.0 c.requires.round_ready.1 c.requires.carrying c.requires.r_bound.1 c.requires.r_bound.0 c.requires.rows_room c.in_ok-h.ensures c.args.plan.light c.hand_on.ensures.handed_on c.hand_on.ensures.linked_at in record { steps = t.0; rows_room_2 = t.1; same_links = c.hand_on.ensures.same_links }
