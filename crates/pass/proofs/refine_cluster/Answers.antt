-- A closed cluster stays. The goal of any other is that of `worked`: it stays where this is its own part, else it moves, and the other ends of
-- its edges are marked.
use Rattle.pass.proofs.Work.{done_closed, goal_allowed, goal_marked, goal_paid, worked_stay, worked_move, placed_set}
use Rattle.neighbours.proofs.Known.{known_moved}
use mathlib.Core.Path.{refl, ◌∙◌}
use native.Mathlib.Omega.{arith}
use lib.Dec.{ltb}
use borrow.Author.Rules.{rules}
use Rattle.folds.proofs.Cases.{bit_few, bit_when}
use Rattle.pass.proofs.refine_cluster.Goals as goal

pub returns-then-eq-clause-work_done : goal.returns-then-eq-clause-work_done
returns-then-eq-clause-work_done c = done_closed _ _ _ _ _ _ _ c.requires.h_bound.0 c.args.table.now.placed c.requires.known (search rules)

pub returns-then-t-own-clause-work_done : goal.returns-then-t-own-clause-work_done
returns-then-t-own-clause-work_done c = record { is_so = worked_stay _ _ _ _ _ _ _ _ c.goal-aim.ensures.is (c.if-t-own.true ∙ c.part_at-own.ensures.is); placed = c.args.table.now.placed; counts = refl; few = omega arith }

pub moved-after-requires : goal.moved-after-requires
moved-after-requires c = rw c.part_at-own.ensures.is (goal_allowed _ _ _ _ _ _ c.goal-aim.ensures (rw c.part_at-own.ensures.is at c.if-t-own.false) (rw c.part_at-own.ensures.is at c.part_at-own.ensures.low) (omega arith))

pub overflow_sub-result : goal.overflow_sub-result
overflow_sub-result c = goal_paid _ _ _ _ _ _ _ c.goal-aim.ensures c.requires.visitable

pub returns-clause-work_done : goal.returns-clause-work_done
returns-clause-work_done c = record {
  is_so = worked_move _ _ _ _ _ _ _ _ _ _ _ _ _ c.part_at-own.ensures.is refl c.goal-aim.ensures.is c.if-t-own.false c.moved-after.ensures.is c.goal-aim.ensures.gain_is (c.from.ensures ∙ bit_when _);
  placed = placed_set _ _ c.args.table.now.placed c.goal-aim.ensures.within;
  counts = c.moved-after.ensures.counts;
  few = rw c.from.ensures (omega (arith, bit_few (ltb 0 c.goal-aim.result.gain)));
}

pub returns-clause-known_2 : goal.returns-clause-known_2
returns-clause-known_2 c = known_moved c.requires.h_bound.1 (omega (arith, c.requires.h_bound.0, c.args.table.now.placed.long)) c.part_at-own.ensures.is c.goal-aim.ensures.known (goal_marked _ _ _ _ _ _ c.goal-aim.ensures (rw c.part_at-own.ensures.is at c.if-t-own.false) c.requires.h_bound.0) c.rouse.ensures
