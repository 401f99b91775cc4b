-- a round that is kept leaves its row behind row r; where too few pairs were made no row is worked at all
use Rattle.folds.specs.Fold.{put}
use native.Mathlib.Omega.{arith}
use lib.ListN.{length}
use Rattle.hierarchy.proofs.OneRound.{rows_in_lem, row_handed, joined_small, joined_poor, joined_kept}
use Rattle.hierarchy.proofs.OneRound.{taken_all, tried_mated, ready_short, tried_renamed}
use Rattle.hierarchy.proofs.Carrying.{carried_ready, carried_order, carried_matched, coarse_simple}
use borrow.Author.Rules.{rules}
use Rattle.hierarchy.proofs.join_row.Goals as goal

pub returns-then-g-plan : goal.returns-then-g-plan
returns-then-g-plan c = record { joined = joined_small _ _ _ _ _ _ c.requires.round_ready (omega (arith, c.if-g-plan.true)); renamed = λ h q. absurd (cc q) }

pub round-pairs-requires : goal.round-pairs-requires
round-pairs-requires c = record {
  round_ready = carried_ready c.requires.round_ready c.requires.carries;
  cluster_costs = (c.requires.carries.weighed, (coarse_simple c.requires.carries.lists c.requires.round_ready.small).narrow);
  in_order = carried_order c.requires.round_ready c.requires.carries;
  levels_value = c.requires.r_bound.1;
}

pub returns-then-pairs-g : goal.returns-then-pairs-g
returns-then-pairs-g c = record { joined = joined_poor _ _ _ _ _ _ c.requires.round_ready c.requires.r_bound.0 c.requires.costs_in_bounds c.if-g-plan.false (carried_matched c.requires.round_ready c.requires.carries c.round-pairs.ensures) c.if-pairs-g.true; renamed = λ h q. absurd (cc q) }

pub slice_bounds-next_row-end : goal.slice_bounds-next_row-end
slice_bounds-next_row-end c = let h = rows_in_lem c.args.r (length c.args.plan.problem.lists.costs.now) (length c.args.rows.now) c.requires.r_bound.0 c.requires.costs_in_bounds in search rules

pub next_row-h-requires : goal.next_row-h-requires
next_row-h-requires c = let q = row_handed _ c.args.plan.problem.k 0 c.args.r _ _ c.requires.round_ready in
    rw q (record { short = (ready_short 0 c.requires.round_ready, tried_mated _ c.requires.round_ready (carried_matched c.requires.round_ready c.requires.carries c.round-pairs.ensures)) })

pub copy-requires : goal.copy-requires
copy-requires c = let h = rows_in_lem c.args.r (length c.args.plan.problem.lists.costs.now) (length c.args.rows.now) c.requires.r_bound.0 c.requires.costs_in_bounds in let t = taken_all c.args.plan.problem.lists.costs.now c.next_row-h.new.out c.requires.round_ready.proper.few (omega arith) in omega (arith, h, t)

pub returns : goal.returns
unfolding put
returns c = let q = row_handed _ c.args.plan.problem.k 0 c.args.r _ _ c.requires.round_ready in record { joined = joined_kept _ _ _ _ _ _ c.requires.round_ready c.requires.r_bound.0 c.requires.costs_in_bounds c.if-g-plan.false (carried_matched c.requires.round_ready c.requires.carries c.round-pairs.ensures) c.next_row-h.ensures.joined c.if-pairs-g.false c.copy.ensures; renamed = λ _ _. tried_renamed _ c.requires.round_ready (carried_matched c.requires.round_ready c.requires.carries c.round-pairs.ensures) (rw q at c.next_row-h.ensures.joined) (rw q at c.next_row-h.ensures.renamed) }
