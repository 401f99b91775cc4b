-- Check 7 and then check 8: each refuses at its place, or passes on; where both pass, the order is left.
use Rattle.std.proofs.Common.{◌∙◌}
use Rattle.validity.proofs.Checks.{refused_order, order_own, cycle_own, fit_inside}
use Rattle.validity.proofs.Repeats.{repeat_refused, repeat_passed}
use Rattle.validity.proofs.check_order.Goals as goal

pub returns-then-found-lists : goal.returns-then-found-lists
returns-then-found-lists c = record {
  verdict_value = repeat_refused c.find_repeat-found.ensures.found _ c.if-found-lists.true c.refuse.ensures;
  order_left = refused_order c.refuse.ensures.0;
}

pub lowest_on_cycle-v-requires : goal.lowest_on_cycle-v-requires
lowest_on_cycle-v-requires c = record { inside = fit_inside c.args.lists.fits; g_bound = c.args.lists.fits.few }

pub returns : goal.returns
returns c = let F = c.args.lists.fits in
    let v = c.refuse_at.ensures _ _ c.lowest_on_cycle-v.ensures.value in
    record {
      verdict_value = repeat_passed c.find_repeat-found.ensures.found _ c.if-found-lists.false (v ∙ cycle_own F);
      order_left = order_own F c.lowest_on_cycle-v.ensures.value v c.lowest_on_cycle-v.ensures.taken_after c.lowest_on_cycle-v.ensures.levels_after c.lowest_on_cycle-v.ensures.linked;
    }
