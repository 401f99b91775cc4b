-- Check 7 and then check 8: each refuses at its place, or passes on.
use Rattle.std.proofs.Common.{not, ap, ◌∙◌, arith}
use Rattle.cycle_test.proofs.Thins.{marked_end}
use Rattle.validity.proofs.Checks.{cycle_own, free_passes, fit_inside}
use Rattle.validity.proofs.Repeats.{tried_all, repeat_refused, repeat_passed}
use Rattle.validity.proofs.check_edges.Goals as goal

pub returns-then-found-lists : goal.returns-then-found-lists
returns-then-found-lists c = repeat_refused c.find_repeat-found.ensures.found _ c.if-found-lists.true c.refuse.ensures

pub returns-then-rises : goal.returns-then-rises
returns-then-rises c = repeat_passed c.find_repeat-found.ensures.found _ c.if-found-lists.false (free_passes c.args.lists.fits (c.rises-rises.ensures c.if-rises.true))

pub invariant_of-marked : goal.invariant_of-marked
invariant_of-marked c = record { marked = marked_end _ (omega (arith, tried_all c.find_repeat-found.ensures.found c.if-found-lists.false)) (c.find_repeat-found.ensures.marked (ap not c.if-rises.false)) }

pub find_cycle-v-requires : goal.find_cycle-v-requires
find_cycle-v-requires c = record { inside = fit_inside c.args.lists.fits; g_bound = c.args.lists.fits.few }

pub returns : goal.returns
returns c = repeat_passed c.find_repeat-found.ensures.found _ c.if-found-lists.false (c.refuse_at.ensures _ _ c.find_cycle-v.ensures ∙ cycle_own c.args.lists.fits)
