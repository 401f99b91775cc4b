use Rattle.graph.proofs.Links.{leave_from, walk_on, walk_next, first_on, first_next}
use Rattle.folds.proofs.Searches.{any_to_at, any_to_end}
use Rattle.matching_scan.proofs.Loops.{halts_finds, halts_here}
use mathlib.Core.Path.{refl, sym, ◌∙◌}
use Rattle.matching_scan.proofs.stops.Goals as goal

pub loop-j-init : goal.loop-j-init
loop-j-init c = (refl, rw c.first-j.ensures (walk_on c.args.links.linked _ c.requires), rw c.first-j.ensures (first_on c.args.links.linked _ _ (halts_finds _ _ _ _) c.requires))

pub returns-then-halts_at : goal.returns-then-halts_at
returns-then-halts_at c = any_to_at _ c.loop-j.j _ c.loop-j.invariant.2 (sym (halts_here _ _ _ _ _ (leave_from _ c.loop-j.j (c.loop-j.invariant.1.at c.loop-j-test.true) c.requires) c.halts_at.ensures) ∙ c.if-halts_at.true) c.loop-j-test.true

pub loop-j-preserved : goal.loop-j-preserved
loop-j-preserved c = (refl, rw c.after-j.ensures (walk_next c.args.links.linked _ _ c.loop-j.invariant.1 c.loop-j-test.true), rw c.after-j.ensures (first_next c.args.links.linked _ _ _ (halts_finds _ _ _ _) c.loop-j.invariant.1 c.loop-j-test.true c.loop-j.invariant.2 (sym (halts_here _ _ _ _ _ (leave_from _ c.loop-j.j (c.loop-j.invariant.1.at c.loop-j-test.true) c.requires) c.halts_at.ensures) ∙ c.if-halts_at.false)))

pub returns : goal.returns
returns c = any_to_end _ c.loop-j.j _ c.loop-j.invariant.2 c.loop-j.invariant.1.within c.loop-j-test.false
