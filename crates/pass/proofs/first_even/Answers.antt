use Rattle.pass.proofs.Work.{none_next, none_end, found_first}
use mathlib.Core.Path.{sym, ◌∙◌}
use native.Mathlib.Omega.{arith}
use Rattle.pass.proofs.first_even.Goals as goal

pub returns-then-allowed : goal.returns-then-allowed
returns-then-allowed c = let (g, n) = c.loop-t.invariant in found_first c.min-end.ensures g n c.in-Some.ensures (sym c.lets-allowed.ensures ∙ c.if-allowed.true)

pub loop-t-preserved : goal.loop-t-preserved
loop-t-preserved c = let (g, n) = c.loop-t.invariant in
    let (l, F) = c.in-Some.ensures in
    let m = (F.some l).0 in (omega arith, none_next n c.in-Some.ensures (sym c.lets-allowed.ensures ∙ c.if-allowed.false))

pub returns : goal.returns
returns c = none_end _ c.min-end.ensures c.loop-t.invariant.1 c.in_default.ensures
