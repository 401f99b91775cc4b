use native.Mathlib.Omega.{arith}
use native.Mathlib.Nat.{sub-zero}
use mathlib.Core.Path.{sym, ◌∙◌}
use Rattle.folds.proofs.Slices.{wrote_none, wrote_turn, wrote_done, over_whole}
use Rattle.division_table.proofs.Tables.{next_within, starts_more, starts_end}
use Rattle.division_scan.proofs.Follows.{start_is}
use Rattle.division_scan.proofs.follow.Goals as goal

pub loop-i-init : goal.loop-i-init
loop-i-init c = (omega arith, rw sub-zero (wrote_none _ _))

pub next_start-requires-clause-y_le_g : goal.next_start-requires-clause-y_le_g
next_start-requires-clause-y_le_g c = (c.loop-i.invariant.0, omega arith)

pub overflow_cast-start : goal.overflow_cast-start
overflow_cast-start c =
    let l = next_within _ _ _ _ _ in
    let q = start_is c.next_start.ensures c.unwrap_or-y.ensures l in omega (arith, c.args.e.few, q, l)

pub loop-i-preserved : goal.loop-i-preserved
loop-i-preserved c =
    let l = next_within _ _ _ _ _ in
    let q = start_is c.next_start.ensures c.unwrap_or-y.ensures l in
    (rw q l, rw q (wrote_turn c.loop-i.invariant.1 (starts_more _ _ _ _ _ _ c.loop-i-test.true) (omega (arith, c.loop-i.invariant.1.same))))

pub returns : goal.returns
returns c =
    let w = wrote_done c.loop-i.invariant.1 (starts_end _ _ _ _ _ _ c.loop-i-test.false) in
    w.1 ∙ over_whole _ _ (sym w.0 ∙ omega arith)
