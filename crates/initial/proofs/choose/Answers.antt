use Prim.Native.Nat.{◌-◌, ◌≤◌}
use native.Mathlib.Omega.{arith}
use mathlib.Core.Path.{refl}
use Rattle.graph.proofs.Coarse.{stored_lists}
use Rattle.graph.proofs.Rows.{few_clusters}
use Rattle.initial.proofs.Chooses.{row_hit, row_miss, rows_start, rows_end}
use Rattle.initial.proofs.choose.Goals as goal

pub loop-row-init : goal.loop-row-init
loop-row-init c = (refl, rows_start _ _ _ _ _, λ _. c.requires.linked_at)

pub link_row-requires-clause-row_lists : goal.link_row-requires-clause-row_lists
link_row-requires-clause-row_lists c =
    let q : c.loop-row.row - 1 ≤ c.args.top = omega arith in
    stored_lists _ q c.requires.stored (omega (arith, c.requires.proper.few, few_clusters c.requires.hierarchy _ q))

pub returns-in-Some-clause-chooses : goal.returns-in-Some-clause-chooses
returns-in-Some-clause-chooses c = row_hit _ c.loop-row.row (omega arith) c.loop-row.invariant.1 c.loop-row.invariant.0 c.divide_at.ensures c.in-Some.is

pub loop-row-preserved : goal.loop-row-preserved
loop-row-preserved c =
    let m = row_miss _ c.loop-row.row (omega arith) c.loop-row.invariant.1 c.loop-row.invariant.0 c.divide_at.ensures c.in_default.is in
    (m.0, m.1, λ e. absurd (omega arith))

pub returns-clause-chooses : goal.returns-clause-chooses
returns-clause-chooses c = rows_end _ _ (omega arith) c.loop-row.invariant.1 c.loop-row.invariant.0
