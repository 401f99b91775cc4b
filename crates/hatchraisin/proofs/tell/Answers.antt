-- The values fill the cells; a refusal leaves its place and 0.
use Rattle.std.proofs.Common.{rules, ◌≡◌, length, replicate}
use Rattle.hatchraisin.proofs.Cells.{cells_full, cells_place}
use Rattle.hatchraisin.proofs.tell.Goals as goal

pub returns-in-Ok-clause-answer_after : goal.returns-in-Ok-clause-answer_after
returns-in-Ok-clause-answer_after g c =
    let e : length c.in-Ok.values ≡ g.row.N = search rules in rw c.in-Ok.is (cells_full _ _ e)

pub returns-in-Err-clause-answer_after : goal.returns-in-Err-clause-answer_after
returns-in-Err-clause-answer_after g c =
    let e : c.fill.new.self ≡ replicate g.row.N 0 = search rules in rw (c.in-Err.is, e) (cells_place _ c.in-Err.refusal.cause _ c.requires)
