-- Checks 1 to 6 refuse, or leave known what 7 and 8 ask for.
use Rattle.validity.proofs.Repeats.{lists_refused, lists_passed}
use Rattle.validity.proofs.check_bare.Goals as goal

pub returns-in-Ok : goal.returns-in-Ok
returns-in-Ok c = let (n, (starts, ends)) = c.in-Ok.ensures.own in lists_passed _ _ _ _ _ c.in-Ok.ensures.value (rw (n, starts, ends) at c.check_edges.ensures)

pub returns-in-Err : goal.returns-in-Err
returns-in-Err c = lists_refused _ _ _ _ _ c.in-Err.ensures.value
