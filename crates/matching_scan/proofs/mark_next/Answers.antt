-- an entry is marked where it is on the level after u and not u itself
use Rattle.matching_scan.specs.State.{blocked_of}
use mathlib.Core.Path.{sym, ◌∙◌}
use Rattle.folds.proofs.Cases.{cases}
use Rattle.matching_scan.proofs.mark_next.Goals as goal
use Rattle.matching_scan.proofs.mark_next.Goals.{else-b-u-via-then-b-u+else-is_next, else-b-u-via-else-b-u}

pub returns-then-is_next : goal.returns-then-is_next
unfolding blocked_of
returns-then-is_next c = search (cases, sym c.is_next.ensures ∙ c.if-is_next.true)

pub returns-else-b-u : goal.returns-else-b-u
unfolding blocked_of
returns-else-b-u c =
    elim c.else-b-u.branch [ else-b-u-via-then-b-u+else-is_next w ↦ search (cases, sym w.is_next.ensures ∙ w.if-is_next.false) | else-b-u-via-else-b-u w ↦ search (cases, w.if-b-u.false) ]
