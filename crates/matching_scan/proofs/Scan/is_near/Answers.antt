-- rule 1: the next level, or all that leaves u
use Rattle.matching_scan.proofs.Loops.{near_no}
use Rattle.matching_scan.proofs.Scan.is_near.Goals as goal

pub returns-else-is_next : goal.returns-else-is_next
returns-else-is_next c = near_no _ _ c.is_next.ensures c.if-is_next.false
