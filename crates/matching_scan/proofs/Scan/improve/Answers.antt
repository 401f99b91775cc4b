-- an offer is at most the width of its edge: where that does not win, the offer does not
use Rattle.matching_scan.proofs.Loops.{offer_le, better_kept}
use Rattle.matching_scan.proofs.Scan.improve.Goals as goal

pub returns-then-loses : goal.returns-then-loses
returns-then-loses c = rw (← c.offer.ensures) c.or.ensures

pub returns-else-loses : goal.returns-else-loses
returns-else-loses c = better_kept (offer_le _ _ _ _ _ _ _ _ _) (c.loses.ensures.no c.if-loses.false)
