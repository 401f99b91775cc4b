-- the tests of `offer_in`, one after another
use Rattle.matching_scan.proofs.Loops.{offer_mated, offer_blocked, offer_dear, offer_near, offer_far}
use Rattle.matching_scan.proofs.Scan.offer.Goals as goal

pub returns-then-from-b : goal.returns-then-from-b
returns-then-from-b c = offer_mated _ _ _ _ _ _ _ _ _ c.from.ensures c.if-from-b.true

pub returns-then-taken-b-ne0 : goal.returns-then-taken-b-ne0
returns-then-taken-b-ne0 c = offer_blocked _ _ _ _ _ _ _ _ _ c.from.ensures c.if-from-b.false c.if-taken-b-ne0.true

pub returns-then-self-u : goal.returns-then-self-u
returns-then-self-u c = offer_dear _ _ _ _ _ _ _ _ _ c.from.ensures c.if-from-b.false c.if-taken-b-ne0.false c.if-self-u.true

pub returns-then-is_near : goal.returns-then-is_near
returns-then-is_near c = offer_near _ _ _ _ _ _ _ _ _ c.from.ensures c.if-from-b.false c.if-taken-b-ne0.false c.if-self-u.false c.is_near.ensures c.if-is_near.true

pub returns-else-is_near : goal.returns-else-is_near
returns-else-is_near c = offer_far _ _ _ _ _ _ _ _ _ c.from.ensures c.if-from-b.false c.if-taken-b-ne0.false c.if-self-u.false c.is_near.ensures c.if-is_near.false
