-- each return is what the visit of u takes
use Rattle.matching.proofs.Steps.{stepped_mated, stepped_stopped, stepped_none, widest_low, stepped_pair}
use mathlib.Core.Path.{refl}
use native.Mathlib.Omega.{arith}
use Rattle.matching.proofs.visit.Goals as goal

pub returns-then-from-u : goal.returns-then-from-u
returns-then-from-u c = stepped_mated _ _ _ _ _ _ _ _ _ _ _ c.requires.0 (record { mates_tall = omega arith; tos_tall = omega arith; blocked_tall = omega arith }) c.from.ensures c.if-from-u.true

pub returns-then-stops : goal.returns-then-stops
returns-then-stops c = stepped_stopped _ _ _ _ _ _ _ _ _ _ _ c.requires.0 (record { mates_tall = omega arith; tos_tall = omega arith; blocked_tall = omega arith }) c.stops.ensures c.if-stops.true

pub returns-in_default : goal.returns-in_default
returns-in_default c = let (to, W) = c.in_default.ensures in stepped_none _ _ _ _ _ _ _ _ _ _ _ c.requires.0 (record { mates_tall = omega arith; tos_tall = omega arith; blocked_tall = omega arith }) c.from.ensures c.if-from-u.false c.stops.ensures c.if-stops.false W refl

pub join-requires : goal.join-requires
join-requires c = let (wide, W) = c.in-Some.ensures in (c.requires.0, widest_low W (λ e. omega arith))

pub returns : goal.returns
returns c = let (wide, W) = c.in-Some.ensures in stepped_pair _ _ _ _ _ _ _ _ _ _ _ c.requires.0 (record { mates_tall = omega arith; tos_tall = omega arith; blocked_tall = omega arith }) c.from.ensures c.if-from-u.false c.stops.ensures c.if-stops.false W (λ e. omega arith) c.join.ensures
