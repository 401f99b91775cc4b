-- No part from high on and below first evens and is allowed.
use Rattle.pass.specs.Work.{NoneEvens}
use Prim.Native.Nat.{◌≤◌, ◌-◌, min}
use Rattle.pass.proofs.first_even.Given as goal

abbrev pub invariant-loop-t : goal.invariant-loop-t
invariant-loop-t l = (l.visit.high ≤ l.first) × NoneEvens l.visit.sums.now l.visit.own l.visit.cost l.visit.bound l.visit.high (min l.first l.end)

abbrev pub decreases-loop-t : goal.decreases-loop-t
decreases-loop-t l = l.end - l.first
