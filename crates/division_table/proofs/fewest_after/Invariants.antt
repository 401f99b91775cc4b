-- the positions from y on are packed, and each has the count of those from it on
use Prim.Native.Nat.{◌+◌, ◌≤◌}
use Rattle.division_table.specs.Fewest.{PackedFrom}
use Rattle.division_table.proofs.fewest_after.Given as goal

abbrev pub invariant-loop-y : goal.invariant-loop-y
invariant-loop-y l = (l.packed.count + l.y ≤ l.g + 1) × PackedFrom l.cost l.bound l.g l.y l.packed.load l.packed.count l.after
