-- the positions below x are packed, and each has the count of those below it
use Prim.Native.Nat.{◌≤◌}
use Rattle.division_table.specs.Fewest.{PackedBelow}
use Rattle.division_table.proofs.fewest_before.Given as goal

abbrev pub invariant-loop-x : goal.invariant-loop-x
invariant-loop-x l = (l.packed.count ≤ l.x) × PackedBelow l.cost l.bound l.x l.packed.load l.packed.count l.before
