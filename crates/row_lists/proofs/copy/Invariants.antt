-- The entries below i are copied.
use lib.ListN.{take, drop}
use mathlib.Core.Path.{◌≡◌}
use mathlib.Core.List.{◌++◌}
use Prim.Native.Nat.{◌+◌}
use Rattle.row_lists.proofs.copy.Given as goal

abbrev pub invariant-loop-i : goal.invariant-loop-i
invariant-loop-i g l = l.dst ≡ take l.a l.initial.dst ++ (take l.i l.src ++ drop (l.a + l.i) l.initial.dst)
