-- The entries below i are copied.
use lib.ListN.{take}
use mathlib.Core.Path.{◌≡◌}
use Rattle.folds.specs.Fold.{put}
use Rattle.row_lists.proofs.widen.Given as goal

abbrev pub invariant-loop-i : goal.invariant-loop-i
invariant-loop-i l = l.dst ≡ put l.initial.dst 0 (take l.i l.src)
