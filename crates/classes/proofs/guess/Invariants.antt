-- the list of classes keeps its length
use Rattle.std.proofs.Common.{◌≡◌, length}
use Rattle.classes.proofs.guess.Given as goal

abbrev pub invariant-loop-i : goal.invariant-loop-i
invariant-loop-i l = length l.walks.class ≡ 512
