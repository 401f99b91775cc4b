-- the list of classes keeps its length
use Rattle.std.proofs.Common.{◌≡◌, length}
use Rattle.classes.proofs.Walks.close.Given as goal

abbrev pub invariant-loop : goal.invariant-loop
invariant-loop l = length l.self.class ≡ 512
