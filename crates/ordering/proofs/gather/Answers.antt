use Rattle.ordering.proofs.Opens.{gather_none, gather_turn}
use Rattle.std.proofs.Common.{◌≡◌, arith}
use Rattle.ordering.proofs.gather.Goals as goal

pub loop-i-init : goal.loop-i-init
loop-i-init c = rw c.new-ready.ensures (gather_none _)

pub loop-i-preserved : goal.loop-i-preserved
loop-i-preserved c = gather_turn _ _ _ _ (omega arith) c.loop-i.invariant c.admit.ensures

pub returns : goal.returns
returns c = let q : c.loop-i.i ≡ c.args.g = omega arith in rw q at c.loop-i.invariant
