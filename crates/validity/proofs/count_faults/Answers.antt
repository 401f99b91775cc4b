-- A fault adds 1, else 0.
use Rattle.std.proofs.Common.{◌≡◌, arith}
use Rattle.validity.proofs.Checks.{byte_low, faults_none, faults_turn}
use Rattle.validity.proofs.count_faults.Goals as goal

pub loop-j-init : goal.loop-j-init
loop-j-init g c = record { low = omega arith; counts = λ p t. faults_none p }

pub overflow_add-sum : goal.overflow_add-sum
overflow_add-sum g c = omega (arith, c.requires.few, c.from-sum.ensures, byte_low c.fault.result)

pub loop-j-preserved : goal.loop-j-preserved
loop-j-preserved g c = record {
  low = omega (arith, c.from-sum.ensures, byte_low c.fault.result);
  counts = λ p t. faults_turn p _ (c.loop-j.invariant.counts p t) c.from-sum.ensures (t _ _ c.loop-j-test.true c.fault.ensures);
}

pub returns : goal.returns
returns g c p t = let e : c.loop-j.j ≡ c.args.n = omega arith in rw e at (c.loop-j.invariant.counts p t)
