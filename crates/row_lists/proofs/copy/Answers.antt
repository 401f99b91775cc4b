use native.Mathlib.Omega.{arith}
use Rattle.row_lists.proofs.Copying.{copied_none, copied_more, copied_all}
use Rattle.row_lists.proofs.copy.Goals as goal

pub loop-i-init : goal.loop-i-init
loop-i-init g c = copied_none c.args.dst.now c.args.src.now c.args.a

pub loop-i-preserved : goal.loop-i-preserved
loop-i-preserved g c = copied_more _ _ c.loop-i.dst _ c.loop-i.i _ c.loop-i.invariant c.index-src-i.is c.loop-i-test.true c.requires

pub returns : goal.returns
returns g c = copied_all _ _ _ _ c.loop-i.i c.loop-i.invariant (omega arith)
