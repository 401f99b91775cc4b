use Rattle.graph.proofs.Links.{made_none, made_down, made_end}
use native.Mathlib.Omega.{arith}
use mathlib.Core.Path.{refl, sym}
use Rattle.joined_edges.proofs.fill_leaving.Goals as goal

pub loop-j-init : goal.loop-j-init
loop-j-init c = (refl, made_none _ _ _ (omega arith))

pub loop-j-preserved : goal.loop-j-preserved
loop-j-preserved c = (refl, made_down _ _ c.loop-j.j _ c.loop-j.table.head c.loop-j.table.next (sym c.leaves-k.ensures.is) c.leaves-k.ensures.low c.loop-j-test.true (omega arith) c.args.edges.joins.out.few c.loop-j.invariant.1)

pub returns : goal.returns
returns c = made_end _ _ (omega arith) c.loop-j.invariant.1
