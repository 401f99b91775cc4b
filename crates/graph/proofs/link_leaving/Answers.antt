use Rattle.graph.proofs.Links.{made_none, made_down, made_end}
use native.Mathlib.Omega.{arith}
use mathlib.Core.Path.{refl, sym}
use Rattle.graph.proofs.link_leaving.Goals as goal

pub loop-j-init : goal.loop-j-init
loop-j-init c = (refl, omega arith, made_none _ _ _ (omega arith))

pub loop-j-preserved : goal.loop-j-preserved
loop-j-preserved c = (refl, omega arith, made_down _ _ c.loop-j.j _ c.loop-j.links.head c.loop-j.links.next (sym c.leaving_at-a.ensures.is) (omega (arith, c.leaving_at-a.ensures.low)) (omega arith) c.loop-j.invariant.1 c.args.edges.ended.from.few c.loop-j.invariant.2)

pub returns : goal.returns
returns c = made_end _ _ (omega arith) c.loop-j.invariant.2
