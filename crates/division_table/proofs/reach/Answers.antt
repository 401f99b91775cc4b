use native.Mathlib.Omega.{arith}
use Rattle.division_table.proofs.Tables.{lanes_none, lanes_turn, lanes_pass, lanes_over, topped_none}
use Rattle.division_table.proofs.reach.Goals as goal

pub loop-e-init : goal.loop-e-init
loop-e-init g c = let q = c.first_end-e.ensures.1 in (c.first_end-e.ensures.0, rw q (lanes_none _ _ _ _ _ _ _ _), topped_none _)

pub loop-e-preserved : goal.loop-e-preserved
loop-e-preserved g c =
    let E = c.loop-e.invariant.0 in
    let P = c.pass_over-e.ensures.1 in
    let turned = lanes_turn _ _ _ _ _ _ _ _ _ _ E.past c.loop-e.invariant.1 _ _ (omega (arith, E.loads)) E.outs c.offer-most.ensures.relaxed in (
      c.pass_over-e.ensures.0,
      lanes_pass (omega (arith, E.past)) (omega (arith, P.upto, c.next_end.ensures.1)) turned c.offer-most.ensures.topped_2 (rw c.next_end.ensures.1 at P.each),
      c.offer-most.ensures.topped_2,
    )

pub returns-else-e-w : goal.returns-else-e-w
returns-else-e-w g c = let E = c.loop-e.invariant.0 in lanes_over _ _ _ _ _ _ _ _ _ _ E.past c.loop-e.invariant.1 _ E.inside (omega (arith, E.loads))
