use Rattle.cycle_test.proofs.Thins.{written_none, written_next, sifted}
use Rattle.std.proofs.Common.{◌<◌, arith}
use Rattle.cycle_test.proofs.Sieve.sift.Goals as goal

pub loop-t-init : goal.loop-t-init
loop-t-init c = written_none _ _ _ (omega arith) (omega arith)

pub offset_bounds-edges-j : goal.offset_bounds-edges-j
offset_bounds-edges-j c = omega (arith, c.from-j.ensures, c.choose-r.ensures.there c.loop-t.t (omega arith), c.args.edges.ended.to.few)

pub bounds-edges-j : goal.bounds-edges-j
bounds-edges-j c = omega (arith, c.from-j.ensures, c.choose-r.ensures.there c.loop-t.t (omega arith), c.args.edges.ended.same)

pub offset_bounds-edges-j-in-loop-t : goal.offset_bounds-edges-j-in-loop-t
offset_bounds-edges-j-in-loop-t c = omega (arith, c.from-j.ensures, c.choose-r.ensures.there c.loop-t.t (omega arith), c.args.edges.ended.to.few)

pub bounds-edges-j-in-loop-t : goal.bounds-edges-j-in-loop-t
bounds-edges-j-in-loop-t c = omega (arith, c.from-j.ensures, c.choose-r.ensures.there c.loop-t.t (omega arith))

pub loop-t-preserved : goal.loop-t-preserved
loop-t-preserved c =
    let E = c.args.edges.ended in
    let place : c.loop-t.t < 1024 = omega (arith, c.choose-r.ensures.few, E.to.few) in
    let edge = c.choose-r.ensures.there c.loop-t.t (omega arith) in
    rw c.from-j.ensures (written_next _ _ _ place (E.from.low _ (omega (arith, E.same, edge))) (E.to.low _ edge) c.loop-t.invariant)

pub returns : goal.returns
returns c = sifted (omega arith) (omega arith) (rw c.args.edges.ended.same at c.choose-r.ensures) c.loop-t.invariant
