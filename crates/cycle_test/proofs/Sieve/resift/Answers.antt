use Rattle.cycle_test.proofs.Thins.{sifting_none, sifting_next, sifting_end, unmoved_none, unmoved_next}
use Rattle.std.proofs.Common.{ℕ, ◌<◌, get_or, ap, arith}
use Rattle.cycle_test.proofs.Sieve.resift.Goals as goal

pub loop-j-init : goal.loop-j-init
loop-j-init c = (sifting_none _ _ _ (omega arith) (omega arith), (unmoved_none, unmoved_none))

pub bounds-left-from : goal.bounds-left-from
bounds-left-from c =
    let low : get_or c.loop-j.self.to c.loop-j.j 0 < 512 = rw (c.loop-j.invariant.1.1.rest c.loop-j.j (omega arith)) (c.requires.ends.low c.loop-j.j (omega arith)) in
    omega (arith, c.from.ensures)

pub keep-t-requires : goal.keep-t-requires
keep-t-requires c = omega (arith, c.loop-j.invariant.0.few, c.requires.starts.few)

pub loop-j-preserved : goal.loop-j-preserved
loop-j-preserved c =
    let a_stays = c.loop-j.invariant.1.0.rest c.loop-j.j (omega arith) in
    let b_stays = c.loop-j.invariant.1.1.rest c.loop-j.j (omega arith) in
    let few : c.loop-j.j < 1024 = omega (arith, c.requires.starts.few) in
    let a_low : get_or c.loop-j.self.from c.loop-j.j 0 < 512 = rw a_stays (c.requires.starts.low c.loop-j.j (omega arith)) in
    let b_low : get_or c.loop-j.self.to c.loop-j.j 0 < 512 = rw b_stays (c.requires.ends.low c.loop-j.j (omega arith)) in (
      sifting_next _ _ _ c.loop-j.invariant.0 a_stays b_stays few a_low b_low (ap (λ (x : ℕ). get_or c.args.left.now x 0) c.from.ensures) c.keep-t.ensures,
      unmoved_next c.loop-j.invariant.0.few c.keep-t.ensures c.loop-j.invariant.1.0 c.loop-j.invariant.1.1,
    )

pub returns : goal.returns
returns c = sifting_end _ _ _ (omega arith) (omega arith) c.loop-j.invariant.0
