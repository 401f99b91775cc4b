use native.Mathlib.Omega.{arith}
use Prim.Native.Nat.{◌+◌, ◌-◌, ◌*◌}
use mathlib.Core.Path.{◌≡◌, refl}
use lib.ListN.{length}
use Rattle.folds.specs.Fold.{zeros}
use Rattle.division_scan.proofs.Flows.{leaving_first, leaving_small}
use Rattle.division_scan.proofs.Follows.{passed_none, passed_more, next_at, next_none, brought_none, brought_room, brought_more, leaving_more, leaving_is, leaving_room}
use Rattle.folds.proofs.Found.{below_some, below_none}
use Rattle.division_scan.specs.Placed.{next_in}
use Rattle.division_scan.proofs.next_start.Goals as goal

pub loop-x-init : goal.loop-x-init
unfolding zeros
loop-x-init c =
    let P = c.args.e.positioned in
    let q : c.args.y + 1 - 1 ≡ c.args.y = omega arith in
    (refl, rw q (leaving_first P _), rw q (brought_none P _), rw q passed_none)

pub gather-w-requires-clause-into_room : goal.gather-w-requires-clause-into_room
gather-w-requires-clause-into_room c = brought_room c.args.e.positioned c.loop-x.invariant.2

pub overflow_add-out : goal.overflow_add-out
overflow_add-out c = omega (arith, leaving_room c.args.e.positioned c.loop-x.invariant.2 c.gather-w.ensures (omega arith) c.loop-x.invariant.1)

pub overflow_sub-out-in-loop-x : goal.overflow_sub-out-in-loop-x
overflow_sub-out-in-loop-x c = omega (arith, leaving_more c.args.e.positioned c.loop-x.invariant.2 c.gather-w.ensures (omega arith) c.loop-x.invariant.1)

pub overflow_add-out-in-loop-x : goal.overflow_add-out-in-loop-x
overflow_add-out-in-loop-x c =
    let P = c.args.e.positioned in
    omega (
      arith,
      c.requires.table.low.low (c.loop-x.x * 17 + c.args.j),
      leaving_is P c.loop-x.invariant.2 c.gather-w.ensures (omega arith) c.loop-x.invariant.1,
      leaving_small P c.args.y (c.loop-x.x - 1 + 1),
    )

pub returns-then-out-cut : goal.returns-then-out-cut
returns-then-out-cut c =
    let e = leaving_is c.args.e.positioned c.loop-x.invariant.2 c.gather-w.ensures (omega arith) c.loop-x.invariant.1 in
    let q : c.loop-x.x - 1 + 1 ≡ c.loop-x.x = omega arith in
    below_some (rw q at (next_at (omega arith) c.loop-x.invariant.3 e c.loop-x.invariant.0 (length c.args.e.places.now) (omega arith) (rw q c.if-out-cut.true))) (omega arith)

pub loop-x-preserved : goal.loop-x-preserved
loop-x-preserved c =
    let P = c.args.e.positioned in
    let e = leaving_is P c.loop-x.invariant.2 c.gather-w.ensures (omega arith) c.loop-x.invariant.1 in
    let q : c.loop-x.x - 1 + 1 ≡ c.loop-x.x + 1 - 1 = omega arith in
    let p : c.loop-x.x - 1 + 1 ≡ c.loop-x.x = omega arith in (
      refl,
      rw q at e,
      rw q at (brought_more P c.loop-x.invariant.2 c.gather-w.ensures),
      rw q at (passed_more (omega arith) c.loop-x.invariant.3 e c.loop-x.invariant.0 (rw p c.if-out-cut.false)),
    )

pub returns : goal.returns
returns c = let q : length c.args.e.places.now ≡ next_in c.args.e c.args.cut.now c.args.j c.args.y = next_none _ c.loop-x.invariant.3 (omega arith) in below_none (omega arith)
