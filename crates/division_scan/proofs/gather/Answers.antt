use native.Mathlib.Omega.{arith}
use Prim.Native.Nat.{◌<◌}
use mathlib.Core.Path.{refl}
use lib.ListN.{length}
use Rattle.graph.proofs.Links.{walk_on, walk_next, walk_less, on_end}
use Rattle.division_scan.proofs.Gathers.{from_more, starting_more, gathered_none, gathered_turn}
use Rattle.division_scan.proofs.gather.Goals as goal

pub loop-j-init : goal.loop-j-init
loop-j-init c =
    let L = c.args.e.linked_by in (
      refl,
      rw (c.from-j.ensures, c.from-a.ensures) (walk_on L.linked _ (L.low _ c.requires.y_in_bounds)),
      rw (c.from-j.ensures, c.from-a.ensures) (gathered_none _ _ _ _ _ _ _ _ c.requires.y_in_bounds L _ c.requires.into_room.tall),
    )

pub overflow_add-into : goal.overflow_add-into
overflow_add-into c =
    let e = c.args.e in
    let h : c.loop-j.j < length e.widths.now = omega (arith, e.positioned.same) in
    omega (arith, c.requires.into_room.low c.cluster-x.result, c.loop-j.invariant.2.adds c.cluster-x.result, from_more e.places.now e.starts.now e.ends.now e.widths.now c.args.y c.cluster-x.result c.loop-j.j e.positioned.narrow h)

pub overflow_add-sum : goal.overflow_add-sum
overflow_add-sum c =
    let e = c.args.e in
    let h : c.loop-j.j < length e.widths.now = omega (arith, e.positioned.same) in
    omega (arith, c.loop-j.invariant.2.sums, starting_more e.places.now e.starts.now e.widths.now c.args.y c.loop-j.j e.positioned.narrow h)

pub loop-j-smaller : goal.loop-j-smaller
loop-j-smaller c = omega (arith, c.from-j-in-loop-j.ensures, walk_less c.args.e.linked_by.linked c.loop-j.j c.loop-j-test.true)

pub loop-j-preserved : goal.loop-j-preserved
loop-j-preserved c = (
  refl,
  rw c.from-j-in-loop-j.ensures (walk_next c.args.e.linked_by.linked _ _ c.loop-j.invariant.1 c.loop-j-test.true),
  rw c.from-j-in-loop-j.ensures (gathered_turn _ _ _ _ _ _ _ _ c.requires.y_in_bounds c.args.e.linked_by c.loop-j.j _ _ _ _ c.loop-j.invariant.1 c.loop-j-test.true c.cluster-x.ensures.is c.cluster-x.ensures.low c.loop-j.invariant.2),
)

pub returns : goal.returns
returns c = rw (on_end c.loop-j.invariant.1 c.loop-j-test.false) at c.loop-j.invariant.2
