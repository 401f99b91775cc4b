use Rattle.cycle_test.proofs.Guesses.{head_few, filling_none, filling_down}
use Rattle.std.proofs.Common.{◌≡◌, ◌+◌, ◌-◌, ◌/◌, ◌%◌, ◌<◌, ◌≤◌, get_or, refl, mod-lt, arith}
use Rattle.cycle_test.proofs.link.Goals as goal

pub overflow_cast-cells : goal.overflow_cast-cells
overflow_cast-cells c = omega (arith, c.args.edges.ended.from.few)

pub overflow_mul-cells : goal.overflow_mul-cells
overflow_mul-cells c = omega (arith, c.args.edges.ended.from.few)

pub loop-j-init : goal.loop-j-init
loop-j-init c = (refl, omega arith, filling_none c.args.edges.ended.from.few (omega arith))

pub overflow_mul-arcs : goal.overflow_mul-arcs
overflow_mul-arcs c =
    let few : get_or c.loop-j.cells c.end_at-a.result 0 / 65536 ≤ 1024 = head_few (omega (arith, c.loop-j.invariant.2.small c.end_at-a.result c.end_at-a.ensures.low)) in
    omega arith

pub overflow_add-arcs : goal.overflow_add-arcs
overflow_add-arcs c =
    let few : get_or c.loop-j.cells c.end_at-a.result 0 / 65536 ≤ 1024 = head_few (omega (arith, c.loop-j.invariant.2.small c.end_at-a.result c.end_at-a.ensures.low)) in
    omega (arith, c.end_at-b.ensures.low)

pub overflow_add-cells : goal.overflow_add-cells
overflow_add-cells c =
    let x = get_or c.loop-j.cells c.end_at-a.result 0 in
    let h : x % 65536 < 65536 = mod-lt x (omega arith) in
    omega (arith, c.args.edges.ended.from.few)

pub overflow_add-cells-in-loop-j : goal.overflow_add-cells-in-loop-j
overflow_add-cells-in-loop-j c =
    let few : c.loop-j.j - 1 < 1024 = omega (arith, c.args.edges.ended.from.few) in
    let e : c.loop-j.j ≡ (c.loop-j.j - 1) + 1 = omega arith in
    omega (arith, (filling_down few c.end_at-a.ensures.low c.end_at-b.ensures.low (rw e at c.loop-j.invariant.2)).1)

pub loop-j-preserved : goal.loop-j-preserved
loop-j-preserved c =
    let few : c.loop-j.j - 1 < 1024 = omega (arith, c.args.edges.ended.from.few) in
    let e : c.loop-j.j ≡ (c.loop-j.j - 1) + 1 = omega arith in
    (refl, omega arith, (filling_down few c.end_at-a.ensures.low c.end_at-b.ensures.low (rw e at c.loop-j.invariant.2)).2)

pub returns : goal.returns
returns c = record { later = λ j l. c.loop-j.invariant.2.later j (omega arith) l }
