-- where filled intervals are too many there is no division; else the search finds the best
use native.Mathlib.Omega.{arith}
use mathlib.Core.Path.{refl}
use Rattle.graph.specs.Graph.{graph_of}
use Rattle.graph.proofs.Totals.{zero_sums}
use Rattle.initial.proofs.Solves.{cost_light, cost_best, solved_few}
use Rattle.initial.proofs.solve.Goals as goal

pub sum_costs-requires-clause-by_index : goal.sum_costs-requires-clause-by_index
sum_costs-requires-clause-by_index c = zero_sums 512

pub fewest_after-requires : goal.fewest_after-requires
fewest_after-requires c =
    let e = c.args.edges in
    let G = graph_of c.args.costs.now e.starts.now e.ends.now e.widths.now in
    (e.few, (cost_light G c.requires.keyed.few e.few c.sum_costs.ensures (λ k. omega (arith, c.type_inv.costs k))).light)

pub returns-then-n-from : goal.returns-then-n-from
returns-then-n-from c =
    let e = c.args.edges in
    let G = graph_of c.args.costs.now e.starts.now e.ends.now e.widths.now in
    rw (solved_few G c.requires.keyed.few e.few c.sum_costs.ensures c.args.bound _ c.args.n c.fewest_after.ensures (omega arith)) (record { is = refl; table = refl })

pub fewest_before-requires : goal.fewest_before-requires
fewest_before-requires c =
    let e = c.args.edges in
    let G = graph_of c.args.costs.now e.starts.now e.ends.now e.widths.now in
    (e.few, (cost_light G c.requires.keyed.few e.few c.sum_costs.ensures (λ k. omega (arith, c.type_inv.costs k))).light)

pub invariant_of-limits : goal.invariant_of-limits
invariant_of-limits c =
    let e = c.args.edges in
    let G = graph_of c.args.costs.now e.starts.now e.ends.now e.widths.now in
    record {
      costs = cost_light G c.requires.keyed.few e.few c.sum_costs.ensures (λ k. omega (arith, c.type_inv.costs k));
      before_each = c.fewest_before.ensures;
      from_each = c.fewest_after.ensures;
    }

pub invariant_of-limits-else-g-le64 : goal.invariant_of-limits-else-g-le64
invariant_of-limits-else-g-le64 c =
    let e = c.args.edges in
    let G = graph_of c.args.costs.now e.starts.now e.ends.now e.widths.now in
    record {
      costs = cost_light G c.requires.keyed.few e.few c.sum_costs.ensures (λ k. omega (arith, c.type_inv.costs k));
      before_each = c.fewest_before.ensures;
      from_each = c.fewest_after.ensures;
    }

pub returns-then-g-le64 : goal.returns-then-g-le64
returns-then-g-le64 c =
    let e = c.args.edges in
    let G = graph_of c.args.costs.now e.starts.now e.ends.now e.widths.now in
    rw (cost_best G c.requires.keyed.few e.few c.sum_costs.ensures c.args.bound _ c.args.n) c.search.ensures

pub returns-else-g-le64 : goal.returns-else-g-le64
returns-else-g-le64 c =
    let e = c.args.edges in
    let G = graph_of c.args.costs.now e.starts.now e.ends.now e.widths.now in
    rw (cost_best G c.requires.keyed.few e.few c.sum_costs.ensures c.args.bound _ c.args.n) c.search-else-g-le64.ensures
