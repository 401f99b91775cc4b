-- the part that is read is the edges, for the links and for the order
use Rattle.row_lists.proofs.Carrying.{handed}
use mathlib.Core.Path.{◌∙◌}
use Rattle.hierarchy.proofs.order_row.Goals as goal

pub invariant_of-edges : goal.invariant_of-edges
invariant_of-edges c = record { ended = rw (handed c.args.froms.now c.args.b c.args.count, handed c.args.tos.now c.args.b c.args.count) c.requires.ended }

pub order_by-requires-clause-inside : goal.order_by-requires-clause-inside
order_by-requires-clause-inside c = rw (handed c.args.froms.now c.args.b c.args.count, handed c.args.tos.now c.args.b c.args.count) c.requires.inside

pub returns-clause-linked : goal.returns-clause-linked
returns-clause-linked c = rw (handed c.args.froms.now c.args.b c.args.count, handed c.args.tos.now c.args.b c.args.count) at c.link_leaving.ensures

pub returns-clause-ordered : goal.returns-clause-ordered
returns-clause-ordered c = rw (handed c.args.froms.now c.args.b c.args.count, handed c.args.tos.now c.args.b c.args.count) at c.order_by.ensures.out_after

pub returns-clause-levels : goal.returns-clause-levels
returns-clause-levels c all =
    let v = rw (handed c.args.froms.now c.args.b c.args.count, handed c.args.tos.now c.args.b c.args.count) at c.order_by.ensures.value in
    let l = rw (handed c.args.froms.now c.args.b c.args.count, handed c.args.tos.now c.args.b c.args.count) at c.order_by.ensures.levels_after in l (v ∙ all)
