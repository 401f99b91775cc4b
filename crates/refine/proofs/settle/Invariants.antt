-- The work stands on its way to what the passes make of the table; a pass that moves something lowers the measure.
use Rattle.refine.proofs.Rung.{Stands}
use Rattle.refine.proofs.Bridge.{Drawn}
use Rattle.pass.specs.Work.{work_of}
use Rattle.neighbours.specs.Known.{Known}
use Rattle.graph.specs.Graph.{through}
use Rattle.graph.specs.Lent.{graph_in}
use Rattle.graph.specs.Rows.{clusters}
use Rattle.refinement.specs.Pass.{tally_of, measure, refined_on}
use mathlib.Core.Path.{◌≡◌}
use Rattle.refine.proofs.settle.Given as goal

abbrev pub invariant-loop-p : goal.invariant-loop-p
invariant-loop-p l = record {
  whole : l.g ≡ clusters l.joined.row.now;
  drawn : Drawn (graph_in l.joined.lists) l.joined.row.now l.row.1.1.0.now l.joined.links.edges.starts.now l.joined.links.edges.ends.now l.joined.widths.now;
  stands : Stands (graph_in l.joined.lists) l.initial.p.sums.count l.joined.bound l.joined.row.now
      (refined_on (graph_in l.joined.lists) l.initial.p.sums.count l.joined.bound l.joined.row.now (tally_of (through l.joined.row.now l.initial.table.parts) l.initial.p.moves)) (work_of l.table.parts l.p);
  known : Known l.joined.links.edges.starts.now l.joined.links.edges.ends.now l.table.parts l.initial.p.sums.count l.numbers.low l.numbers.high l.numbers.marks;
}

abbrev pub decreases-loop-p : goal.decreases-loop-p
decreases-loop-p l = measure (graph_in l.joined.lists) l.initial.p.sums.count (through l.joined.row.now l.table.parts)
