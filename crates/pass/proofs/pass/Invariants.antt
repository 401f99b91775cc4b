-- h clusters have been visited.
use Rattle.pass.specs.Work.{work_of, worked, WorkDone}
use Rattle.neighbours.specs.Known.{Known}
use Rattle.folds.specs.Fold.{turns}
use Rattle.pass.proofs.pass.Given as goal

abbrev pub invariant-loop-h : goal.invariant-loop-h
invariant-loop-h l = WorkDone (work_of l.initial.table.parts l.initial.p) (work_of l.table.parts l.p) l.h (turns l.h (worked l.row.edges.from.now l.row.edges.to.now l.row.widths.now l.row.costs.now l.row.bound) (work_of l.initial.table.parts l.initial.p)) × Known l.row.edges.from.now l.row.edges.to.now l.table.parts l.initial.p.sums.count l.numbers.low l.numbers.high l.numbers.marks
