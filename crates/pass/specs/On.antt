-- The work on a rung and what it asks for, of the value that a pass reads.
use Rattle.std.specs.Prelude.{ℕ, List}
use Rattle.neighbours.specs.Visit.{pull_to}
use Rattle.pass.specs.Work.{Work, worked, Visitable}
use Rattle.pass.specs.declared.row.Row.{Row}

-- the width between cluster h and each part
abbrev pub pull_on : Row → List ℕ → ℕ → ℕ → ℕ
pull_on r table h = pull_to r.edges.from.now r.edges.to.now r.widths.now table h

abbrev pub worked_on : Row → ℕ → Work → Work
worked_on r = worked r.edges.from.now r.edges.to.now r.widths.now r.costs.now r.bound

abbrev pub VisitableOn : Row → ℕ → Work → Type 0
VisitableOn r = Visitable r.edges.from.now r.edges.to.now r.widths.now r.costs.now r.bound
