-- A cluster that has a number keeps it; else it and its mate take the next one.
use Rattle.contraction.proofs.Naming.{named_new}
use Rattle.folds.proofs.Cases.{cases}
use Rattle.contraction.proofs.name.Goals as goal

pub returns-then-names-c-ne0 : goal.returns-then-names-c-ne0
returns-then-names-c-ne0 c = record { names_are = search cases; count_is = search cases }

pub returns : goal.returns
returns c = named_new c.from-d.ensures c.if-names-c-ne0.false
