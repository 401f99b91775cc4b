-- Without a predecessor the own part; else the choice against it.
use Rattle.pass.proofs.Work.{back_none, back_tried}
use native.Mathlib.Omega.{arith}
use borrow.Author.Rules.{rules}
use Rattle.pass.proofs.back.Goals as goal

pub returns-then-visit-eq0 : goal.returns-then-visit-eq0
returns-then-visit-eq0 c = record {
  value = search back_none;
  upper_bound = omega arith;
}

pub returns : goal.returns
returns c = record {
  value = search back_tried;
  upper_bound = search rules;
}
