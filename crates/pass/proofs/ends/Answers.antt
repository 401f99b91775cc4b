-- The part of the highest predecessor, and that of the lowest successor against it.
use Rattle.pass.proofs.Work.{ends_none, ends_tried}
use borrow.Author.Rules.{rules}
use Rattle.pass.proofs.ends.Goals as goal

pub returns-then-visit : goal.returns-then-visit
returns-then-visit c = record {
  value = search ends_none;
  upper_bound = search rules;
}

pub returns : goal.returns
returns c = record {
  value = search ends_tried;
  upper_bound = search rules;
}
