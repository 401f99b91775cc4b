use Rattle.row_lists.proofs.Merging.{weighed_all}
use Rattle.folds.specs.Fold.{zeros}
use Rattle.row_lists.proofs.weigh.Goals as goal

pub returns-clause-weighed : goal.returns-clause-weighed
unfolding zeros
returns-clause-weighed c = weighed_all _ c.requires c.widen.ensures.after
