-- Row 0's lists are the graph's own.
use Rattle.folds.specs.Fold.{put}
use mathlib.Core.Path.{refl}
use Rattle.row_lists.proofs.first.Goals as goal

pub returns-clause-first : goal.returns-clause-first
unfolding put
returns-clause-first c = record { froms_are = c.copy.ensures; tos_are = c.copy-2.ensures; widths_are = c.widen.ensures.after; sizes_are = refl }
