-- The test is that of the definition.
use Rattle.std.proofs.Common.{rules, tests, ltb}
use Rattle.std.proofs.lemmas.Iterator.{YieldsList-from_slice}
use Rattle.std.proofs.lemmas.Iterator.Search.{position_from_yields_List}
use Rattle.inspection.proofs.Tables.{position_first}
use Rattle.inspection.proofs.over_part.Goals as goal

pub returns : goal.returns
returns c =
    position_first _ _ (position_from_yields_List (λ sum. ltb c.args.bound sum) _ _ _ c.position.ensures.ran (YieldsList-from_slice c.args.sums.now cc) (λ x b q k. search (rules, tests)))
