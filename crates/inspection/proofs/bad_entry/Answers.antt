-- The test is that of the definition.
use Rattle.std.proofs.Common.{rules, tests, leb}
use Rattle.std.proofs.lemmas.Iterator.{YieldsList-from_slice}
use Rattle.std.proofs.lemmas.Iterator.Search.{position_from_yields_List}
use Rattle.inspection.specs.Table.{bad_entry}
use Rattle.inspection.proofs.Tables.{position_first}
use Rattle.inspection.proofs.bad_entry.Goals as goal

pub returns : goal.returns
unfolding bad_entry
returns c =
    position_first _ _ (position_from_yields_List (λ part. leb c.args.k part) _ _ _ c.position.ensures.ran (YieldsList-from_slice c.args.parts.now cc) (λ x b q k. search (rules, tests)))
