-- The slice's own test, on what is left of the text.
use Rattle.decimal.proofs.Reading.{starts_left}
use Rattle.decimal.proofs.starts.Goals as goal

pub returns : goal.returns
returns c = starts_left _ _ _ _ _ c.min.ensures c.starts_with.ensures.value
