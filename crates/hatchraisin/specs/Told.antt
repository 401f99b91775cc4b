-- What a caller outside Rattle gets of an answer: its number is returned, its values stand in the cells that were lent.
use Rattle.std.specs.Prelude.{Result, List, ℕ, replicate}
use Rattle.folds.specs.Fold.{over}
use Rattle.validity.specs.Cause.{Answer, answered, refusal, if_answered}
use Rattle.validity.specs.declared.Refusal.{Refusal}

-- so many cells afterwards: the answer's values, or the place of a refusal; 0 in the cells past these
unfoldable pub cells : ℕ → Answer → List ℕ
cells c told = over told.values (replicate c 0)

-- the answer of a call that says the values of its cells, or refuses
abbrev pub answer_in : Result (List ℕ) Refusal → Answer
answer_in told = if_answered told answered refusal
