-- what wins is taken, else the best stays
use mathlib.Core.Path.{refl}
use mathlib.Core.Logic.{inl, inr}
use Rattle.folds.proofs.Cases.{either}
use Rattle.matching_scan.proofs.Best.or.Goals as goal

pub returns-then-loses : goal.returns-then-loses
returns-then-loses c = record { is = either (c.loses.ensures.yes c.if-loses.true) (λ g. inl (g, refl, refl)) (λ (e, g). inr (inl (e, g, refl, refl))) }

pub returns-else-loses : goal.returns-else-loses
returns-else-loses c = let (g, h) = c.loses.ensures.no c.if-loses.false in record { is = inr (inr (g, h, refl, refl)) }
