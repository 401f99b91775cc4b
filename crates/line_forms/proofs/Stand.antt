-- Lines that may stand where they do.
use Prim.Native.Nat.{ℕ}
use mathlib.Core.Path.{◌≡◌, sym, ◌∙◌}
use mathlib.Core.Bool.{Bool, true, false}
use mathlib.Core.List.{List}
use mathlib.Core.Option.{some, none}
use native.Mathlib.Omega.{arith}
use lib.Dec.{ltb}
use borrow.Author.Tests.{ltb-true, ltb-false}
use Rattle.folds.proofs.Cases.{no_bool, by}
use Rattle.line_forms.specs.Form.{Form, as_form}
use Rattle.line_forms.specs.Stand.{is_of, FirstBad, AllStand}

pub is_some : (f : Form) (l vs : List ℕ) → as_form f l ≡ some vs → is_of f l ≡ true
unfolding is_of
is_some f l vs e = rw e

pub is_none : (f : Form) (l : List ℕ) → as_form f l ≡ none → is_of f l ≡ false
unfolding is_of
is_none f l e = rw e

-- the first bad line is one
pub one_bad : {ok : ℕ → Bool} {n : ℕ} (p q : ℕ) → FirstBad ok n p → FirstBad ok n q → p ≡ q
one_bad p q a b = by (ltb p q) (λ h. absurd (no_bool (sym a.bad ∙ b.first p (ltb-true _ _ h))))
    (λ h. by (ltb q p) (λ g. absurd (no_bool (sym b.bad ∙ a.first q (ltb-true _ _ g)))) (λ g. omega (arith, ltb-false p q h, ltb-false q p g)))

-- it is none of lines that all stand
pub none_bad : {ok : ℕ → Bool} {n : ℕ} (p : ℕ) → AllStand ok n → FirstBad ok n p → ⊥
none_bad p a b = no_bool (sym b.bad ∙ a.stand p (omega (arith, a.some_line, b.within)))
