-- Tests: by cases on one, what a chain of them says, and a chain of them from what the code's branches say.
use Rattle.std.specs.Int.{from_bool}
use Prim.Native.Nat.{ℕ, suc, ◌≤◌, ◌<◌}
use mathlib.Core.Path.{◌≡◌, refl, sym, ◌∙◌}
use mathlib.Core.Bool.{Bool, true, false, not, ◌&&◌, ◌||◌}
use mathlib.Core.Logic.{◌⊎◌, inl, inr}
use native.Mathlib.Nat.{eq-or-lt_of_le, le_of_suc-le-suc}
use native.Mathlib.Omega.{arith}
use lib.Dec.{eqb}
use borrow.Author.Tests.{eqb-true, eqb-false, eq-eqb, ne_eqb, lt-ltb, le-ltb, le-leb, lt-leb}
use Rattle.folds.specs.Fold.{pick, when}

pub no_bool : false ≡ true → ⊥
no_bool e = let z : ◌≡◌ {A = ℕ} 0 1 = cc in omega arith

-- by cases on a test, with what the test says
pub by {ℓ} : {P : Type ℓ} (b : Bool) → (b ≡ true → P) → (b ≡ false → P) → P
by true t f = t refl
by false t f = f refl

-- by cases on a sum, with the value in front, so that what the two functions take is known where they are read
pub either : {A B C : Type 0} → A ⊎ B → (A → C) → (B → C) → C
either (inl a) f g = f a
either (inr b) f g = g b

pub eq_or_ne : (a b : ℕ) → (a ≡ b) ⊎ (a ≡ b → ⊥)
eq_or_ne a b = by (eqb a b) (λ e. inl (eqb-true a b e)) (λ e. inr (eqb-false a b e))

-- the last, or one before it
pub last_or : {k n : ℕ} → k < suc n → (k ≡ n) ⊎ (k < n)
last_or h = eq-or-lt_of_le (le_of_suc-le-suc h)

-- what a chain of tests that came out true says
pub both : (a b : Bool) → (a && b) ≡ true → (a ≡ true) × (b ≡ true)
both true b e = (refl, e)
both false b e = absurd (no_bool e)

pub both_i : (a b : Bool) → a ≡ true → b ≡ true → (a && b) ≡ true
both_i true b p q = q
both_i false b p q = p

pub one_of : (a b : Bool) → (a || b) ≡ true → (a ≡ true) ⊎ (b ≡ true)
one_of true b p = inl refl
one_of false b p = inr p

pub or_l : (a b : Bool) → a ≡ true → (a || b) ≡ true
or_l true b p = refl
or_l false b p = absurd (no_bool p)

pub or_r : (a b : Bool) → b ≡ true → (a || b) ≡ true
or_r true b p = refl
or_r false b p = p

pub and_false : (t : Bool) → (t && false) ≡ false
and_false true = refl
and_false false = refl

pub and_true : (t : Bool) → (t && true) ≡ t
and_true true = refl
and_true false = refl

pub not_yes : (a : Bool) → not a ≡ true → a ≡ false
not_yes true e = absurd (no_bool e)
not_yes false e = refl

pub not_no : (a : Bool) → not a ≡ false → a ≡ true
not_no true e = refl
not_no false e = absurd (no_bool (sym e))

-- a test holds exactly where another does
pub same_test : (a b : Bool) → (a ≡ true → b ≡ true) → (b ≡ true → a ≡ true) → a ≡ b
same_test true b f g = sym (f refl)
same_test false true f g = g refl
same_test false false f g = refl

-- a chain of tests, from what the branches say: `search cases` under `unfolding` of the definition
pub pick_yes : {A : Type 0} (t : Bool) (x y z : A) → t ≡ true → z ≡ x → z ≡ pick t x y
pick_yes t x y z h e = rw h e

pub pick_no : {A : Type 0} (t : Bool) (x y z : A) → t ≡ false → z ≡ y → z ≡ pick t x y
pick_no t x y z h e = rw h e

pub yes_pick : {A : Type 0} (t : Bool) (x y z : A) → t ≡ true → x ≡ z → pick t x y ≡ z
yes_pick t x y z h e = rw h e

pub no_pick : {A : Type 0} (t : Bool) (x y z : A) → t ≡ false → y ≡ z → pick t x y ≡ z
no_pick t x y z h e = rw h e

pub and_yes : (a b z : Bool) → a ≡ true → z ≡ b → z ≡ (a && b)
and_yes a b z h e = rw h e

pub and_no : (a b z : Bool) → a ≡ false → z ≡ false → z ≡ (a && b)
and_no a b z h e = rw h e

pub yes_and : (a b z : Bool) → a ≡ true → b ≡ z → (a && b) ≡ z
yes_and a b z h e = rw h e

pub no_and : (a b z : Bool) → a ≡ false → false ≡ z → (a && b) ≡ z
no_and a b z h e = rw h e

pub or_yes : (a b z : Bool) → a ≡ true → z ≡ true → z ≡ (a || b)
or_yes a b z h e = rw h e

pub or_no : (a b z : Bool) → a ≡ false → z ≡ b → z ≡ (a || b)
or_no a b z h e = rw h e

pub yes_or : (a b z : Bool) → a ≡ true → true ≡ z → (a || b) ≡ z
yes_or a b z h e = rw h e

pub no_or : (a b z : Bool) → a ≡ false → b ≡ z → (a || b) ≡ z
no_or a b z h e = rw h e

pub when_yes : (t : Bool) (w z : ℕ) → t ≡ true → z ≡ w → z ≡ when t w
when_yes t w z h e = rw h e

pub when_no : (t : Bool) (w z : ℕ) → t ≡ false → z ≡ 0 → z ≡ when t w
when_no t w z h e = rw h e

pub yes_not : (a z : Bool) → a ≡ true → false ≡ z → not a ≡ z
yes_not a z h e = rw h e

pub no_not : (a z : Bool) → a ≡ false → true ≡ z → not a ≡ z
no_not a z h e = rw h e

pub ruleset cases = (pick_yes, pick_no, yes_pick, no_pick, and_yes, and_no, yes_and, no_and, or_yes, or_no, yes_or, no_or, when_yes, when_no, yes_not, no_not, eq-eqb, ne_eqb, lt-ltb, le-ltb, le-leb, lt-leb)

pub pick_same : {A : Type 0} (t : Bool) (x : A) → x ≡ pick t x x
pick_same true x = refl
pick_same false x = refl

-- what a callee returned is what it ensures, and came out so
pub told : (r t u : Bool) → r ≡ t → r ≡ u → t ≡ u
told r t u e h = sym e ∙ h

pub when_le : (t : Bool) (w : ℕ) → when t w ≤ w
when_le true w = omega arith
when_le false w = omega arith

pub when_zero : (t : Bool) → when t 0 ≡ 0
when_zero true = refl
when_zero false = refl

pub when_more : (a b : Bool) (w : ℕ) → (a ≡ true → b ≡ true) → when a w ≤ when b w
when_more true b w h = rw (h refl) (omega arith)
when_more false b w h = omega arith

-- a mark of 1 or 0, read back
pub mark_yes : {t : Bool} {x : ℕ} → x ≡ when t 1 → (x ≡ 0 → ⊥) → t ≡ true
mark_yes {t = true} e n = refl
mark_yes {t = false} e n = absurd (n e)

pub mark_no : {t : Bool} {x : ℕ} → x ≡ when t 1 → x ≡ 0 → t ≡ false
mark_no {t = true} e z = absurd (omega arith)
mark_no {t = false} e z = refl

-- a choice that came out as x
pub chose : {A : Type 0} (t : Bool) (a b x : A) → pick t a b ≡ x → ((t ≡ true) × (a ≡ x)) ⊎ ((t ≡ false) × (b ≡ x))
chose true a b x e = inl (refl, e)
chose false a b x e = inr (refl, e)

-- a test as a number
pub bit_few : (t : Bool) → from_bool t ≤ 1
bit_few true = omega arith
bit_few false = omega arith

pub bit_yes : {t : Bool} → t ≡ true → from_bool t ≡ 1
bit_yes e = rw e refl

pub bit_none : (t : Bool) → from_bool t ≡ 0 → t ≡ false
bit_none true e = absurd (omega arith)
bit_none false e = refl

pub bit_when : (t : Bool) → from_bool t ≡ when t 1
bit_when true = refl
bit_when false = refl
