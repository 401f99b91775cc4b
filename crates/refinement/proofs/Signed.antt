-- Signed gains: sums without a minus as sums with one, and the order of two gains.
use Prim.Native.Nat.{ℕ, zero, suc, ◌+◌, ◌-◌, ◌<◌}
use mathlib.Core.Path.{◌≡◌, refl, sym, ap, ap₂, ◌∙◌}
use native.Mathlib.Omega.{arith}
use lib.Dec.{ltb}
use lib.IntN.{ℤ, pos, sub_ℕ, ◌+ℤ◌, ◌-ℤ◌, neg_ℤ, pos-+ℤ-pos, +ℤ-neg_ℤ_cancel, +ℤ_assoc, +ℤ_comm, +ℤ_invr}
use lib.Signed.{lt_z}
use borrow.Author.Tests.{ltb-true, ltb-false, lt-ltb, le-ltb}
use Rattle.folds.proofs.Cases.{by, same_test}

-- a + d ≡ b + c, as a ≡ b + (c - d)
pub signed : (a b c d : ℕ) → a + d ≡ b + c → pos a ≡ pos b +ℤ (pos c -ℤ pos d)
signed a b c d e =
    sym (+ℤ-neg_ℤ_cancel (pos a) (pos d)) ∙ ap (λ (z : ℤ). z -ℤ pos d) (pos-+ℤ-pos a d ∙ ap pos e ∙ sym (pos-+ℤ-pos b c)) ∙ +ℤ_assoc (pos b) (pos c) (neg_ℤ (pos d))

pub signed_chain : (a b c d e : ℤ) → a ≡ b +ℤ c → b ≡ d +ℤ e → a ≡ d +ℤ (c +ℤ e)
signed_chain a b c d e p q = p ∙ ap (λ (z : ℤ). z +ℤ c) q ∙ +ℤ_assoc d e c ∙ ap (λ (z : ℤ). d +ℤ z) (+ℤ_comm e c)

minus_is : (a c : ℕ) → pos a -ℤ pos c ≡ sub_ℕ a c
minus_is a zero = rw (le-ltb a 0 (omega arith)) (ap pos (omega arith))
minus_is a (suc c) = refl

test_as : (a b x y : ℕ) → (x < y → a < b) → (a < b → x < y) → ltb x y ≡ ltb a b
test_as a b x y f g = same_test (ltb x y) (ltb a b) (λ t. lt-ltb a b (f (ltb-true x y t))) (λ t. lt-ltb x y (g (ltb-true a b t)))

-- of two gains from one part, the larger is the one with the larger sum
pub less_gain : (a b c : ℕ) → lt_z (pos a -ℤ pos c) (pos b -ℤ pos c) ≡ ltb a b
less_gain a b c =
    ap₂ lt_z (minus_is a c) (minus_is b c)
    ∙ by (ltb a c)
    (λ x. by (ltb b c)
    (λ y. let l = ltb-true a c x in let m = ltb-true b c y in rw (x, y) (test_as a b (c - suc b) (c - suc a) (λ h. omega arith) (λ h. omega arith)))
    (λ y. let l = ltb-true a c x in let m = ltb-false b c y in rw (x, y) (sym (lt-ltb a b (omega arith)))))
    (λ x. by (ltb b c)
    (λ y. let l = ltb-false a c x in let m = ltb-true b c y in rw (x, y) (sym (le-ltb a b (omega arith))))
    (λ y. let l = ltb-false a c x in let m = ltb-false b c y in rw (x, y) (test_as a b (a - c) (b - c) (λ h. omega arith) (λ h. omega arith))))

-- a gain is above 0 exactly if the new sum is above the old
pub above_zero : (a c : ℕ) → lt_z (pos 0) (pos a -ℤ pos c) ≡ ltb c a
above_zero a c = ap (λ (z : ℤ). lt_z z (pos a -ℤ pos c)) (sym (+ℤ_invr (pos c))) ∙ less_gain c a c
