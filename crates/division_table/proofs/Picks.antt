-- The better of picks, and the best of a bounded family: the first among equals.
use Prim.Native.Nat.{ℕ, zero, suc, ◌≤◌, ◌<◌}
use mathlib.Core.Path.{◌≡◌, refl, sym, ap₂, ◌∙◌}
use mathlib.Core.Bool.{Bool, true, false, ◌&&◌}
use mathlib.Core.Logic.{◌⊎◌, inl, inr}
use native.Mathlib.Omega.{arith}
use lib.Dec.{ltb}
use borrow.Author.Tests.{ltb-true, ltb-false, lt-ltb, le-ltb}
use Rattle.folds.proofs.Cases.{by, either, last_or}
use Rattle.division_table.specs.Division.{Pick, none, some, better, given}
use Rattle.division_table.specs.Promises.{best_below}

module _ {A : Type 0} where
  pub some_none : {c : ℕ} {l : A} → none ≡ some c l → ⊥
  some_none e = let z : ◌≡◌ {A = ℕ} 0 1 = cc in omega arith

  pub better_none : (p : Pick A) → better p none ≡ p
  better_none none = refl
  better_none (some c l) = refl

  pub better_assoc : (p q r : Pick A) → better (better p q) r ≡ better p (better q r)
  better_assoc none q r = refl
  better_assoc (some a k) none r = refl
  better_assoc (some a k) (some b l) none = better_none (better (some a k) (some b l))
  better_assoc (some a k) (some b l) (some c m) =
      by (ltb b a)
      (λ e. by (ltb c b) (λ d. let h : ltb c a ≡ true = lt-ltb c a (omega (arith, ltb-true b a e, ltb-true c b d)) in cc) (λ d. cc))
      (λ e. by (ltb c b) (λ d. cc) (λ d. let h : ltb c a ≡ false = le-ltb c a (omega (arith, ltb-false b a e, ltb-false c b d)) in cc))

  -- it is one of the two
  pub better_is : (p q : Pick A) → (better p q ≡ p) ⊎ (better p q ≡ q)
  better_is none q = inr refl
  better_is (some c l) none = inl refl
  better_is (some c l) (some d m) = by (ltb d c) (λ e. inr (cc)) (λ e. inl (cc))

  pub given-better : (b : Bool) (p q : Pick A) → given b (better p q) ≡ better (given b p) (given b q)
  given-better true p q = refl
  given-better false p q = refl

  pub given_none : (b : Bool) → given {A = A} b none ≡ none
  given_none true = refl
  given_none false = refl

  pub given_and : (a b : Bool) (p : Pick A) → given a (given b p) ≡ given (a && b) p
  given_and true b p = refl
  given_and false b p = refl

  -- it is one of the family
  pub best_at : (n : ℕ) (f : ℕ → Pick A) (c : ℕ) (l : A) → best_below n f ≡ some c l → (x : ℕ) × (x < n) × (f x ≡ some c l)
  unfolding best_below
  best_at zero f c l e = absurd (some_none e)
  best_at (suc n) f c l e =
      either (better_is (best_below n f) (f n))
      (λ h. let r = best_at n f c l (sym h ∙ e) in (r.0, omega arith, r.2))
      (λ h. (n, omega arith, sym h ∙ e))

  -- no member is below it
  better_left : (p q : Pick A) (c : ℕ) (l : A) → p ≡ some c l → (b : ℕ) × (m : A) × (better p q ≡ some b m) × (b ≤ c)
  better_left none q c l e = absurd (some_none e)
  better_left (some a k) none c l e = (c, l, e, omega arith)
  better_left (some a k) (some d m) c l e =
      let z : a ≡ c = cc in
      by (ltb d a) (λ t. (d, m, cc, omega (arith, ltb-true d a t))) (λ t. (a, k, cc, omega arith))

  better_right : (p q : Pick A) (c : ℕ) (l : A) → q ≡ some c l → (b : ℕ) × (m : A) × (better p q ≡ some b m) × (b ≤ c)
  better_right none q c l e = (c, l, e, omega arith)
  better_right (some a k) none c l e = absurd (some_none e)
  better_right (some a k) (some d m) c l e =
      let z : d ≡ c = cc in
      by (ltb d a) (λ t. (d, m, cc, omega arith)) (λ t. (a, k, cc, omega (arith, ltb-false d a t)))

  best_under : (n : ℕ) (f : ℕ → Pick A) (z d : ℕ) (m : A) → z < n → f z ≡ some d m → (c : ℕ) × (l : A) × (best_below n f ≡ some c l) × (c ≤ d)
  unfolding best_below
  best_under zero f z d m h e = absurd (omega arith)
  best_under (suc n) f z d m h e =
      either (last_or h)
      (λ q. better_right (best_below n f) (f n) d m (rw q at e))
      (λ k.
      let (c, l, r, o) = best_under n f z d m k e in
      let (b, x, s, i) = better_left (best_below n f) (f n) c l r in
      (b, x, s, omega arith))

  -- it is one of the family, and those before it are above it
  pub best_first : (n : ℕ) (f : ℕ → Pick A) (c : ℕ) (l : A) → best_below n f ≡ some c l → (x : ℕ) × (x < n) × (f x ≡ some c l) × ((z d : ℕ) (m : A) → z < x → f z ≡ some d m → c < d)
  unfolding best_below
  best_first zero f c l e = absurd (some_none e)
  best_first (suc n) f c l e = go (best_below n f) (f n) refl refl e (λ r. let (x, h, s, i) = best_first n f c l r in (x, omega arith, s, i))
    where
      First : Type 0
      First = (x : ℕ) × (x < suc n) × (f x ≡ some c l) × ((z d : ℕ) (m : A) → z < x → f z ≡ some d m → c < d)

      go : (p q : Pick A) → best_below n f ≡ p → f n ≡ q → better p q ≡ some c l → (best_below n f ≡ some c l → First) → First
      go none q r s b before =
          (n, omega arith, s ∙ b, λ z d m h i. let (a, k, o, _) = best_under n f z d m h i in absurd (some_none (sym r ∙ o)))
      go (some a k) none r s b before = before (r ∙ b)
      go (some a k) (some o m) r s b before =
          by (ltb o a)
          (λ t.
          let e : o ≡ c = cc in
          (n, omega arith, (cc), λ z d i h j. let (u, v, w, y) = best_under n f z d i h j in let x : a ≡ u = cc in omega (arith, ltb-true o a t)))
          (λ t. before (r ∙ (cc)))

  pub best_ext : (n : ℕ) (f h : ℕ → Pick A) → ((x : ℕ) → x < n → f x ≡ h x) → best_below n f ≡ best_below n h
  unfolding best_below
  best_ext zero f h e = refl
  best_ext (suc n) f h e = ap₂ better (best_ext n f h (λ x l. e x (omega arith))) (e n (omega arith))
