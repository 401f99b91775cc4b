-- The readers from what the code's branches say, at the code's places.
use Prim.Native.Nat.{ℕ, min, ◌+◌, ◌-◌, ◌*◌, ◌≤◌, ◌<◌}
use mathlib.Core.Path.{◌≡◌, sym, ap, ◌∙◌}
use mathlib.Core.Bool.{Bool, true, false, ◌&&◌}
use mathlib.Core.List.{List, [], ◌∷◌}
use lib.ListN.{length, get_or, drop, take, drop_of_length-le}
use borrow.Author.Tests.{eq-eqb, ne_eqb, lt-ltb, le-ltb, ltb-true, ltb-false, eqb-true, eqb-false}
use mathlib.Core.Logic.{⊎_elim, ◌⊎◌}
use Rattle.std.proofs.Common.{rules, arith}
use Rattle.std.specs.Char.{is_ascii_digit}
use Rattle.std.specs.List.{starts_with}
use Rattle.std.proofs.lemmas.List.{take_rest}
use Rattle.folds.proofs.Cases.{by}
use lib.Dec.{eqb, ltb}
use mathlib.Core.Path.{refl}
use Rattle.folds.specs.Fold.{pick}
use Rattle.folds.proofs.Lists.{left_cons}
use Rattle.decimal.specs.Read.{Number, Is, Not, more_of, number_of, starts_of}
use Rattle.decimal.proofs.Text.{starts_within}

pub left_none : (t : List ℕ) (i : ℕ) → length t ≤ i → drop i t ≡ []
left_none t i h = drop_of_length-le t h

-- the slice's own test of a word
starts_same : (p s : List ℕ) → starts_with eqb s p ≡ starts_of p s
unfolding starts_of
starts_same [] s = refl
starts_same (a ∷ p) [] = refl
starts_same (a ∷ p) (b ∷ s) = go (eqb a b) (eqb b a) refl refl (starts_same p s)
  where
    go : (x y : Bool) → eqb a b ≡ x → eqb b a ≡ y → starts_with eqb s p ≡ starts_of p s → x && starts_with eqb s p ≡ pick y (starts_of p s) false
    go true true e f ih = ih
    go true false e f ih = absurd (eqb-false b a f (sym (eqb-true a b e)))
    go false true e f ih = absurd (eqb-false a b e (sym (eqb-true b a f)))
    go false false e f ih = refl

left_same : (t : List ℕ) (i m : ℕ) → m ≡ min i (length t) → drop m t ≡ drop i t
left_same t i m e =
    by (ltb i (length t)) (λ h. let l = ltb-true _ _ h in let q : m ≡ i = omega arith in rw q)
    (λ h. let l = ltb-false _ _ h in left_none t m (omega arith) ∙ sym (left_none t i l))

pub starts_left : (t p : List ℕ) (i m : ℕ) (r : Bool) → m ≡ min i (length t) → r ≡ starts_with eqb (take (length t - m) (drop m t)) p → r ≡ starts_of p (drop i t)
starts_left t p i m r e h = h ∙ (ap (λ (s : List ℕ). starts_with eqb s p) (take_rest t m ∙ left_same t i m e) ∙ starts_same p (drop i t))

-- the two sides of std's test of a digit
pub digit_within : (b : ℕ) (r : Bool) → r ≡ is_ascii_digit b → r ≡ true → (48 ≤ b) × (b ≤ 57)
digit_within b r e h = search (rules, arith)

pub digit_outside : (b : ℕ) (r : Bool) → r ≡ is_ascii_digit b → r ≡ false → (b < 48) ⊎ (57 < b)
digit_outside b r e h = search (rules, arith)

module _ (most v i : ℕ) (t : List ℕ) (r : Number) (e : more_of most v i (drop i t) ≡ r) where
  pub more_end : length t ≤ i → Is v i ≡ r
  unfolding more_of
  more_end h = rw (left_none t i h) at e

  pub more_whole : i ≡ length t → Is v (length t) ≡ r
  more_whole h = rw (← h) (more_end (omega arith))

  module _ (h : i < length t) where
    pub more_stop : (d : Bool) → d ≡ is_ascii_digit (get_or t i 0) → d ≡ false → Is v i ≡ r
    unfolding more_of
    more_stop d w n =
        ⊎_elim (λ (l : get_or t i 0 < 48). rw (left_cons t i 0 h, lt-ltb _ _ l) at e)
        (λ (l : 57 < get_or t i 0). let g : 48 ≤ get_or t i 0 = omega arith in rw (left_cons t i 0 h, le-ltb _ _ g, lt-ltb _ _ l) at e)
        (digit_outside _ d w n)

    module _ (g : 48 ≤ get_or t i 0) where
      module _ (f : get_or t i 0 ≤ 57) where
        pub more_zero : v ≡ 0 → Not ≡ r
        unfolding more_of
        more_zero z = rw (left_cons t i 0 h, le-ltb _ _ g, le-ltb _ _ f, eq-eqb _ _ z) at e

        module _ (z : v ≡ 0 → ⊥) (x : ℕ) (q : x ≡ get_or t i 0 - 48) where
          pub more_over : most < v * 10 + x → Not ≡ r
          unfolding more_of
          more_over o = rw (left_cons t i 0 h, le-ltb _ _ g, le-ltb _ _ f, ne_eqb _ _ z, ← q, lt-ltb _ _ o) at e

          pub more_on : v * 10 + x ≤ most → more_of most (v * 10 + x) (i + 1) (drop (i + 1) t) ≡ r
          unfolding more_of
          more_on o = rw (left_cons t i 0 h, le-ltb _ _ g, le-ltb _ _ f, ne_eqb _ _ z, ← q, le-ltb _ _ o) at e

module _ (most i : ℕ) (t : List ℕ) where
  pub number_end : length t ≤ i → Not ≡ number_of most i (drop i t)
  unfolding number_of
  number_end h = rw (left_none t i h)

  module _ (h : i < length t) where
    pub number_none : (b : ℕ) (d : Bool) → b ≡ get_or t i b → d ≡ is_ascii_digit b → d ≡ false → Not ≡ number_of most i (drop i t)
    unfolding number_of
    number_none b d q w n =
        ⊎_elim (λ (l : b < 48). rw (left_cons t i b h, sym q, lt-ltb _ _ l))
        (λ (l : 57 < b). let g : 48 ≤ b = omega arith in rw (left_cons t i b h, sym q, le-ltb _ _ g, lt-ltb _ _ l))
        (digit_outside _ d w n)

    pub number_on : (b x : ℕ) (d : Bool) → b ≡ get_or t i b → d ≡ is_ascii_digit b → d ≡ true → x ≡ b - 48 → (r : Number) → r ≡ more_of most x (i + 1) (drop (i + 1) t) → r ≡ number_of most i (drop i t)
    unfolding number_of
    number_on b x d p w n q r e =
        let g = digit_within b d w n in
        rw (left_cons t i b h, sym p, le-ltb _ _ g.0, le-ltb _ _ g.1, ← q) e

-- p from k on, and t from i on
module _ (p t : List ℕ) (k i : ℕ) (r : Bool) (e : starts_of (drop k p) (drop i t) ≡ r) where
  module _ (h : k < length p) where
    pub starts_short : length t ≤ i → false ≡ r
    unfolding starts_of
    starts_short l = rw (left_cons p k 0 h, left_none t i l) at e

    pub starts_other : i < length t → (get_or t i 0 ≡ get_or p k 0 → ⊥) → false ≡ r
    unfolding starts_of
    starts_other l n = rw (left_cons p k 0 h, left_cons t i 0 l, ne_eqb _ _ n) at e

    pub starts_on : i < length t → get_or t i 0 ≡ get_or p k 0 → starts_of (drop (k + 1) p) (drop (i + 1) t) ≡ r
    unfolding starts_of
    starts_on l n = rw (left_cons p k 0 h, left_cons t i 0 l, eq-eqb _ _ n) at e

-- a word that was found is within the text
pub within : (p t : List ℕ) (i : ℕ) (b : Bool) → b ≡ starts_of p (drop i t) → b ≡ true → length p ≤ length t - i
within p t i b e h = starts_within p t i (sym e ∙ h)

-- a test by a callee went so, or so
pub test_yes : {A : Type 0} (b c : Bool) (x z r : A) → b ≡ c → b ≡ true → r ≡ x → r ≡ pick c x z
test_yes b c x z r e h q = rw (← e, h) q

pub test_no : {A : Type 0} (b c : Bool) (x z r : A) → b ≡ c → b ≡ false → r ≡ z → r ≡ pick c x z
test_no b c x z r e h q = rw (← e, h) q

pub ruleset tests = (test_yes, test_no)
