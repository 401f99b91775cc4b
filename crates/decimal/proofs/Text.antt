-- What the readers answer, of the text: a number is read exactly where it is printed.
use Prim.Native.Nat.{ℕ, zero, suc, ◌+◌, ◌-◌, ◌*◌, ◌/◌, ◌%◌, ◌≤◌, ◌<◌}
use mathlib.Core.Path.{◌≡◌, refl, sym, ap, ap₂, ◌∙◌}
use mathlib.Core.Bool.{Bool, true, false, not}
use mathlib.Core.Logic.{⊎_elim, ◌⊎◌, inl, inr}
use mathlib.Core.List.{List, [], ◌∷◌, ◌++◌}
use native.Mathlib.Nat.{not-suc-le-zero}
use native.Mathlib.Omega.{arith}
use lib.Dec.{ltb, leb, eqb}
use lib.ListN.{length, drop, length-append, length-drop}
use lib.Seq.{append_snoc, drop-drop, drop_at}
use borrow.Author.Tests.{eq-eqb, ne_eqb, lt-ltb, le-ltb, le-leb, ltb-true, ltb-false, leb-false, eqb-true, eqb-false}
use Rattle.folds.specs.Fold.{pick}
use Rattle.folds.proofs.Cases.{no_bool, by}
use Rattle.folds.proofs.Cases.{chose}
use Rattle.decimal.specs.Decimal.{digits, decimal, digit, numbers, numbers_in}
use Rattle.decimal.specs.Read.{Is, Not, more_of, number_of, starts_of, field_of}

-- ---------------------------------------------------------------- printing
-- the fuel of the digits does not matter where it is enough
digits_enough : (k m v : ℕ) → v < k → v < m → digits k v ≡ digits m v
unfolding digits
digits_enough zero m v h g = absurd (not-suc-le-zero h)
digits_enough (suc k) zero v h g = absurd (not-suc-le-zero g)
digits_enough (suc k) (suc m) v h g = go (ltb v 10) refl (digits_enough k m (v / 10))
  where
    go : (t : Bool) → ltb v 10 ≡ t → (v / 10 < k → v / 10 < m → digits k (v / 10) ≡ digits m (v / 10))
        → pick t ((48 + v) ∷ []) (digits k (v / 10) ++ ((48 + v % 10) ∷ [])) ≡ pick t ((48 + v) ∷ []) (digits m (v / 10) ++ ((48 + v % 10) ∷ []))
    go true e ih = refl
    go false e ih = let l = ltb-false v 10 e in rw (ih (omega arith) (omega arith))

pub decimal_one : (d : ℕ) → d < 10 → decimal d ≡ (48 + d) ∷ []
unfolding decimal digits
decimal_one d h = rw (lt-ltb _ _ h)

pub decimal_more : (v d : ℕ) → 0 < v → d < 10 → decimal (v * 10 + d) ≡ decimal v ++ ((48 + d) ∷ [])
unfolding decimal digits
decimal_more v d h g =
    let a : (v * 10 + d) / 10 ≡ v = omega arith in
    let b : (v * 10 + d) % 10 ≡ d = omega arith in
    let l : 10 ≤ v * 10 + d = omega arith in
    rw (le-ltb _ _ l, a, b, digits_enough (v * 10 + d) (suc v) v (omega arith) (omega arith))

-- what holds of one digit and of one digit more holds of every number
pub by_digits : (P : ℕ → Type 0) → ((d : ℕ) → d < 10 → P d) → ((v : ℕ) → 10 ≤ v → P (v / 10) → P v) → (v : ℕ) → P v
by_digits P one more v = go (suc v) v (omega arith)
  where
    go : (k w : ℕ) → w < k → P w
    go zero w h = absurd (not-suc-le-zero h)
    go (suc k) w h = by (ltb w 10) (λ e. one w (ltb-true _ _ e)) (λ e. let l = ltb-false w 10 e in more w l (go k (w / 10) (omega arith)))

pub decimal_long : (v : ℕ) → 10 ≤ v → decimal v ≡ decimal (v / 10) ++ ((48 + v % 10) ∷ [])
decimal_long v h = let q : v / 10 * 10 + v % 10 ≡ v = omega arith in rw q at (decimal_more (v / 10) (v % 10) (omega arith) (omega arith))

pub length_one : (v : ℕ) → v < 10 → length (decimal v) ≡ 1
length_one v h = rw (decimal_one v h)

pub length_long : (v : ℕ) → 10 ≤ v → length (decimal v) ≡ length (decimal (v / 10)) + 1
length_long v h = rw (decimal_long v h) (length-append (decimal (v / 10)) ((48 + v % 10) ∷ []))

-- a higher number has no fewer digits
pub decimal_mono : (w v : ℕ) → v ≤ w → length (decimal v) ≤ length (decimal w)
decimal_mono = by_digits (λ (w : ℕ). (v : ℕ) → v ≤ w → length (decimal v) ≤ length (decimal w))
    (λ d h v l. omega (arith, length_one d h, length_one v (omega arith)))
    (λ w h ih v l.
    by (ltb v 10) (λ e. omega (arith, length_one v (ltb-true _ _ e), length_long w h))
    (λ e. omega (arith, length_long v (ltb-false _ _ e), length_long w h, ih (v / 10) (omega arith))))

-- ---------------------------------------------------------------- digits
pub digit_is : (d : ℕ) → d < 10 → digit (48 + d) ≡ true
unfolding digit
digit_is d h = rw (le-ltb (48 + d) 48 (omega arith), le-leb (48 + d) 57 (omega arith))

no_digit : (b : ℕ) → digit b ≡ false → (ltb b 48 ≡ true) ⊎ ((ltb b 48 ≡ false) × (ltb 57 b ≡ true))
unfolding digit
no_digit b e = go (chose (ltb b 48) false (leb b 57) false e)
  where
    go : ((ltb b 48 ≡ true) × (false ≡ false)) ⊎ ((ltb b 48 ≡ false) × (leb b 57 ≡ false)) → (ltb b 48 ≡ true) ⊎ ((ltb b 48 ≡ false) × (ltb 57 b ≡ true))
    go (inl x) = inl x.0
    go (inr x) = inr (x.0, lt-ltb _ _ (leb-false b 57 x.1))

-- whether s begins with no digit
abbrev pub stops : List ℕ → Bool
stops [] = true
stops (b ∷ s) = not (digit b)

not_digit : (b : ℕ) → not (digit b) ≡ true → digit b ≡ false
not_digit b e = go (digit b) e
  where
    go : (t : Bool) → not t ≡ true → t ≡ false
    go true h = absurd (no_bool h)
    go false h = refl

-- ---------------------------------------------------------------- the numbers that stand in a text
numbers_digit : (o : Bool) (v d : ℕ) (s : List ℕ) → d < 10 → numbers o v ((48 + d) ∷ s) ≡ numbers true (v * 10 + d) s
unfolding numbers
numbers_digit o v d s h = let q : 48 + d - 48 ≡ d = omega arith in rw (digit_is d h, numbers, q)

numbers_other : (o : Bool) (v b : ℕ) (s : List ℕ) → digit b ≡ false → numbers o v (b ∷ s) ≡ pick o (v ∷ []) [] ++ numbers false 0 s
unfolding numbers
numbers_other o v b s h = rw (h, numbers)

numbers_read : (v : ℕ) (s : List ℕ) → numbers false 0 (decimal v ++ s) ≡ numbers true v s
numbers_read v = by_digits (λ (w : ℕ). (s : List ℕ) → numbers false 0 (decimal w ++ s) ≡ numbers true w s)
    (λ d h s. let z : 0 + d ≡ d = omega arith in rw (decimal_one d h) (rw z at (numbers_digit false 0 d s h)))
    (λ w h ih s. let q : w / 10 * 10 + w % 10 ≡ w = omega arith in
    rw (decimal_long w h, append_snoc) (ih ((48 + w % 10) ∷ s) ∙ (rw q at (numbers_digit true (w / 10) (w % 10) s (omega arith)))))
    v

numbers_end : (v : ℕ) (s : List ℕ) → stops s ≡ true → numbers true v s ≡ v ∷ numbers false 0 s
unfolding numbers
numbers_end v [] e = refl
numbers_end v (b ∷ s) e = let h = not_digit b e in numbers_other true v b s h ∙ ap (λ (l : List ℕ). v ∷ l) (sym (numbers_other false 0 b s h))

-- reading back the digits of a number gives the number
pub numbers_decimal : (v : ℕ) (s : List ℕ) → stops s ≡ true → numbers_in (decimal v ++ s) ≡ v ∷ numbers_in s
unfolding numbers_in
numbers_decimal v s e = numbers_read v s ∙ numbers_end v s e

-- bytes that are no digits are passed over
pub numbers_skip : (b : ℕ) (s : List ℕ) → digit b ≡ false → numbers_in (b ∷ s) ≡ numbers_in s
unfolding numbers_in
numbers_skip b s h = numbers_other false 0 b s h

-- ---------------------------------------------------------------- the reader of a number
not_is : (v i : ℕ) → Not ≡ Is v i → ⊥
not_is v i e = let z : ◌≡◌ {A = ℕ} 0 1 = cc in omega arith

-- s, at place i, begins with v in base ten and no further digit; j is the place past it
pub record Begins (most i : ℕ) (s : List ℕ) (v j : ℕ) : Type 0 where
  pub width : ℕ
  pub next : j ≡ i + width
  pub is : s ≡ decimal v ++ drop width s
  pub low : v ≤ most

-- after the digits of v, s has those of w
record After (most v i : ℕ) (s : List ℕ) (w j : ℕ) : Type 0 where
  width : ℕ
  next : j ≡ i + width
  is : decimal v ++ s ≡ decimal w ++ drop width s
  low : w ≤ most

after_none : (most v i : ℕ) (s : List ℕ) (w j : ℕ) → v ≤ most → Is v i ≡ Is w j → After most v i s w j
after_none most v i s w j h e =
    let p : ◌≡◌ {A = ℕ × ℕ} (v, i) (w, j) = cc in
    let a : v ≡ w = ap (λ (x : ℕ × ℕ). x.0) p in
    let b : i ≡ j = ap (λ (x : ℕ × ℕ). x.1) p in
    record { width = 0; next = omega arith; is = rw a; low = omega arith }

after_digit : (most v i b : ℕ) (s : List ℕ) (w j : ℕ) → 48 ≤ b → b ≤ 57 → (v ≡ 0 → ⊥) → After most (v * 10 + (b - 48)) (i + 1) s w j → After most v i (b ∷ s) w j
after_digit most v i b s w j h g z a =
    let q : 48 + (b - 48) ≡ b = omega arith in
    record {
      width = suc a.width;
      next = omega arith;
      is = sym (append_snoc (decimal v) b s) ∙ (rw (decimal_more v (b - 48) (omega arith) (omega arith), q) at a.is);
      low = a.low;
    }

more_sound : (most v i : ℕ) (s : List ℕ) (w j : ℕ) → v ≤ most → more_of most v i s ≡ Is w j → After most v i s w j
unfolding more_of
more_sound most v i [] w j h e = after_none most v i [] w j h e
more_sound most v i (b ∷ s) w j h e =
    let ih = more_sound most (v * 10 + (b - 48)) (i + 1) s w j in
    ⊎_elim (λ p. after_none most v i (b ∷ s) w j h p.1)
    (λ p. ⊎_elim (λ q. after_none most v i (b ∷ s) w j h q.1)
    (λ q. ⊎_elim (λ r. absurd (not_is w j r.1))
    (λ r. ⊎_elim (λ o. absurd (not_is w j o.1))
    (λ o. after_digit most v i b s w j (ltb-false _ _ p.0) (ltb-false _ _ q.0) (eqb-false _ _ r.0) (ih (ltb-false _ _ o.0) o.1))
    (chose _ _ _ _ r.1))
    (chose _ _ _ _ q.1))
    (chose _ _ _ _ p.1))
    (chose _ _ _ _ e)

begins_digit : (most i b : ℕ) (s : List ℕ) (v j : ℕ) → 48 ≤ b → b ≤ 57 → After most (b - 48) (i + 1) s v j → Begins most i (b ∷ s) v j
begins_digit most i b s v j g f a =
    let z : 48 + (b - 48) ≡ b = omega arith in
    record { width = suc a.width; next = omega arith; is = rw (decimal_one (b - 48) (omega arith), z) at a.is; low = a.low }

pub number_sound : (most i : ℕ) (s : List ℕ) (v j : ℕ) → 9 ≤ most → number_of most i s ≡ Is v j → Begins most i s v j
unfolding number_of
number_sound most i [] v j h e = absurd (not_is v j e)
number_sound most i (b ∷ s) v j h e =
    ⊎_elim (λ p. absurd (not_is v j p.1))
    (λ p. ⊎_elim (λ q. absurd (not_is v j q.1))
    (λ q. let g = ltb-false b 48 p.0 in
    let f = ltb-false 57 b q.0 in
    begins_digit most i b s v j g f (more_sound most (b - 48) (i + 1) s v j (omega arith) q.1))
    (chose _ _ _ _ p.1))
    (chose _ _ _ _ e)

more_stops : (most v i : ℕ) (s : List ℕ) → stops s ≡ true → more_of most v i s ≡ Is v i
unfolding more_of
more_stops most v i [] e = refl
more_stops most v i (b ∷ s) e = ⊎_elim (λ p. rw p) (λ p. rw (p.0, p.1)) (no_digit b (not_digit b e))

more_digit : (most v i d : ℕ) (s : List ℕ) → 0 < v → d < 10 → v * 10 + d ≤ most → more_of most v i ((48 + d) ∷ s) ≡ more_of most (v * 10 + d) (i + 1) s
unfolding more_of
more_digit most v i d s h g l =
    let q : 48 + d - 48 ≡ d = omega arith in
    rw (le-ltb (48 + d) 48 (omega arith), le-ltb 57 (48 + d) (omega arith), ne_eqb v 0 (λ z. omega arith), q, le-ltb _ _ l)

number_digit : (most i d : ℕ) (s : List ℕ) → d < 10 → number_of most i ((48 + d) ∷ s) ≡ more_of most d (i + 1) s
unfolding number_of
number_digit most i d s g =
    let q : 48 + d - 48 ≡ d = omega arith in
    rw (le-ltb (48 + d) 48 (omega arith), le-ltb 57 (48 + d) (omega arith), q)

number_read : (most i v : ℕ) (s : List ℕ) → v ≤ most → number_of most i (decimal v ++ s) ≡ more_of most v (i + length (decimal v)) s
number_read most i v = by_digits (λ (w : ℕ). (s : List ℕ) → w ≤ most → number_of most i (decimal w ++ s) ≡ more_of most w (i + length (decimal w)) s)
    (λ d h s l. rw (decimal_one d h) (number_digit most i d s h))
    (λ w h ih s l.
    let q : w / 10 * 10 + w % 10 ≡ w = omega arith in
    let m = more_digit most (w / 10) (i + length (decimal (w / 10))) (w % 10) s (omega arith) (omega arith) (omega arith) in
    let n : i + length (decimal (w / 10)) + 1 ≡ i + length (decimal (w / 10) ++ ((48 + w % 10) ∷ [])) = simp length-append (omega arith) in
    rw (decimal_long w h, append_snoc) (ih ((48 + w % 10) ∷ s) (omega arith) ∙ (rw (q, n) at m)))
    v

pub number_own : (v most i : ℕ) (s : List ℕ) → v ≤ most → stops s ≡ true → number_of most i (decimal v ++ s) ≡ Is v (i + length (decimal v))
number_own v most i s l e = number_read most i v s l ∙ more_stops _ _ _ _ e

-- ---------------------------------------------------------------- a word
pub starts_sound : (p s : List ℕ) → starts_of p s ≡ true → s ≡ p ++ drop (length p) s
unfolding starts_of
starts_sound [] s e = refl
starts_sound (a ∷ p) [] e = absurd (no_bool e)
starts_sound (a ∷ p) (b ∷ s) e =
    ⊎_elim (λ h. ap₂ ◌∷◌ (eqb-true b a h.0) (starts_sound p s h.1)) (λ h. absurd (no_bool h.1)) (chose (eqb b a) _ _ _ e)

pub starts_own : (p s : List ℕ) → starts_of p (p ++ s) ≡ true
unfolding starts_of
starts_own [] s = refl
starts_own (a ∷ p) s = rw (eq-eqb a a refl) (starts_own p s)

-- a word that stands at a place is within the text
pub starts_within : (p t : List ℕ) (i : ℕ) → starts_of p (drop i t) ≡ true → length p ≤ length t - i
starts_within p t i e =
    omega (arith, ap length (starts_sound p (drop i t) e), length-append p (drop (length p) (drop i t)), length-drop i t)

-- what follows p
pub past : (p s t : List ℕ) (i : ℕ) → drop i t ≡ p ++ s → drop (i + length p) t ≡ s
past p s t i q = sym (drop-drop (length p) i t) ∙ (ap (drop (length p)) q ∙ drop_at p s (length p) refl)

-- ---------------------------------------------------------------- a word and a number
pub field_sound : (p : List ℕ) (most : ℕ) (t : List ℕ) (i v j : ℕ) → 9 ≤ most → field_of p most t i ≡ Is v j → (drop i t ≡ p ++ (decimal v ++ drop j t)) × (v ≤ most)
unfolding field_of
field_sound p most t i v j m h = ⊎_elim (λ a. at a.0 (number_sound most (i + length p) _ v j m a.1)) (λ a. absurd (not_is v j a.1)) (chose _ _ _ _ h)
  where
    at : starts_of p (drop i t) ≡ true → Begins most (i + length p) (drop (i + length p) t) v j → (drop i t ≡ p ++ (decimal v ++ drop j t)) × (v ≤ most)
    at a b =
        let d : drop b.width (drop (i + length p) t) ≡ drop j t = drop-drop b.width (i + length p) t ∙ ap (λ (k : ℕ). drop k t) (sym b.next) in
        let n : drop (length p) (drop i t) ≡ decimal v ++ drop j t = drop-drop (length p) i t ∙ (rw d at b.is) in
        (rw n at (starts_sound p (drop i t) a), b.low)

pub field_own : (p : List ℕ) (most : ℕ) (t : List ℕ) (i v : ℕ) (s : List ℕ) → v ≤ most → stops s ≡ true → drop i t ≡ p ++ (decimal v ++ s) → field_of p most t i ≡ Is v (i + length p + length (decimal v))
unfolding field_of
field_own p most t i v s l h q =
    rw (q, starts_own p (decimal v ++ s), past p _ t i q, number_own v most (i + length p) s l h)
