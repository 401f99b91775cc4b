-- Words of bits: the lowest set bit, and a bit set or cleared.
use Prim.Native.Nat.{ℕ, zero, suc, ◌+◌, ◌*◌, ◌/◌, ◌%◌, ◌^◌, ◌≤◌, ◌<◌, suc-le-suc, max}
use mathlib.Core.Path.{◌≡◌, refl, sym, ap, ap₂, ◌∙◌}
use mathlib.Core.Bool.{Bool, true, false}
use native.Mathlib.Nat.{not-suc-le-zero, le_of_suc-le-suc, eq-or-lt_of_le, pow-suc, mul-div_cancel, mul-mod_left, suc_inj}
use native.Mathlib.Omega.{arith}
use lib.Arith.{digits_div, digits_mod}
use lib.Bits.{bit_or, bit_xor, or_step, xor_step, or_zero_r, xor_zero_r, differ}
use lib.Count.{count_trailing_zeros, under}
use Rattle.folds.specs.Fold.{when, first_to}
use Rattle.folds.proofs.Cases.{by, either, mark_yes, mark_no}
use Rattle.folds.proofs.Searches.{first_to_zero, first_to_found, first_to_le, first_to_hit, first_to_below, first_to_none, first_to_all}
use Rattle.pool.specs.Pool.{word}

when_low : (t : Bool) → when t 1 < 2
when_low true = omega arith
when_low false = omega arith

when_one : (t u : Bool) → when t 1 ≡ when u 1 → t ≡ u
when_one true u e = sym (mark_yes e (λ z. omega arith))
when_one false u e = sym (mark_no e refl)

word_half : (k : ℕ) (p : ℕ → Bool) → word (suc k) p / 2 ≡ word k (λ i. p (suc i))
unfolding word
word_half k p = digits_div (word k (λ i. p (suc i))) (when_low (p 0))

word_odd : (k : ℕ) (p : ℕ → Bool) → word (suc k) p % 2 ≡ when (p 0) 1
unfolding word
word_odd k p = digits_mod (word k (λ i. p (suc i))) (when_low (p 0))

join : {a b x y : ℕ} → a ≡ b → x ≡ y → a * 2 + x ≡ b * 2 + y
join e h = ap₂ (λ (a x : ℕ). a * 2 + x) e h

pub word_ext : (k : ℕ) (p q : ℕ → Bool) → ((i : ℕ) → i < k → p i ≡ q i) → word k p ≡ word k q
unfolding word
word_ext zero p q h = refl
word_ext (suc k) p q h = join (word_ext k _ _ (λ i l. h (suc i) (suc-le-suc l))) (ap (λ (t : Bool). when t 1) (h 0 (omega arith)))

pub word_none : (k : ℕ) (p : ℕ → Bool) → ((i : ℕ) → i < k → p i ≡ false) → word k p ≡ 0
unfolding word
word_none zero p h = refl
word_none (suc k) p h = join (word_none k _ (λ i l. h (suc i) (suc-le-suc l))) (ap (λ (t : Bool). when t 1) (h 0 (omega arith)))

-- a word tells its bits
pub word_bit : (k : ℕ) (p q : ℕ → Bool) → word k p ≡ word k q → (i : ℕ) → i < k → p i ≡ q i
word_bit zero p q e i l = absurd (not-suc-le-zero l)
word_bit (suc k) p q e zero l = when_one (p 0) (q 0) (sym (word_odd k p) ∙ ap (λ (x : ℕ). x % 2) e ∙ word_odd k q)
word_bit (suc k) p q e (suc i) l =
    word_bit k (λ x. p (suc x)) (λ x. q (suc x)) (sym (word_half k p) ∙ ap (λ (x : ℕ). x / 2) e ∙ word_half k q) i (le_of_suc-le-suc l)

pub none_word : (k : ℕ) (p : ℕ → Bool) → word k p ≡ 0 → (i : ℕ) → i < k → p i ≡ false
none_word k p e = word_bit k p (λ _. false) (e ∙ sym (word_none k (λ _. false) (λ _ _. refl)))

pub some_first : (k : ℕ) (p : ℕ → Bool) → (word k p ≡ 0 → ⊥) → first_to k p < k
some_first k p n = either (eq-or-lt_of_le (first_to_le k p)) (λ e. absurd (n (word_none k p (first_to_none k p e)))) (λ l. l)

first_later : (k : ℕ) (p : ℕ → Bool) → p 0 ≡ false → first_to (suc k) p ≡ suc (first_to k (λ i. p (suc i)))
first_later k p z =
    either (eq-or-lt_of_le (first_to_le k (λ i. p (suc i))))
    (λ e. first_to_all (suc k) p (below (suc k) (omega arith)) ∙ ap suc (sym e))
    (λ l. first_to_found (suc k) _ p (first_to_all _ p (below _ (omega arith))) (first_to_hit k (λ i. p (suc i)) l) (omega arith))
  where
    below : (n : ℕ) → n ≤ suc (first_to k (λ i. p (suc i))) → (i : ℕ) → i < n → p i ≡ false
    below n h zero l = z
    below n h (suc i) l = first_to_below k (λ i. p (suc i)) i (omega arith)

-- the place of the lowest set bit
pub zeros_word : (k m : ℕ) (p : ℕ → Bool) → k ≤ m → first_to k p < k → count_trailing_zeros m (word k p) ≡ first_to k p
unfolding count_trailing_zeros
zeros_word zero m p l h = absurd (not-suc-le-zero h)
zeros_word (suc k) zero p l h = absurd (not-suc-le-zero l)
zeros_word (suc k) (suc m) p l h =
    ap₂ (λ (d x : ℕ). under d (count_trailing_zeros m x)) (word_odd k p) (word_half k p)
    ∙ by (p 0) (λ t. rw t (sym (first_to_found (suc k) 0 p (first_to_zero p) t (omega arith))))
    (λ f. let q = first_later k p f in rw f (ap suc (zeros_word k m (λ i. p (suc i)) (le_of_suc-le-suc l) (omega arith)) ∙ sym q))

-- bit i of a power of 2
pow_half : (i : ℕ) → 2 ^ suc i / 2 ≡ 2 ^ i
pow_half i = rw (pow-suc 2 i) (mul-div_cancel (2 ^ i) (omega arith))

pow_odd : (i : ℕ) → 2 ^ suc i % 2 ≡ 0
pow_odd i = rw (pow-suc 2 i) (mul-mod_left (2 ^ i) 2)

max_one : (t : Bool) → max (when t 1) 1 ≡ 1
max_one true = refl
max_one false = refl

max_none : (t : Bool) → max (when t 1) 0 ≡ when t 1
max_none true = refl
max_none false = refl

-- bit i set
pub word_or : (k i : ℕ) (p q : ℕ → Bool) → i < k → q i ≡ true → ((x : ℕ) → x < k → (x ≡ i → ⊥) → q x ≡ p x) → bit_or (word k p) (2 ^ i) ≡ word k q
unfolding word
word_or zero i p q l t h = absurd (not-suc-le-zero l)
word_or (suc k) zero p q l t h =
    or_step (word (suc k) p) 1
    ∙ join
    (ap (λ (x : ℕ). bit_or x 0) (word_half k p) ∙ or_zero_r (word k (λ i. p (suc i))) ∙ word_ext k _ _ (λ i g. sym (h (suc i) (suc-le-suc g) (λ e. omega arith))))
    (ap (λ (x : ℕ). max x 1) (word_odd k p) ∙ max_one (p 0) ∙ ap (λ (t : Bool). when t 1) (sym t))
word_or (suc k) (suc i) p q l t h =
    or_step (word (suc k) p) (2 ^ suc i)
    ∙ join
    (ap₂ bit_or (word_half k p) (pow_half i) ∙ word_or k i (λ x. p (suc x)) (λ x. q (suc x)) (le_of_suc-le-suc l) t (λ x g n. h (suc x) (suc-le-suc g) (λ e. n (suc_inj e))))
    (ap₂ max (word_odd k p) (pow_odd i) ∙ max_none (p 0) ∙ ap (λ (t : Bool). when t 1) (sym (h 0 (omega arith) (λ e. omega arith))))

differ_none : (t : Bool) → differ (when t 1) 0 ≡ when t 1
differ_none true = refl
differ_none false = refl

-- bit i cleared
pub word_xor : (k i : ℕ) (p q : ℕ → Bool) → i < k → p i ≡ true → q i ≡ false → ((x : ℕ) → x < k → (x ≡ i → ⊥) → q x ≡ p x) → bit_xor (word k p) (2 ^ i) ≡ word k q
unfolding word
word_xor zero i p q l s t h = absurd (not-suc-le-zero l)
word_xor (suc k) zero p q l s t h =
    xor_step (word (suc k) p) 1
    ∙ join
    (ap (λ (x : ℕ). bit_xor x 0) (word_half k p) ∙ xor_zero_r (word k (λ i. p (suc i))) ∙ word_ext k _ _ (λ i g. sym (h (suc i) (suc-le-suc g) (λ e. omega arith))))
    (ap (λ (x : ℕ). differ x 1) (word_odd k p ∙ ap (λ (t : Bool). when t 1) s) ∙ ap (λ (t : Bool). when t 1) (sym t))
word_xor (suc k) (suc i) p q l s t h =
    xor_step (word (suc k) p) (2 ^ suc i)
    ∙ join
    (ap₂ bit_xor (word_half k p) (pow_half i) ∙ word_xor k i (λ x. p (suc x)) (λ x. q (suc x)) (le_of_suc-le-suc l) s t (λ x g n. h (suc x) (suc-le-suc g) (λ e. n (suc_inj e))))
    (ap₂ differ (word_odd k p) (pow_odd i) ∙ differ_none (p 0) ∙ ap (λ (t : Bool). when t 1) (sym (h 0 (omega arith) (λ e. omega arith))))
