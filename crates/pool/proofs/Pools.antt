-- What is in a pool: the lowest, one put in, one taken out.
use Prim.Native.Nat.{ℕ, ◌+◌, ◌*◌, ◌/◌, ◌%◌, ◌^◌, ◌<◌}
use mathlib.Core.Path.{◌≡◌, refl, sym, ap, ◌∙◌}
use mathlib.Core.Bool.{Bool, true, false}
use mathlib.Core.List.{List}
use native.Mathlib.Nat.{div-add-mod', mod-lt}
use native.Mathlib.Omega.{arith}
use lib.Bits.{bit_or, bit_xor}
use lib.Count.{count_trailing_zeros}
use lib.Dec.{eqb}
use lib.ListN.{length, get_or, set, length-set, replicate, get_or-replicate}
use lib.Seq.{get_or-set_same, get_or-set_other, set-get_or}
use borrow.Author.Tests.{eqb-true, eq-eqb, ne_eqb}
use Rattle.std.specs.Prelude.{Some}
use Rattle.folds.specs.Fold.{first_to, if_below}
use Rattle.folds.proofs.Cases.{by, either, eq_or_ne, no_bool, not_no}
use Rattle.folds.proofs.Found.{found_at, below_none}
use Rattle.folds.proofs.Searches.{first_to_hit, first_to_below, first_to_all}
use Rattle.pool.specs.Pool.{word, busy, Kept, put_of, taken_of, lowest_of}
use Rattle.pool.proofs.Words.{word_ext, word_none, none_word, some_first, zeros_word, word_or, word_xor}

-- the word and the bit of a number
split : (v : ℕ) → (v / 64 * 64 + v % 64 ≡ v) × (v % 64 < 64)
split v = (div-add-mod' v 64, mod-lt v (omega arith))

high : (v : ℕ) → v < 512 → v / 64 < 8
high v l = let (e, h) = split v in omega arith

is_busy : (words : List ℕ) (w : ℕ) → (get_or words w 0 ≡ 0 → ⊥) → busy words w ≡ true
unfolding busy
is_busy words w n = rw (ne_eqb (get_or words w 0) 0 n)

is_idle : (words : List ℕ) (w : ℕ) → get_or words w 0 ≡ 0 → busy words w ≡ false
unfolding busy
is_idle words w e = rw (eq-eqb (get_or words w 0) 0 e)

busy_same : (l k : List ℕ) (w : ℕ) → get_or l w 0 ≡ get_or k w 0 → busy l w ≡ busy k w
unfolding busy
busy_same l k w e = rw e

idle_zero : (words : List ℕ) (w : ℕ) → busy words w ≡ false → get_or words w 0 ≡ 0
unfolding busy
idle_zero words w e = eqb-true (get_or words w 0) 0 (not_no (eqb (get_or words w 0) 0) e)

module _ (p : ℕ → Bool) (words : List ℕ) (K : Kept p words) where
  none : (x : ℕ) → x < 512 → get_or words (x / 64) 0 ≡ 0 → p x ≡ false
  none x l z =
      let (e, h) = split x in
      rw e at (none_word 64 (λ i. p (x / 64 * 64 + i)) (sym (K.is (x / 64) (high x l)) ∙ z) (x % 64) h)

  some : (x : ℕ) → x < 512 → p x ≡ true → get_or words (x / 64) 0 ≡ 0 → ⊥
  some x l t z = no_bool (sym (none x l z) ∙ t)

  first_word : (get_or words 8 0 ≡ 0 → ⊥) → first_to 8 (busy words) < 8
  first_word n = some_first 8 (busy words) (λ e. n (K.top ∙ e))

  word_is : (n : get_or words 8 0 ≡ 0 → ⊥) → count_trailing_zeros 64 (get_or words 8 0) ≡ first_to 8 (busy words)
  word_is n = ap (count_trailing_zeros 64) K.top ∙ zeros_word 8 64 (busy words) (omega arith) (first_word n)

  pub pool_safe : (get_or words 8 0 ≡ 0 → ⊥) → count_trailing_zeros 64 (get_or words 8 0) < 8
  pool_safe n = rw (word_is n) (first_word n)

  found : (w : ℕ) → w ≡ first_to 8 (busy words) → w < 8 → Some (w * 64 + count_trailing_zeros 64 (get_or words w 0)) ≡ if_below 512 (first_to 512 p)
  found w e l =
      let t : busy words w ≡ true = rw (← e) at (first_to_hit 8 (busy words) (rw e at l)) in
      let n : word 64 (λ i. p (w * 64 + i)) ≡ 0 → ⊥ = λ z. no_bool (sym (is_idle words w (K.is w l ∙ z)) ∙ t) in
      let h = some_first 64 (λ i. p (w * 64 + i)) n in
      let q : count_trailing_zeros 64 (get_or words w 0) ≡ first_to 64 (λ i. p (w * 64 + i)) = ap (count_trailing_zeros 64) (K.is w l) ∙ zeros_word 64 64 _ (omega arith) h in
      rw q (found_at p (first_to_all _ p (below h)) (first_to_hit 64 (λ i. p (w * 64 + i)) h) (omega arith))
    where
      below : first_to 64 (λ i. p (w * 64 + i)) < 64 → (x : ℕ) → x < w * 64 + first_to 64 (λ i. p (w * 64 + i)) → p x ≡ false
      below h x g =
          let (d, b) = split x in
          either (eq_or_ne (x / 64) w)
          (λ s. rw d at (rw (← s) at (first_to_below 64 (λ i. p (w * 64 + i)) (x % 64) (omega arith))))
          (λ s. none x (omega arith) (idle_zero words (x / 64) (first_to_below 8 (busy words) (x / 64) (omega arith))))

  pub pool_lowest : lowest_of words ≡ if_below 512 (first_to 512 p)
  unfolding lowest_of
  pool_lowest =
      either (eq_or_ne (get_or words 8 0) 0)
      (λ z.
      let e : first_to 512 p ≡ 512 = first_to_all 512 p (λ x l. none x l (idle_zero words (x / 64) (none_word 8 (busy words) (sym K.top ∙ z) (x / 64) (high x l)))) in
      rw (eq-eqb (get_or words 8 0) 0 z) (below_none (omega arith)))
      (λ n. rw (ne_eqb (get_or words 8 0) 0 n) (found _ (word_is n) (pool_safe n)))

  module _ (q : ℕ → Bool) (v : ℕ) (l : v < 512) (same : (x : ℕ) → x < 512 → (x ≡ v → ⊥) → q x ≡ p x) where
    -- bit i of a word that v is not in, and another bit of v's word
    others : (w i : ℕ) → w < 8 → i < 64 → (w ≡ v / 64 → i ≡ v % 64 → ⊥) → q (w * 64 + i) ≡ p (w * 64 + i)
    others w i lw li n = let (e, h) = split v in same (w * 64 + i) (omega arith) (λ d. n (omega arith) (omega arith))

    other_word : (w : ℕ) → w < 8 → (w ≡ v / 64 → ⊥) → get_or words w 0 ≡ word 64 (λ i. q (w * 64 + i))
    other_word w lw n = K.is w lw ∙ word_ext 64 _ _ (λ i li. sym (others w i lw li (λ a b. n a)))

    -- v's word is now x, and the word of words y
    made : (x y : ℕ) → x ≡ word 64 (λ i. q (v / 64 * 64 + i)) → y ≡ word 8 (busy (set words (v / 64) x)) → Kept q (set (set words (v / 64) x) 8 y)
    made x y e h =
        record {
          tall = length-set (set words (v / 64) x) 8 y ∙ length-set words (v / 64) x ∙ K.tall;
          is = λ w lw. get_or-set_other (set words (v / 64) x) 8 w y 0 (λ d. omega arith) ∙ is w lw;
          top =
              get_or-set_same (set words (v / 64) x) 8 y 0 (omega (arith, length-set words (v / 64) x, K.tall)) ∙ h
              ∙ word_ext 8 _ _ (λ w lw. busy_same _ _ w (sym (get_or-set_other (set words (v / 64) x) 8 w y 0 (λ d. omega arith))));
        }
      where
        is : (w : ℕ) → w < 8 → get_or (set words (v / 64) x) w 0 ≡ word 64 (λ i. q (w * 64 + i))
        is w lw =
            either (eq_or_ne w (v / 64))
            (λ d. rw d (get_or-set_same words (v / 64) x 0 (omega (arith, K.tall)) ∙ e))
            (λ n. get_or-set_other words (v / 64) w x 0 n ∙ other_word w lw n)

    at_8 : (x : ℕ) → get_or (set words (v / 64) x) 8 0 ≡ word 8 (busy words)
    at_8 x = get_or-set_other words (v / 64) 8 x 0 (λ e. omega (arith, high v l)) ∙ K.top

    at_v : (x : ℕ) → get_or (set words (v / 64) x) (v / 64) 0 ≡ x
    at_v x = get_or-set_same words (v / 64) x 0 (omega (arith, K.tall, high v l))

    same_busy : (x w : ℕ) → (w ≡ v / 64 → ⊥) → busy (set words (v / 64) x) w ≡ busy words w
    same_busy x w n = busy_same _ _ w (get_or-set_other words (v / 64) w x 0 n)

    pub pool_put : q v ≡ true → Kept q (put_of words v)
    unfolding put_of
    pool_put t =
        let (e, h) = split v in
        let x = bit_or (get_or words (v / 64) 0) (2 ^ (v % 64)) in
        let s : q (v / 64 * 64 + v % 64) ≡ true = rw e t in
        let d : x ≡ word 64 (λ i. q (v / 64 * 64 + i)) = ap (λ (y : ℕ). bit_or y (2 ^ (v % 64))) (K.is (v / 64) (high v l)) ∙ word_or 64 (v % 64) _ _ h s (λ i li n. others (v / 64) i (high v l) li (λ _. n)) in
        made x _ d
        (ap (λ (y : ℕ). bit_or y (2 ^ (v / 64))) (at_8 x)
        ∙ word_or 8 (v / 64) (busy words) _ (high v l) (is_busy _ (v / 64) (λ z. no_bool (sym (none_word 64 (λ i. q (v / 64 * 64 + i)) (sym d ∙ sym (at_v x) ∙ z) (v % 64) h) ∙ s))) (λ w lw n. same_busy x w n))

    pub pool_take : p v ≡ true → q v ≡ false → Kept q (taken_of words v)
    unfolding taken_of
    pool_take s t =
        either (eq_or_ne x 0)
        (λ z. rw (eq-eqb x 0 z) (made x _ d (ap (λ (y : ℕ). bit_xor y (2 ^ (v / 64))) (at_8 x) ∙ word_xor 8 (v / 64) (busy words) _ (high v l) (is_busy words (v / 64) (some v l s)) (is_idle _ (v / 64) (at_v x ∙ z)) (λ w lw n. same_busy x w n))))
        (λ n. rw (ne_eqb x 0 n) (rw (set-get_or (set words (v / 64) x) 8 0) at (made x (get_or (set words (v / 64) x) 8 0) d (at_8 x ∙ word_ext 8 _ _ (kept n)))))
      where
        x : ℕ
        x = bit_xor (get_or words (v / 64) 0) (2 ^ (v % 64))

        d : x ≡ word 64 (λ i. q (v / 64 * 64 + i))
        d = let (e, h) = split v in ap (λ (y : ℕ). bit_xor y (2 ^ (v % 64))) (K.is (v / 64) (high v l)) ∙ word_xor 64 (v % 64) _ _ h (rw e s) (rw e t) (λ i li n. others (v / 64) i (high v l) li (λ _. n))

        kept : (x ≡ 0 → ⊥) → (w : ℕ) → w < 8 → busy words w ≡ busy (set words (v / 64) x) w
        kept n w lw = either (eq_or_ne w (v / 64)) (λ e. rw e (is_busy words (v / 64) (some v l s) ∙ sym (is_busy _ (v / 64) (λ z. n (sym (at_v x) ∙ z))))) (λ o. sym (same_busy x w o))

-- the pool with nothing in it
pub pool_none : (p : ℕ → Bool) → ((x : ℕ) → x < 512 → p x ≡ false) → Kept p (replicate 9 0)
pool_none p h =
    record {
      tall = refl;
      is = λ w l. get_or-replicate 9 w 0 0 (omega arith) ∙ sym (word_none 64 _ (λ i li. h (w * 64 + i) (omega arith)));
      top = sym (word_none 8 _ (λ w l. is_idle (replicate 9 0) w (get_or-replicate 9 w 0 0 (omega arith))));
    }

-- what is in says nothing of p from 512 on
pub pool_same : (p : ℕ → Bool) (words : List ℕ) → Kept p words → (q : ℕ → Bool) → ((x : ℕ) → x < 512 → q x ≡ p x) → Kept q words
pool_same p words K q h =
    record { tall = K.tall; is = λ w l. K.is w l ∙ word_ext 64 _ _ (λ i li. sym (h (w * 64 + i) (omega arith))); top = K.top }

pub length-put : (words : List ℕ) (v : ℕ) → length (put_of words v) ≡ length words
unfolding put_of
length-put words v = length-set (set words (v / 64) _) 8 _ ∙ length-set words (v / 64) _

pub length_taken : (words : List ℕ) (v : ℕ) → length (taken_of words v) ≡ length words
unfolding taken_of
length_taken words v =
    let x = bit_xor (get_or words (v / 64) 0) (2 ^ (v % 64)) in
    by (eqb x 0) (λ t. rw t (length-set (set words (v / 64) x) 8 _ ∙ length-set words (v / 64) x)) (λ f. rw f (length-set words (v / 64) x))
