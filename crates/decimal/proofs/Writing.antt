-- What is written digit by digit and word by word.
use Prim.Native.Nat.{ℕ, zero, suc, max, ◌+◌, ◌*◌, ◌/◌, ◌%◌, ◌^◌, ◌≤◌, ◌<◌}
use mathlib.Core.Path.{◌≡◌, refl, ap, ◌∙◌}
use mathlib.Core.List.{List, [], ◌∷◌, ◌++◌}
use native.Mathlib.Omega.{arith}
use native.Mathlib.Nat.{pow-succ'}
use lib.Dec.{ltb}
use borrow.Author.Tests.{ltb-true, ltb-false}
use Rattle.folds.proofs.Cases.{by}
use lib.ListN.{length, set, length-append}
use Rattle.folds.specs.Fold.{put}
use Rattle.folds.proofs.Slices.{length-put}
use Rattle.folds.proofs.Parts.{put_none, put_more, put-put}
use Rattle.decimal.specs.Decimal.{digits, decimal}
use Rattle.decimal.specs.Write.{Puts}
use Rattle.decimal.proofs.Text.{decimal_one, decimal_long, decimal_mono, length_one, length_long}

-- a number of 64 bits has at most 20 digits
pub decimal_short : (v : ℕ) → v < 2 ^ 64 → length (decimal v) ≤ 20
decimal_short v h = omega (arith, decimal_mono 18446744073709551615 v (omega arith), most)
  where
    most : length (decimal 18446744073709551615) ≡ 20
    most = unfold decimal digits in refl

pow_some : (k : ℕ) → 1 ≤ 10 ^ k
pow_some zero = omega arith
pow_some (suc k) = omega (arith, pow-succ' 10 k, pow_some k)

-- a number's digits by the power of ten below it
decimal_log : (k v : ℕ) → 10 ^ k ≤ v → v < 10 * 10 ^ k → length (decimal v) ≡ k + 1
decimal_log zero v h g = length_one v (omega arith)
decimal_log (suc k) v h g =
    let e : 10 ^ suc k ≡ 10 * 10 ^ k = omega (arith, pow-succ' 10 k) in
    omega (arith, length_long v (omega (arith, e, pow_some k)), decimal_log k (v / 10) (omega (arith, e)) (omega (arith, e)))

-- and of 0 as of 1
pub width_is : (v w k : ℕ) → w ≡ max v 1 → 10 ^ k ≤ w → w < 10 * 10 ^ k → length (decimal v) ≡ k + 1
width_is v w k e h g =
    by (ltb v 1) (λ q. omega (arith, length_one v (omega (arith, ltb-true v 1 q)), length_one w (omega (arith, ltb-true v 1 q)), decimal_log k w h g))
    (λ q. let z : w ≡ v = omega (arith, ltb-false v 1 q) in rw z at (decimal_log k w h g))

pub show_one : (l : List ℕ) (a v d : ℕ) → v < 10 → d ≡ 48 + v → a + length (decimal v) ≤ length l → Puts l a (decimal v) (set l a d) (a + 1)
show_one l a v d h e r =
    let q : a + 0 ≡ a = omega arith in
    let m : set (put l a []) (a + 0) d ≡ put l a (d ∷ []) = put_more l a [] d (omega (arith, length_one v h)) in
    record { next = omega (arith, length_one v h); is = rw (decimal_one v h, ← e) (rw (put_none l a, q) at m) }

pub show_more : (l l' : List ℕ) (a v i d : ℕ) → 10 ≤ v → Puts l a (decimal (v / 10)) l' i → d ≡ 48 + v % 10 → a + length (decimal v) ≤ length l → Puts l a (decimal v) (set l' i d) (i + 1)
show_more l l' a v i d h p e r =
    record {
      next = omega (arith, length_long v h, p.next);
      is = rw (decimal_long v h, p.is, p.next, ← e) (put_more l a (decimal (v / 10)) d (omega (arith, length_long v h)));
    }

-- one text after another
pub puts_then : {l l' l'' p q : List ℕ} {a i j : ℕ} → Puts l a p l' i → Puts l' i q l'' j → a + length (p ++ q) ≤ length l → Puts l a (p ++ q) l'' j
puts_then {l} {l'} {l''} {p} {q} {a} {i} {j} x y h =
    let n = length-append p q in
    record { next = omega (arith, x.next, y.next, n); is = y.is ∙ rw (x.is, x.next) (put-put l a p q (omega (arith, n))) }

pub puts_length : {l l' s : List ℕ} {a r : ℕ} → Puts l a s l' r → a + length s ≤ length l → length l' ≡ length l
puts_length {l} {l'} {s} {a} x h = ap length x.is ∙ length-put l a s h

-- a text before another leaves room for it
pub room_then : {l l' p : List ℕ} {a i : ℕ} (q : List ℕ) → Puts l a p l' i → a + length (p ++ q) ≤ length l → i + length q ≤ length l'
room_then {l} {l'} {p} {a} {i} q x h =
    let n = length-append p q in
    omega (arith, x.next, puts_length x (omega (arith, n)))

pub room_first : (p q : List ℕ) (a n : ℕ) → a + length (p ++ q) ≤ n → a + length p ≤ n
room_first p q a n h = omega (arith, length-append p q)
