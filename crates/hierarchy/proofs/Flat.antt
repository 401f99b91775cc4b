-- Rows one after another in one list: the row at each place, and one row more.
use Prim.Native.Nat.{ℕ, zero, suc, ◌+◌, ◌*◌, ◌<◌}
use mathlib.Core.Path.{◌≡◌, sym, ap, ◌∙◌}
use mathlib.Core.List.{List, [], ◌∷◌, ◌++◌, append_assoc}
use native.Mathlib.Nat.{suc-mul, not-suc-le-zero}
use native.Mathlib.Omega.{arith}
use lib.ListN.{length, get_or, take, drop, length-append}
use lib.Seq.{take_at, drop_at, drop-drop}
use Rattle.folds.specs.Fold.{part, over}
use Rattle.hierarchy.specs.Rounds.{flat}

pub length-flat : (n : ℕ) (rows : List (List ℕ)) → ((r : ℕ) → r < length rows → length (get_or rows r []) ≡ n) → length (flat rows) ≡ length rows * n
unfolding flat
length-flat n [] h = omega arith
length-flat n (row ∷ rows) h =
    length-append row (flat rows) ∙ omega (arith, suc-mul (length rows) n, h 0 (omega arith), length-flat n rows (λ r l. h (suc r) (omega arith)))

pub flat-part : (n : ℕ) (rows : List (List ℕ)) (tail : List ℕ) → ((r : ℕ) → r < length rows → length (get_or rows r []) ≡ n)
    → (r : ℕ) → r < length rows → part (flat rows ++ tail) (r * n) n ≡ get_or rows r []
unfolding flat part
flat-part n [] tail h r l = absurd (not-suc-le-zero l)
flat-part n (row ∷ rows) tail h zero l = let z : 0 * n ≡ 0 = omega arith in rw (z, append_assoc row (flat rows) tail) (take_at row (flat rows ++ tail) n (h 0 (omega arith)))
flat-part n (row ∷ rows) tail h (suc r) l =
    ap (take n)
    (rw (suc-mul r n, append_assoc row (flat rows) tail) (swap (row ++ (flat rows ++ tail)) (r * n)
    ∙ ap (drop (r * n)) (drop_at row (flat rows ++ tail) n (h 0 (omega arith)))))
    ∙ flat-part n rows tail (λ i li. h (suc i) (omega arith)) r (omega arith)
  where
    swap : (s : List ℕ) (a : ℕ) → drop (a + n) s ≡ drop a (drop n s)
    swap s a = let e : a + n ≡ n + a = omega arith in rw e (sym (drop-drop a n s))

-- row r of what is written over the front of a list
pub over-part : (n : ℕ) (rows : List (List ℕ)) (l : List ℕ) → ((r : ℕ) → r < length rows → length (get_or rows r []) ≡ n)
    → (r : ℕ) → r < length rows → part (over (flat rows) l) (r * n) n ≡ get_or rows r []
unfolding over
over-part n rows l h r lr = flat-part n rows (drop (length (flat rows)) l) h r lr
