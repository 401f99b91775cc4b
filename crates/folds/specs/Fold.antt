-- Bounded folds: sums, searches and lists over the numbers below n, and what a loop has written of a slice.
use Rattle.std.specs.Prelude.{Option, Some, None, ℕ, zero, suc, ◌+◌, ◌<◌, ◌≤◌, max, Bool, true, false, not, ◌&&◌, ◌||◌, List, [], ◌∷◌, ◌++◌, ltb, eqb, get_or, length, take, drop, replicate, ◌≡◌}

-- a if the test holds, else b
abbrev pub pick : {A : Type 0} → Bool → A → A → A
pick true a b = a
pick false a b = b

-- w if the test holds, else 0
abbrev pub when : Bool → ℕ → ℕ
when true w = w
when false w = 0

-- f 0 + .. + f (n - 1)
unfoldable pub sum_to : ℕ → (ℕ → ℕ) → ℕ
sum_to zero f = 0
sum_to (suc n) f = sum_to n f + f n

-- how many k below n have p
unfoldable pub count_to : ℕ → (ℕ → Bool) → ℕ
count_to n p = sum_to n (λ k. when (p k) 1)

-- the largest of f 0, .., f (n - 1), and 0 where n is 0
unfoldable pub max_to : ℕ → (ℕ → ℕ) → ℕ
max_to zero f = 0
max_to (suc n) f = max (max_to n f) (f n)

-- the search so far, i of n, with the test of n
abbrev pub sought : ℕ → ℕ → Bool → ℕ
sought i n t = pick (eqb i n) (pick t n (suc n)) i

-- the least k below n that has p, or n
unfoldable pub first_to : ℕ → (ℕ → Bool) → ℕ
first_to zero p = 0
first_to (suc n) p = sought (first_to n p) n (p n)

-- whether some k below n has p
unfoldable pub any_to : ℕ → (ℕ → Bool) → Bool
any_to n p = ltb (first_to n p) n

-- whether each k below n has p
unfoldable pub all_to : ℕ → (ℕ → Bool) → Bool
all_to n p = eqb (first_to n (λ k. not (p k))) n

-- f 0, .., f (n - 1)
unfoldable pub list_to : {A : Type 0} → ℕ → (ℕ → A) → List A
list_to zero f = []
list_to (suc n) f = list_to n f ++ (f n ∷ [])

-- n turns of a step on a state: turn 0 first
unfoldable pub turns : {S : Type 0} → ℕ → (ℕ → S → S) → S → S
turns zero f s = s
turns (suc n) f s = f n (turns n f s)

-- the lowest of the largest, by `less`, of the numbers below n that have p, or s, which has it not
unfoldable pub best_to : ℕ → (ℕ → Bool) → (ℕ → ℕ → Bool) → ℕ → ℕ
best_to n p less s = turns n (λ t b. pick (p t && (eqb b s || less b t)) t b) s

-- n times 0
unfoldable pub zeros : ℕ → List ℕ
zeros n = replicate n 0

-- r is what stands at i, and below b
pub record Read (l : List ℕ) (i b r : ℕ) : Type 0 where
  pub is : r ≡ get_or l i 0
  pub low : r < b

-- l is now what l₀ was, but for its first n entries, which with `rest` are `all`
pub record Wrote (l₀ l : List ℕ) (n : ℕ) (rest all : List ℕ) : Type 0 where
  pub same : length l ≡ length l₀
  pub upto : n ≤ length l
  pub front : take n l ++ rest ≡ all
  pub back : drop n l ≡ drop n l₀

-- l is now what l₀ was, but for its first n entries, which are f 0, .., f (n - 1)
pub record Filled (l₀ l : List ℕ) (n : ℕ) (f : ℕ → ℕ) : Type 0 where
  pub same : length l ≡ length l₀
  pub upto : n ≤ length l
  pub front : take n l ≡ list_to n f
  pub back : drop n l ≡ drop n l₀

-- l₀ with `all` written over its front
unfoldable pub over : List ℕ → List ℕ → List ℕ
over all l₀ = all ++ drop (length all) l₀

-- l with the list p in the place of its entries from a on
unfoldable pub put : List ℕ → ℕ → List ℕ → List ℕ
put l a p = take a l ++ (p ++ drop (a + length p) l)

-- the n entries of l from a on
unfoldable pub part : List ℕ → ℕ → ℕ → List ℕ
part l a n = take n (drop a l)

-- whether two lists are the same
unfoldable pub same : List ℕ → List ℕ → Bool
same [] [] = true
same [] (b ∷ m) = false
same (a ∷ l) [] = false
same (a ∷ l) (b ∷ m) = eqb a b && same l m

-- i where it is below n, else none
abbrev pub if_below : ℕ → ℕ → Option ℕ
if_below n i = pick (ltb i n) (Some i) None

-- document 01's ranges: all costs of a kit, 512 of at most 65,535, and all its widths, 1,024 of these
abbrev pub most_cost : ℕ
most_cost = 33553920

abbrev pub most_width : ℕ
most_width = 67107840
