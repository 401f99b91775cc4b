-- Which positions lie in an interval; what lies in it weighs; what leaves it; the cut of a division is what leaves its intervals.
use Prim.Native.Nat.{ℕ, zero, suc, ◌+◌, ◌≤◌, ◌<◌}
use mathlib.Core.Path.{◌≡◌, refl, ap, sym, ◌∙◌}
use mathlib.Core.Bool.{Bool, true, false, not, ◌&&◌}
use mathlib.Core.List.{List, [], ◌∷◌}
use native.Mathlib.Omega.{arith}
use native.Mathlib.Nat.{not-suc-le-zero, add-zero, zero-add, le_of_suc-le-suc}
use lib.Dec.{ltb, leb, eqb, eqb-zero-suc, eqb-suc-suc, eqb-suc-zero, leb-zero}
use lib.ListN.{length, get_or}
use borrow.Author.Tests.{ltb-true, ltb-false, lt-ltb, le-ltb, leb-true, leb-false, le-leb, lt-leb, eq-eqb, ne_eqb, eqb-true, eqb-false}
use Rattle.folds.specs.Fold.{pick, when, sum_to, first_to}
use Rattle.folds.proofs.Cases.{by, both}
use Rattle.folds.proofs.Sums.{sum_to_ext, sum_to_add, sum_to_none}
use Rattle.folds.proofs.Searches.{first_to_zero}
use Rattle.division_table.specs.Division.{Rising, fits, interval_of, between}
use Rattle.division_table.proofs.Best.{outs}

pub rising_below : (g y : ℕ) (d : List ℕ) → Rising g y d → y < g
rising_below g y [] r = r
rising_below g y (x ∷ d) r = omega (arith, rising_below g x d r.1, r.0)

-- a later position lies in no earlier interval, and each in one of them
pub interval_mono : (d : List ℕ) (p q : ℕ) → p ≤ q → interval_of d p ≤ interval_of d q
unfolding interval_of
interval_mono [] p q h = omega arith
interval_mono (x ∷ d) p q h =
    by (ltb p x) (λ t. rw t (omega arith)) (λ t. rw (t, le-ltb q x (omega (arith, ltb-false p x t))) (omega (arith, interval_mono d p q h)))

pub interval_below : (d : List ℕ) (p : ℕ) → interval_of d p ≤ length d
unfolding interval_of
interval_below [] p = omega arith
interval_below (x ∷ d) p = by (ltb p x) (λ t. rw t (omega arith)) (λ t. rw t (omega (arith, interval_below d p)))

-- interval u: the positions from y to x - 1, at least one, and its test holds
pub record Interval (g : ℕ) (ok : ℕ → ℕ → Bool) (low : ℕ) (d : List ℕ) (u : ℕ) : Type 0 where
  pub from : ℕ
  pub to : ℕ
  pub above : low ≤ from
  pub filled : from < to
  pub inside : to ≤ g
  pub passes : ok from to ≡ true
  pub is : (p : ℕ) → low ≤ p → p < g → eqb (interval_of d p) u ≡ (leb from p && ltb p to)

pub interval_is : (g : ℕ) (ok : ℕ → ℕ → Bool) (y : ℕ) (d : List ℕ) → Rising g y d → fits g ok y d ≡ true → (u : ℕ) → u ≤ length d → Interval g ok y d u
unfolding fits interval_of
interval_is g ok y [] r f zero h =
    record { from = y; to = g; above = omega arith; filled = r; inside = omega arith; passes = f; is = λ p l k. rw (le-leb y p l, lt-ltb p g k) }
interval_is g ok y [] r f (suc u) h = absurd (not-suc-le-zero h)
interval_is g ok y (z ∷ d) r f zero h =
    record {
      from = y;
      to = z;
      above = omega arith;
      filled = r.0;
      inside = omega (arith, rising_below g z d r.1);
      passes = (both (ok y z) (fits g ok z d) f).0;
      is = λ p l k. by (ltb p z) (λ t. rw (t, le-leb y p l)) (λ t. rw (t, le-leb y p l) (eqb-suc-zero (interval_of d p)));
    }
interval_is g ok y (z ∷ d) r f (suc u) h =
    let I = interval_is g ok z d r.1 (both (ok y z) (fits g ok z d) f).1 u (le_of_suc-le-suc h) in
    record {
      from = I.from;
      to = I.to;
      above = omega (arith, I.above, r.0);
      filled = I.filled;
      inside = I.inside;
      passes = I.passes;
      is = λ p l k.
          by (ltb p z)
          (λ t. rw (t, lt-leb I.from p (omega (arith, ltb-true p z t, I.above))) (eqb-zero-suc u))
          (λ t. rw t (eqb-suc-suc (interval_of d p) u ∙ I.is p (ltb-false p z t) k));
    }

-- the interval as a loop over the starts finds it
first_front : (n : ℕ) (p : ℕ → Bool) → first_to (suc n) p ≡ pick (p 0) 0 (suc (first_to n (λ i. p (suc i))))
unfolding first_to
first_front zero p = refl
first_front (suc n) p =
    by (p 0)
    (λ t. rw (first_front n p, t, eqb-zero-suc n))
    (λ t. rw (first_front n p, t, eqb-suc-suc) (go (first_to n (λ i. p (suc i)))))
  where
    go : (f : ℕ) → pick (eqb f n) (pick (p (suc n)) (suc n) (suc (suc n))) (suc f) ≡ suc (pick (eqb f n) (pick (p (suc n)) n (suc n)) f)
    go f = by (eqb f n) (λ t. by (p (suc n)) (λ s. rw (t, s)) (λ s. rw (t, s))) (λ t. rw t)

pub interval_first : (d : List ℕ) (p : ℕ) → interval_of d p ≡ first_to (length d) (λ i. ltb p (get_or d i 0))
unfolding interval_of
interval_first [] p = sym (first_to_zero (λ i. ltb p (get_or [] i 0)))
interval_first (x ∷ d) p = ap (λ (i : ℕ). pick (ltb p x) 0 (suc i)) (interval_first d p) ∙ sym (first_front (length d) (λ i. ltb p (get_or (x ∷ d) i 0)))

-- n things at positions p, each of weight c: one position more
module _ (n : ℕ) (p c : ℕ → ℕ) where
  pub between_none : (y : ℕ) → between n p c y y ≡ 0
  unfolding between
  between_none y =
      sum_to_none n _ (λ v _. by (leb y (p v)) (λ t. rw (t, le-ltb (p v) y (leb-true y (p v) t))) (λ t. rw t))

  pub between_next : (y x : ℕ) → y ≤ x → between n p c y (x + 1) ≡ between n p c y x + sum_to n (λ v. when (eqb (p v) x) (c v))
  unfolding between
  between_next y x l = sum_to_ext n _ _ (λ v _. one (p v) (c v)) ∙ sum_to_add n _ _
    where
      one : (q w : ℕ) → when (leb y q && ltb q (x + 1)) w ≡ when (leb y q && ltb q x) w + when (eqb q x) w
      one q w =
          by (ltb q x)
          (λ t. let a = ltb-true q x t in rw (t, lt-ltb q (x + 1) (omega arith), ne_eqb q x (λ e. omega arith)) (sym (add-zero _)))
          (λ t.
          let a = ltb-false q x t in
          by (eqb q x)
          (λ s. let e = eqb-true q x s in rw (t, s, lt-ltb q (x + 1) (omega arith), le-leb y q (omega arith)) (sym (zero-add w)))
          (λ s. let e = eqb-false q x s in rw (t, s, le-ltb q (x + 1) (omega arith), le-leb y q (omega arith))))

-- m edges from position s to position e, of width w, none backward
module _ (m : ℕ) (s e w : ℕ → ℕ) where
  -- what leaves the interval from y to x - 1; what leaves position x; what comes into x from y on
  unfoldable pub leaving : ℕ → ℕ → ℕ
  leaving y x = sum_to m (λ j. when (leb y (s j) && ltb (s j) x && leb x (e j)) (w j))

  unfoldable pub out_of : ℕ → ℕ
  out_of x = sum_to m (λ j. when (eqb (s j) x) (w j))

  unfoldable pub into_from : ℕ → ℕ → ℕ
  into_from y x = sum_to m (λ j. when (leb y (s j) && eqb (e j) x) (w j))

  pub leaving_none : (y : ℕ) → leaving y y ≡ 0
  unfolding leaving
  leaving_none y = sum_to_none m _ (λ j _. by (leb y (s j)) (λ t. rw (t, le-ltb (s j) y (leb-true y (s j) t))) (λ t. rw t))

  module _ (forward : (j : ℕ) → j < m → s j ≤ e j) where
    -- position x joins the interval: what leaves it leaves, what came into it does no longer
    pub leaving_next : (y x : ℕ) → y ≤ x → leaving y (x + 1) + into_from y x ≡ leaving y x + out_of x
    unfolding leaving into_from out_of
    leaving_next y x l =
        sym (sum_to_add m _ _) ∙ sum_to_ext m _ _ (λ j h. one (s j) (e j) (w j) (forward j h)) ∙ sum_to_add m _ _
      where
        one : (a b v : ℕ) → a ≤ b → when (leb y a && ltb a (x + 1) && leb (x + 1) b) v + when (leb y a && eqb b x) v ≡ when (leb y a && ltb a x && leb x b) v + when (eqb a x) v
        one a b v h =
            by (leb y a)
            (λ t. by (ltb a x) (λ u. before t (ltb-true a x u)) (λ u. by (eqb a x) (λ q. here (eqb-true a x q)) (λ q. past t (omega (arith, ltb-false a x u, eqb-false a x q)))))
            (λ t. let k = leb-false y a t in rw (t, ne_eqb a x (λ z. omega arith)))
          where
            before : leb y a ≡ true → a < x → when (leb y a && ltb a (x + 1) && leb (x + 1) b) v + when (leb y a && eqb b x) v ≡ when (leb y a && ltb a x && leb x b) v + when (eqb a x) v
            before t k =
                by (leb (x + 1) b)
                (λ u. let z = leb-true (x + 1) b u in
                rw (t, lt-ltb a (x + 1) (omega arith), u, ne_eqb b x (λ q. omega arith), lt-ltb a x k, le-leb x b (omega arith), ne_eqb a x (λ q. omega arith)))
                (λ u. let z = leb-false (x + 1) b u in
                by (eqb b x)
                (λ q. let i = eqb-true b x q in rw (t, lt-ltb a (x + 1) (omega arith), u, q, lt-ltb a x k, le-leb x b (omega arith), ne_eqb a x (λ r. omega arith)) (omega arith))
                (λ q. let i = eqb-false b x q in rw (t, lt-ltb a (x + 1) (omega arith), u, q, lt-ltb a x k, lt-leb x b (omega arith), ne_eqb a x (λ r. omega arith))))

            here : a ≡ x → when (leb y a && ltb a (x + 1) && leb (x + 1) b) v + when (leb y a && eqb b x) v ≡ when (leb y a && ltb a x && leb x b) v + when (eqb a x) v
            here q =
                by (eqb b x)
                (λ u. let i = eqb-true b x u in rw (le-leb y a (omega arith), lt-ltb a (x + 1) (omega arith), lt-leb (x + 1) b (omega arith), u, le-ltb a x (omega arith), eq-eqb a x q))
                (λ u. let i = eqb-false b x u in rw (le-leb y a (omega arith), lt-ltb a (x + 1) (omega arith), le-leb (x + 1) b (omega arith), u, le-ltb a x (omega arith), eq-eqb a x q) (omega arith))

            past : leb y a ≡ true → x < a → when (leb y a && ltb a (x + 1) && leb (x + 1) b) v + when (leb y a && eqb b x) v ≡ when (leb y a && ltb a x && leb x b) v + when (eqb a x) v
            past t k = rw (t, le-ltb a (x + 1) (omega arith), ne_eqb b x (λ q. omega arith), le-ltb a x (omega arith), ne_eqb a x (λ q. omega arith))

    -- the edges that start at y come to those from y + 1 on
    pub into_next : (y x : ℕ) → into_from y x ≡ into_from (y + 1) x + sum_to m (λ j. when (eqb (s j) y && eqb (e j) x) (w j))
    unfolding into_from
    into_next y x = sum_to_ext m _ _ (λ j _. one (s j) (eqb (e j) x) (w j)) ∙ sum_to_add m _ _
      where
        one : (a : ℕ) (t : Bool) (v : ℕ) → when (leb y a && t) v ≡ when (leb (y + 1) a && t) v + when (eqb a y && t) v
        one a t v =
            by (leb (y + 1) a)
            (λ u. let z = leb-true (y + 1) a u in rw (u, le-leb y a (omega arith), ne_eqb a y (λ q. omega arith)) (sym (add-zero _)))
            (λ u.
            let z = leb-false (y + 1) a u in
            by (eqb a y)
            (λ q. let i = eqb-true a y q in rw (u, le-leb y a (omega arith), q) (sym (zero-add _)))
            (λ q. let i = eqb-false a y q in rw (u, lt-leb y a (omega arith), q)))

    pub into_none : (g x : ℕ) → ((j : ℕ) → j < m → s j < g) → into_from g x ≡ 0
    unfolding into_from
    into_none g x h = sum_to_none m _ (λ j l. rw (lt-leb g (s j) (h j l)))

    -- THE CUT OF A DIVISION is what leaves its intervals
    cut_from : ℕ → List ℕ → ℕ
    cut_from y d = sum_to m (λ j. when (leb y (s j) && not (eqb (interval_of d (s j)) (interval_of d (e j)))) (w j))

    cut_cons : (y x : ℕ) (d : List ℕ) → y < x → cut_from y (x ∷ d) ≡ leaving y x + cut_from x d
    unfolding cut_from leaving interval_of
    cut_cons y x d l = sum_to_ext m _ _ (λ j h. one (s j) (e j) (w j) (forward j h)) ∙ sum_to_add m _ _
      where
        one : (a b v : ℕ) → a ≤ b
            → when (leb y a && not (eqb (pick (ltb a x) 0 (suc (interval_of d a))) (pick (ltb b x) 0 (suc (interval_of d b))))) v
            ≡ when (leb y a && ltb a x && leb x b) v + when (leb x a && not (eqb (interval_of d a) (interval_of d b))) v
        one a b v k =
            by (leb y a)
            (λ t.
            by (ltb a x)
            (λ u.
            let i : leb x a ≡ false = lt-leb x a (ltb-true a x u) in
            by (leb x b)
            (λ r. let q : ltb b x ≡ false = le-ltb b x (leb-true x b r) in simp (t, u, r, i, q, eqb-zero-suc, add-zero))
            (λ r. let q : ltb b x ≡ true = lt-ltb b x (leb-false x b r) in simp (t, u, r, i, q)))
            (λ u.
            let i : leb x a ≡ true = le-leb x a (ltb-false a x u) in
            let q : ltb b x ≡ false = le-ltb b x (omega (arith, ltb-false a x u)) in
            simp (t, u, i, q, eqb-suc-suc, zero-add)))
            (λ t. let i : leb x a ≡ false = lt-leb x a (omega (arith, leb-false y a t)) in simp (t, i))

    cut_from_lem : (g y : ℕ) (d : List ℕ) → Rising g y d → cut_from y d ≡ outs leaving y d
    unfolding cut_from outs interval_of
    cut_from_lem g y [] r = sum_to_none m _ (λ j _. by (leb y (s j)) (λ t. simp t) (λ t. simp t))
    cut_from_lem g y (x ∷ d) r = cut_cons y x d r.0 ∙ ap (λ (c : ℕ). leaving y x + c) (cut_from_lem g x d r.1)

    pub cut_outs : (g : ℕ) (d : List ℕ) → Rising g 0 d → sum_to m (λ j. when (not (eqb (interval_of d (s j)) (interval_of d (e j)))) (w j)) ≡ outs leaving 0 d
    unfolding cut_from
    cut_outs g d r = sum_to_ext m _ _ (λ j _. rw leb-zero) ∙ cut_from_lem g 0 d r
