-- The best of what a function gives at the numbers below m that have p.
use Prim.Native.Nat.{ℕ, zero, suc, ◌<◌, min, max}
use mathlib.Core.Path.{◌≡◌, refl, sym, ◌∙◌}
use mathlib.Core.Bool.{Bool, true}
use mathlib.Core.Logic.{◌⊎◌, inl, inr}
use native.Mathlib.Nat.{not-suc-le-zero}
use native.Mathlib.Omega.{arith}
use Rattle.folds.specs.Fold.{pick, turns}
use Rattle.folds.proofs.Cases.{by, either, eq_or_ne, last_or}

-- the best of s and of f at the numbers below m that have p
abbrev pub choose : (ℕ → Bool) → (ℕ → ℕ) → (ℕ → ℕ → ℕ) → ℕ → ℕ → ℕ
choose p f better s m = turns m (λ j t. pick (p j) (better t (f j)) t) s

-- by any `better` that is one of the two, and no worse than either
module _ (p : ℕ → Bool) (f : ℕ → ℕ) (better : ℕ → ℕ → ℕ) (s : ℕ) where
  pub choose_is : ((a b : ℕ) → (better a b ≡ a) ⊎ (better a b ≡ b)) → (m : ℕ)
      → (choose p f better s m ≡ s) ⊎ ((j : ℕ) × (j < m) × (p j ≡ true) × (f j ≡ choose p f better s m))
  unfolding turns
  choose_is one zero = inl refl
  choose_is one (suc m) =
      either (choose_is one m)
      (λ e. by (p m) (λ q. rw q (either (one b (f m)) (λ w. inl (w ∙ e)) (λ w. inr (m, omega arith, q, sym w)))) (λ q. rw q (inl e)))
      (λ w. by (p m)
      (λ q. rw q (either (one b (f m)) (λ x. inr (w.0, omega arith, w.2, w.3 ∙ sym x)) (λ x. inr (m, omega arith, q, sym x))))
      (λ q. rw q (inr (w.0, omega arith, w.2, w.3))))
    where
      b : ℕ
      b = choose p f better s m

  module _ (R : ℕ → ℕ → Type 0) (trans : (a b c : ℕ) → R a b → R b c → R a c) (left : (a b : ℕ) → R (better a b) a) (right : (a b : ℕ) → R (better a b) b) where
    pub choose_of : (m j : ℕ) → j < m → p j ≡ true → R (choose p f better s m) (f j)
    unfolding turns
    choose_of zero j l q = absurd (not-suc-le-zero l)
    choose_of (suc m) j l q =
        either (last_or l) (λ e. rw (← e, q) (right _ (f j)))
        (λ h. by (p m) (λ x. rw x (trans _ b _ (left b (f m)) (choose_of m j h q))) (λ x. rw x (choose_of m j h q)))
      where
        b : ℕ
        b = choose p f better s m

pub min_one : (a b : ℕ) → (min a b ≡ a) ⊎ (min a b ≡ b)
min_one a b = either (eq_or_ne (min a b) a) inl (λ n. inr (omega arith))

pub max_one : (a b : ℕ) → (max a b ≡ a) ⊎ (max a b ≡ b)
max_one a b = either (eq_or_ne (max a b) a) inl (λ n. inr (omega arith))

-- the best of many, by a `better` that is the nearest to both in an order R
module _ (better : ℕ → ℕ → ℕ) (R : ℕ → ℕ → Type 0) (self : (a : ℕ) → R a a) (trans : (a b c : ℕ) → R a b → R b c → R a c)
    (left : (a b : ℕ) → R (better a b) a) (right : (a b : ℕ) → R (better a b) b) (nearest : (x a b : ℕ) → R x a → R x b → R x (better a b))
    (same : (a b : ℕ) → R a b → R b a → a ≡ b) where
  module _ (p : ℕ → Bool) (f : ℕ → ℕ) (s : ℕ) where
    pub choose_start : (m : ℕ) → R (choose p f better s m) s
    unfolding turns
    choose_start zero = self s
    choose_start (suc m) = by (p m) (λ q. rw q (trans _ _ _ (left _ (f m)) (choose_start m))) (λ q. rw q (choose_start m))

    choose_nearest : (x m : ℕ) → R x s → ((j : ℕ) → j < m → p j ≡ true → R x (f j)) → R x (choose p f better s m)
    unfolding turns
    choose_nearest x zero l h = l
    choose_nearest x (suc m) l h =
        let r = choose_nearest x m l (λ j lj q. h j (omega arith) q) in by (p m) (λ q. rw q (nearest x _ _ r (h m (omega arith) q))) (λ q. rw q r)

  -- where each value of one is a value of the other
  pub choose_same : (p q : ℕ → Bool) (f g : ℕ → ℕ) (s m n : ℕ) → ((j : ℕ) → j < m → p j ≡ true → (i : ℕ) × (i < n) × (q i ≡ true) × (g i ≡ f j))
      → ((i : ℕ) → i < n → q i ≡ true → (j : ℕ) × (j < m) × (p j ≡ true) × (f j ≡ g i)) → choose p f better s m ≡ choose q g better s n
  choose_same p q f g s m n there back =
      same _ _
      (choose_nearest q g s _ n (choose_start p f s m) (λ i l t. let (j, lj, tj, e) = back i l t in rw (← e) (choose_of p f better s R trans left right m j lj tj)))
      (choose_nearest p f s _ m (choose_start q g s n) (λ j l t. let (i, li, ti, e) = there j l t in rw (← e) (choose_of q g better s R trans left right n i li ti)))

  -- where what they give differs it is not the best of the one, and the best is no worse than the other gives
  pub choose_kept : ((a b : ℕ) → (better a b ≡ a) ⊎ (better a b ≡ b)) → (p : ℕ → Bool) (f g : ℕ → ℕ) (s m : ℕ)
      → ((j : ℕ) → j < m → p j ≡ true → (f j ≡ g j) ⊎ ((f j ≡ choose p f better s m → ⊥) × R (choose p f better s m) (g j))) → choose p f better s m ≡ choose p g better s m
  choose_kept one p f g s m h =
      same _ _
      (choose_nearest p g s _ m (choose_start p f s m) (λ j l t. either (h j l t) (λ e. rw (← e) (choose_of p f better s R trans left right m j l t)) (λ w. w.1)))
      (either (choose_is p f better s one m) (λ e. rw e (choose_start p g s m))
      (λ (j, l, t, e). either (h j l t) (λ q. rw (← e, q) (choose_of p g better s R trans left right m j l t)) (λ w. absurd (w.0 e))))
