-- The rank law, walks and paths.
use Prim.Native.Nat.{ℕ, ◌+◌, ◌<◌}
use mathlib.Core.Path.{◌≡◌}
use mathlib.Core.Bool.{Bool, true, false}
use native.Mathlib.Omega.{arith}
use lib.Dec.{eqb}
use borrow.Author.Tests.{eqb-true}
use Rattle.folds.specs.Fold.{count_to}
use Rattle.folds.proofs.Cases.{no_bool, by, either, one_of}
use Rattle.folds.proofs.Sums.{with, count_to_le, count_to_with}
use Rattle.graph.specs.Walk.{Walk, one, more, Cycle, Acyclic, Path, here, step}

-- THE RANK LAW: a number that rises with each edge rules cycles out
module _ (E : ℕ → ℕ → Type 0) (φ : ℕ → ℕ) (rises : (a b : ℕ) → E a b → φ a < φ b) where
  rank_rises : {a b : ℕ} → Walk E a b → φ a < φ b
  rank_rises (one e) = rises _ _ e
  rank_rises (more w e) = omega (arith, rank_rises w, rises _ _ e)

  pub rank_law : Acyclic E
  unfolding Acyclic Cycle
  rank_law l = omega (arith, rank_rises l.1)

-- the same where a rank is a relation: a number has at most one rank, and an edge has ranks at its ends, which rise
module _ (E Rank : ℕ → ℕ → Type 0) (one_rank : (a r s : ℕ) → Rank a r → Rank a s → r ≡ s)
    (rises : (a b : ℕ) → E a b → (r s : ℕ) × Rank a r × Rank b s × (r < s)) where
  ranks_rise : {a b : ℕ} → Walk E a b → (r s : ℕ) × Rank a r × Rank b s × (r < s)
  ranks_rise (one e) = rises _ _ e
  ranks_rise (more {b = b} w e) =
      let (r, s, ra, sb, l) = ranks_rise w in
      let (r', s', rb, sc, l') = rises _ _ e in
      (r, s', ra, sc, omega (arith, one_rank b s r' sb rb))

  pub ranks_law : Acyclic E
  unfolding Acyclic Cycle
  ranks_law (a, w) = let (r, s, ra, sa, l) = ranks_rise w in omega (arith, one_rank a r s ra sa)

-- an edge in front of a walk
pub ahead : {E : ℕ → ℕ → Type 0} {a b c : ℕ} → E a b → Walk E b c → Walk E a c
ahead e (one f) = more (one e) f
ahead e (more w f) = more (ahead e w) f

pub joined : {E : ℕ → ℕ → Type 0} {a b c : ℕ} → Walk E a b → Walk E b c → Walk E a c
joined v (one f) = more v f
joined v (more w f) = more (joined v w) f

-- a walk along edges of which each is one of F
pub walk_map : {E F : ℕ → ℕ → Type 0} {a b : ℕ} → ((x y : ℕ) → E x y → F x y) → Walk E a b → Walk F a b
walk_map f (one e) = one (f _ _ e)
walk_map f (more w e) = more (walk_map f w) (f _ _ e)

pub acyclic_map : {E F : ℕ → ℕ → Type 0} → ((x y : ℕ) → E x y → F x y) → Acyclic F → Acyclic E
unfolding Acyclic Cycle
acyclic_map f ac (a, w) = ac (a, walk_map f w)

-- the passed vertices, with v
pub with_next : {E : ℕ → ℕ → Type 0} {u v : ℕ} (p : ℕ → Bool) → E u v → ((x : ℕ) → p x ≡ true → Walk E v x) → (x : ℕ) → with p v x ≡ true → Walk E u x
unfolding with
with_next {v = v} p e after x t = either (one_of (eqb x v) (p x) t) (λ s. rw (eqb-true x v s) (one e)) (λ s. ahead e (after x s))

-- where there is no cycle, a path among n vertices has fewer than n edges
module _ (E : ℕ → ℕ → Type 0) (n : ℕ) (inside : (a b : ℕ) → E a b → a < n) (acyclic : Acyclic E) where
  fresh : (v : ℕ) (p : ℕ → Bool) → ((x : ℕ) → p x ≡ true → Walk E v x) → p v ≡ false
  unfolding Acyclic Cycle
  fresh v p after = by (p v) (λ t. absurd (acyclic (v, after v t))) (λ f. f)

  -- p: vertices that were passed after v
  path_room : {k v : ℕ} → Path E k v → v < n → (p : ℕ → Bool) → ((x : ℕ) → p x ≡ true → Walk E v x) → k + count_to n p < n
  path_room {v = v} here h p after = omega (arith, count_to_with n p v h (fresh v p after), count_to_le n (with p v))
  path_room {v = v} (step {k = k} {u = u} q e) h p after =
      omega (arith, path_room q (inside u v e) (with p v) (with_next p e after), count_to_with n p v h (fresh v p after))

  pub path_short : {k v : ℕ} → Path E k v → v < n → k < n
  path_short q h = omega (arith, path_room q h (λ x. false) (λ x t. absurd (no_bool t)))
