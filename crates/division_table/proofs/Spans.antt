-- Sums over the code's arrays are those of the intervals from y on.
use Prim.Native.Nat.{ℕ, ◌+◌, ◌*◌, ◌≤◌, ◌<◌}
use mathlib.Core.Path.{◌≡◌, sym, ◌∙◌}
use mathlib.Core.Bool.{◌&&◌}
use mathlib.Core.List.{List}
use native.Mathlib.Omega.{arith}
use lib.Dec.{ltb, leb, eqb}
use lib.ListN.{get_or}
use borrow.Author.Tests.{lt-leb}
use Rattle.folds.specs.Fold.{when, sum_to}
use Rattle.folds.proofs.Cases.{when_le}
use Rattle.folds.proofs.Sums.{sum_to_none, sum_to_le}
use Rattle.division_table.specs.Division.{between}
use Rattle.division_table.specs.Promises.{span}
use Rattle.division_table.proofs.Intervals.{between_none, between_next, leaving, out_of, into_from, leaving_none, leaving_next}
use Rattle.division_table.proofs.Tables.{upward, span_next}

pub span_none : (l : List ℕ) (y : ℕ) → span l y y ≡ 0
unfolding span
span_none l y = sum_to_none y _ (λ i h. rw (lt-leb y i h))

-- entries that are the sums of what lies at each position
pub span_between : (n : ℕ) (p c : ℕ → ℕ) (l : List ℕ) (y g : ℕ) → ((x : ℕ) → y ≤ x → x < g → get_or l x 0 ≡ sum_to n (λ v. when (eqb (p v) x) (c v)))
    → (x : ℕ) → y ≤ x → x ≤ g → span l y x ≡ between n p c y x
span_between n p c l y g e =
    upward (λ x. span l y x ≡ between n p c y x) y g (span_none l y ∙ sym (between_none n p c y))
    (λ x h k i. omega (arith, span_next l y x h, between_next n p c y x h, e x h k))

pub between_small : (n : ℕ) (p c : ℕ → ℕ) (y x b : ℕ) → ((v : ℕ) → c v ≤ b) → between n p c y x ≤ n * b
unfolding between
between_small n p c y x b h = sum_to_le n b _ (λ v. omega (arith, when_le (leb y (p v) && ltb (p v) x) (c v), h v))

-- what leaves the interval, by what leaves each position and what comes into it
pub span_leaves : (m : ℕ) (s e w : ℕ → ℕ) → ((j : ℕ) → j < m → s j ≤ e j) → (away into : List ℕ) (y g : ℕ)
    → ((x : ℕ) → y ≤ x → x < g → get_or away x 0 ≡ out_of m s e w x) → ((x : ℕ) → y ≤ x → x < g → get_or into x 0 ≡ into_from m s e w y x)
    → (x : ℕ) → y ≤ x → x ≤ g → span away y x ≡ leaving m s e w y x + span into y x
span_leaves m s e w forward away into y g a i =
    upward (λ x. span away y x ≡ leaving m s e w y x + span into y x) y g (omega (arith, span_none away y, span_none into y, leaving_none m s e w y))
    (λ x h k q. omega (arith, span_next away y x h, span_next into y x h, leaving_next m s e w forward y x h, a x h k, i x h k))
