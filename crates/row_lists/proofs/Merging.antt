-- The clusters' costs, one old cluster after another.
use Prim.Native.Nat.{ℕ, ◌+◌, ◌-◌, ◌≤◌, ◌<◌}
use mathlib.Core.Path.{◌≡◌, sym, ◌∙◌}
use mathlib.Core.List.{List}
use native.Mathlib.Omega.{arith}
use lib.Dec.{eqb, ltb}
use lib.ListN.{length, get_or, set, length-set, get_or-append}
use lib.Seq.{get_or-append_right, get_or-drop}
use borrow.Author.Tests.{ltb-true, ltb-false}
use Rattle.folds.specs.Fold.{when, sum_to, put, zeros, most_cost}
use Rattle.folds.proofs.Cases.{by, when_le}
use Rattle.folds.proofs.Sums.{sum_to_zero, sum_to_step, sum_to_turn, sum_to_mono, sum_to_less}
use Rattle.folds.proofs.Slices.{length-put}
use Rattle.folds.proofs.Lists.{get_d_past, get_d_zeros, length-zeros, set_add}
use Rattle.row_lists.specs.Carry.{Merged}

pub merged_none : (map weights : List ℕ) → Merged map weights 0 (zeros 512)
merged_none map weights = record { tall = length-zeros 512; is = λ d. get_d_zeros 512 d ∙ sym (sum_to_zero _) }

pub merged_turn : {map weights weights' : List ℕ} {c d : ℕ} → Merged map weights c weights' → d ≡ get_or map c 0 → d < 512
    → Merged map weights (c + 1) (set weights' d (get_or weights' d 0 + get_or weights c 0))
merged_turn {map} {weights} {weights'} {c} {d} M e l =
    record {
      tall = length-set weights' d _ ∙ M.tall;
      is = λ x. set_add weights' d (get_or weights c 0) x (omega (arith, M.tall)) ∙ sum_to_turn (λ y. when (eqb (get_or map y 0) x) (get_or weights y 0)) (M.is x) (rw e);
    }

pub merged_room : {map weights weights' : List ℕ} {c g : ℕ} (d : ℕ) → Merged map weights c weights' → c < g → sum_to g (λ x. get_or weights x 0) ≤ most_cost → get_or weights' d 0 + get_or weights c 0 ≤ most_cost
merged_room {map} {weights} {weights'} {c} {g} d M l h =
    omega (
      arith,
      M.is d,
      sum_to_mono c (λ x. when (eqb (get_or map x 0) d) (get_or weights x 0)) (λ x. get_or weights x 0) (λ x _. when_le (eqb (get_or map x 0) d) (get_or weights x 0)),
      sum_to_step c (λ x. get_or weights x 0),
      sum_to_less (λ x. get_or weights x 0) (c + 1) g (omega arith),
    )

-- the vertices' costs, in front of zeros
pub weighed_all : (costs : List ℕ) {weights : List ℕ} → length costs ≤ 512 → weights ≡ put (zeros 512) 0 costs → (length weights ≡ 512) × ((c : ℕ) → get_or weights c 0 ≡ get_or costs c 0)
unfolding put
weighed_all costs h e = (
  rw e (length-put (zeros 512) 0 costs (omega (arith, h, length-zeros 512)) ∙ length-zeros 512),
  λ c. rw e (by (ltb c (length costs))
      (λ t. get_or-append costs _ 0 c (ltb-true c _ t))
      (λ t. get_or-append_right costs _ c 0 (ltb-false c _ t) ∙ get_or-drop (0 + length costs) (zeros 512) (c - length costs) 0
      ∙ get_d_zeros 512 _ ∙ sym (get_d_past costs c (ltb-false c _ t)))),
)
