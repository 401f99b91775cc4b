-- Gains compare as the widths do, and what improves is no less tied to the cluster than its own part.
use Prim.Native.Nat.{ℕ, ◌+◌, ◌≤◌}
use mathlib.Core.Path.{◌≡◌, refl, sym, ◌∙◌}
use mathlib.Core.List.{List}
use native.Mathlib.Omega.{arith}
use lib.Dec.{ltb}
use lib.IntN.{pos, +ℤ_invr}
use lib.Signed.{lt_z}
use borrow.Author.Tests.{ltb-true, ltb-false}
use Rattle.folds.specs.Fold.{when}
use Rattle.folds.proofs.Cases.{either}
use Rattle.graph.specs.Graph.{Graph}
use Rattle.refinement.specs.Move.{part_of, pull, gain_to, Improves}
use Rattle.refinement.proofs.Signed.{less_gain, above_zero}

module _ (G : Graph) (row parts : List ℕ) (h : ℕ) where
  pub gain_less : (a b : ℕ) → lt_z (gain_to G row parts h a) (gain_to G row parts h b) ≡ ltb (pull G row parts h a) (pull G row parts h b)
  unfolding gain_to
  gain_less a b = less_gain (pull G row parts h a) (pull G row parts h b) (pull G row parts h (part_of row parts h))

  pub gain_above : (t : ℕ) → lt_z (pos 0) (gain_to G row parts h t) ≡ ltb (pull G row parts h (part_of row parts h)) (pull G row parts h t)
  unfolding gain_to
  gain_above t = above_zero (pull G row parts h t) (pull G row parts h (part_of row parts h))

  pub zero_gain : (t : ℕ) → pull G row parts h t ≡ pull G row parts h (part_of row parts h) → gain_to G row parts h t ≡ pos 0
  unfolding gain_to
  zero_gain t e = rw e (+ℤ_invr (pos (pull G row parts h (part_of row parts h))))

  pub gain_zero : (t : ℕ) → gain_to G row parts h t ≡ pos 0 → pull G row parts h t ≡ pull G row parts h (part_of row parts h)
  gain_zero t e =
      let own = part_of row parts h in
      let z = zero_gain own refl in
      omega (
        arith,
        ltb-false (pull G row parts h own) (pull G row parts h t) (sym (gain_less own t) ∙ rw (z, e)),
        ltb-false (pull G row parts h t) (pull G row parts h own) (sym (gain_less t own) ∙ rw (z, e)),
      )

  pub improves_pull : (t : ℕ) → Improves G row parts h t
      → when (lt_z (pos 0) (gain_to G row parts h t)) 1 + pull G row parts h (part_of row parts h) ≤ pull G row parts h t
  improves_pull t b =
      either b (λ g. rw g (omega (arith, ltb-true (pull G row parts h (part_of row parts h)) (pull G row parts h t) (sym (gain_above t) ∙ g))))
      (λ x. rw x.0 (omega (arith, gain_zero t x.0)))
