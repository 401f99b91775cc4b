-- What depends on the rows of the kept rungs alone.
use Prim.Native.Nat.{ℕ, zero, suc, ◌≤◌, ◌<◌}
use mathlib.Core.Path.{◌≡◌, refl, ap}
use mathlib.Core.List.{List}
use native.Mathlib.Omega.{arith}
use Rattle.graph.specs.Graph.{Graph}
use Rattle.graph.specs.Table.{Good}
use Rattle.division_table.specs.Division.{Pick}
use Rattle.initial.specs.Initial.{highest, initial_of, chosen_of}
use Rattle.refinement.specs.Pass.{Tally, tally_of, refined_below, refined}
use Rattle.refinement.specs.Entries.{state_of, GoodAt}

highest_ext : (f g : ℕ → Pick (List ℕ)) (n : ℕ) → ((r : ℕ) → r < n → f r ≡ g r) → highest f n ≡ highest g n
unfolding highest
highest_ext f g zero e = refl
highest_ext f g (suc n) e = rw (e n (omega arith), highest_ext f g n (λ r l. e r (omega arith))) refl

module _ (G : Graph) (k bound : ℕ) {rows rows' : ℕ → List ℕ} where
  pub chosen_ext : (top : ℕ) → ((r : ℕ) → r ≤ top → rows r ≡ rows' r) → chosen_of G k bound rows top ≡ chosen_of G k bound rows' top
  unfolding chosen_of
  chosen_ext top e = highest_ext _ _ (suc top) (λ r l. ap (initial_of G k bound) (e r (omega arith)))

  below_ext : (r : ℕ) (s : Tally) → ((q : ℕ) → q < r → rows q ≡ rows' q) → refined_below G k bound rows r s ≡ refined_below G k bound rows' r s
  unfolding refined_below
  below_ext zero s e = refl
  below_ext (suc r) s e = rw (e r (omega arith)) (below_ext r _ (λ q l. e q (omega arith)))

  pub refined_ext : (rung : ℕ) (parts : List ℕ) → ((q : ℕ) → q ≤ rung → rows q ≡ rows' q) → refined G k bound rows rung parts ≡ refined G k bound rows' rung parts
  unfolding refined
  refined_ext rung parts e = below_ext (suc rung) (tally_of parts 0) (λ q l. e q (omega arith))

-- a table that is good on its row starts a list of moves
module _ {G : Graph} {k bound : ℕ} {rows : ℕ → List ℕ} {top rung : ℕ} {parts : List ℕ} where
  pub good_start : rung ≤ top → Good G k bound (rows rung) parts → GoodAt G k bound rows top (state_of rung parts)
  good_start l I = record { kept = l; table = I }
