-- The whole inspection, from what its steps answered; and the claim about it.
use Prim.Native.Nat.{ℕ, ◌≤◌}
use mathlib.Core.Path.{◌≡◌, refl, sym, ◌∙◌}
use mathlib.Core.Bool.{Bool, true, ◌&&◌}
use mathlib.Core.Logic.{◌↔◌}
use mathlib.Core.List.{List, [], ◌∷◌}
use Rattle.std.specs.Prelude.{Result}
use Rattle.validity.specs.declared.Refusal.{Refusal}
use native.Mathlib.Omega.{arith}
use lib.Dec.{leb}
use lib.ListN.{length}
use lib.Seq.{length-take-le}
use borrow.Author.Tests.{leb-true, le-leb}
use Rattle.folds.proofs.Cases.{both}
use Rattle.graph.specs.Graph.{Graph, vertices, seen, cut_of, Proper}
use Rattle.validity.specs.Cause.{refusal, told, Verdict, Passed, Refused}
use Rattle.validity.specs.Check.{checked, Valid}
use Rattle.validity.specs.Sound.{Sound}
use Rattle.validity.specs.declared.Cause.{Cause}
use Rattle.validity.proofs.Passed.{number_passed, passed_valid, valid_sound}
use Rattle.inspection.specs.Table.{table_of, Fine}
use Rattle.inspection.specs.Inspect.{answer_of, parts_of, verdict_of, inspect_of, order_after}
use Rattle.inspection.specs.Promises.{TableReady, Judged}
use Rattle.inspection.proofs.Tables.{passed_fine, fine_passed}

-- what the calls below answered: v of checks 1 to 8
module _ (G : Graph) (k bound : ℕ) (table order : List ℕ) (room : Bool) (v : Verdict)
    (er : room ≡ (leb (vertices G) (length table) && leb k (length order))) (ev : v ≡ checked 512 G k bound room) where
  pub refused_first : {cause : Cause} {place : ℕ} → v ≡ Refused cause place
      → (refusal cause place ≡ inspect_of G k bound table order) × (order ≡ order_after G k bound table order)
  unfolding inspect_of order_after verdict_of
  refused_first e = rw (← er, ← ev, e) (refl, refl)

  pub judged_all : {r : Result ℕ Refusal} {order' : List ℕ} → v ≡ Passed → Judged (table_of G k bound (parts_of G table)) (seen G (parts_of G table)) G.widths k order order' r
      → (answer_of r ≡ inspect_of G k bound table order) × (order' ≡ order_after G k bound table order)
  unfolding inspect_of order_after verdict_of
  judged_all e J = rw (← er, ← ev, e) (J.answer, J.after)

  -- where they passed, the rest is as the checks after them ask
  module _ (passed : v ≡ Passed) where
    valid : (Valid G k bound) × (room ≡ true)
    valid = passed_valid 512 G k bound room (omega arith) (sym ev ∙ passed)

    sound : Sound G k bound
    sound = valid_sound G k bound valid.0

    rooms : (vertices G ≤ length table) × (k ≤ length order)
    rooms =
        let (a, b) = both (leb (vertices G) (length table)) (leb k (length order)) (sym er ∙ valid.1) in
        (leb-true _ _ a, leb-true _ _ b)

    pub tabled : TableReady G k (parts_of G table) order
    unfolding parts_of
    tabled = record { proper = sound.proper; whole = length-take-le (vertices G) table rooms.0; few = sound.few; room = rooms.1 }

-- DEMAND 2: for a valid graph, inspection passes a table (with an entry for each vertex, and room for the start order) exactly if it is fine
pub inspection_exactly : (G : Graph) (k bound : ℕ) (table order : List ℕ) → Valid G k bound → vertices G ≤ length table → k ≤ length order
    → ((inspect_of G k bound table order).number ≡ 0) ↔ Fine G k bound (parts_of G table)
unfolding inspect_of verdict_of
inspection_exactly G k bound table order valid lt lo = (there, back)
  where
    checks : checked 512 G k bound (leb (vertices G) (length table) && leb k (length order)) ≡ Passed
    checks = rw (le-leb _ _ lt, le-leb _ _ lo) valid

    proper : Proper G
    proper = (valid_sound G k bound valid).proper

    there : (told (verdict_of G k bound table order) (cut_of G (parts_of G table) ∷ [])).number ≡ 0 → Fine G k bound (parts_of G table)
    there e = passed_fine G k bound (parts_of G table) proper (rw checks at (number_passed (verdict_of G k bound table order) _ e))

    back : Fine G k bound (parts_of G table) → (told (verdict_of G k bound table order) (cut_of G (parts_of G table) ∷ [])).number ≡ 0
    back F = rw (checks, fine_passed G k bound (parts_of G table) proper F)
