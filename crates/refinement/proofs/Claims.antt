-- The claims about moves: THE LAW OF MOVES, the refinement's own moves, and that its passes end.
use Prim.Native.Nat.{ℕ, suc, ◌+◌, ◌≤◌, ◌<◌}
use mathlib.Core.Path.{◌≡◌}
use mathlib.Core.Logic.{◌↔◌}
use mathlib.Core.List.{List}
use native.Mathlib.Omega.{arith}
use lib.IntN.{pos, ◌+ℤ◌}
use lib.ListN.{length, get_or, take}
use Rattle.graph.specs.Graph.{Graph, cut_of, Proper}
use Rattle.graph.specs.Rows.{clusters, Hierarchy}
use Rattle.refinement.specs.Entries.{State, state_of, Entry, down, after, AllAllowed, cut_at, gain, gains, GoodAt}
use Rattle.refinement.specs.Pass.{target, Tally, tally_of, pass_of, passes, refined_on, refined_below, refined}
use Rattle.refinement.specs.Own.{Taken, moves_from, own_moves, Took}
use Rattle.refinement.proofs.Entries.{nested, good_after, cut_after, cut_total}
use Rattle.refinement.proofs.Visits.{target_taken, taken_one}
use Rattle.refinement.proofs.Own.{own_from, took_good, took_few, repeat_ends}

module _ (G : Graph) (P : Proper G) (k bound : ℕ) (rows : ℕ → List ℕ) (top : ℕ) (H : Hierarchy G rows top) where
  -- for every list of allowed entries from a good start, whoever picked them: at the start and after each entry all of `GoodAt` holds, and with each
  -- entry the cut falls by exactly its gain (a step down gains 0, and leaves the table)
  pub moves_law : (s : State) → GoodAt G k bound rows top s → (es : List Entry) → AllAllowed G k bound rows es s
      → ((i : ℕ) → GoodAt G k bound rows top (after rows (take i es) s))
      × ((i : ℕ) → i < length es → pos (cut_at G (after rows (take i es) s)) ≡ pos (cut_at G (after rows (take (suc i) es) s)) +ℤ gain G rows (get_or es i down) (after rows (take i es) s))
  moves_law s I es a = (good_after G P k bound rows top (nested H) es s I a, cut_after G P k bound rows top (nested H) es s I a)

  -- the refinement's own moves from a good start are such a list, each of gain above 0 or of gain 0 that evens, with as many steps down as the rung, to
  -- rung 0 and the table answered; its moves of gain above 0 number the moves answered, and the first cut is the cut answered plus the gains
  pub own_moves_lem : (rung : ℕ) (parts : List ℕ) → GoodAt G k bound rows top (state_of rung parts)
      → Took G k bound rows (own_moves G k bound rows rung parts) (state_of rung parts) (state_of 0 (refined G k bound rows rung parts).parts) (refined G k bound rows rung parts).moves rung
      × (pos (cut_of G parts) ≡ pos (cut_of G (refined G k bound rows rung parts).parts) +ℤ gains G rows (own_moves G k bound rows rung parts) (state_of rung parts))
  unfolding refined own_moves
  own_moves_lem rung parts I =
      let (m, x, c) = own_from G P k bound rows top (nested H) rung (tally_of parts 0) in
      let q : m ≡ (refined_below G k bound rows (suc rung) (tally_of parts 0)).moves = omega arith in
      let y = rw q at x in
      (y, rw y.ends at (cut_total G P k bound rows top (nested H) (moves_from G k bound rows rung (tally_of parts 0)) (state_of rung parts) I y.allowed).1)

  -- the moves answered are never more than the first cut less the cut answered
  pub few_moves : (rung : ℕ) (parts : List ℕ) → GoodAt G k bound rows top (state_of rung parts)
      → (refined G k bound rows rung parts).moves + cut_of G (refined G k bound rows rung parts).parts ≤ cut_of G parts
  few_moves rung parts I = took_few G P k bound rows top (nested H) I (own_moves_lem rung parts I).0

  -- the table answered is good on rung 0
  pub refined_good : (rung : ℕ) (parts : List ℕ) → GoodAt G k bound rows top (state_of rung parts) → GoodAt G k bound rows top (state_of 0 (refined G k bound rows rung parts).parts)
  refined_good rung parts I = took_good G P k bound rows top (nested H) I (own_moves_lem rung parts I).0

  -- a visit in a pass takes the part that document 02, a names, and no other part is that one
  pub visit_takes : (s : State) (h : ℕ) → h < clusters (rows s.rung) → (t : ℕ)
      → Taken G k bound (rows s.rung) s.parts h t ↔ (t ≡ target G k bound (rows s.rung) s.parts h)
  visit_takes s h l t =
      let own = target_taken G (rows s.rung) s.parts h k bound l in (λ x. taken_one G (rows s.rung) s.parts h t _ x own, λ e. rw e own)

  -- the passes end: on each rung the fuel suffices, and the last pass moves nothing
  pub passes_end : (r : ℕ) (s : Tally) → GoodAt G k bound rows top (state_of r s.parts) → pass_of G k bound (rows r) (refined_on G k bound (rows r) s) ≡ refined_on G k bound (rows r) s
  unfolding refined_on passes
  passes_end r s I = repeat_ends G P k bound rows top (nested H) r (passes G k s.parts) s I (omega arith)
