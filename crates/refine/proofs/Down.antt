-- Down the rungs, one row at a time.
use Prim.Native.Nat.{ℕ, zero, suc, ◌+◌, ◌-◌, ◌≤◌, ◌<◌, ◌^◌}
use mathlib.Core.Path.{◌≡◌, refl, sym, ap, subst, ◌∙◌}
use mathlib.Core.List.{List, ◌++◌}
use native.Mathlib.Omega.{arith}
use lib.ListN.{length, get_or, take, drop}
use Rattle.folds.specs.Fold.{over}
use Rattle.folds.proofs.Sums.{sum_to_le}
use Rattle.graph.specs.Graph.{Graph, vertices, edges, seen, crossing, cut, cut_of, Proper}
use Rattle.graph.specs.Rows.{Hierarchy, rows_in}
use Rattle.graph.specs.Table.{Good}
use Rattle.graph.proofs.Edges.{crossing_le}
use Rattle.refinement.specs.Entries.{state_of, GoodAt}
use Rattle.refinement.specs.Pass.{Tally, tally_of, refined_on, refined_below, refined}
use Rattle.refinement.proofs.Entries.{nested, good_down}
use Rattle.refinement.proofs.Own.{refined_steps, steps_good, steps_fall}
use Rattle.refinement.proofs.Claims.{refined_good}
use Rattle.part_sums.specs.declared.PartSums.{PartSums}
use Rattle.pass.specs.declared.Progress.{Progress}
use Rattle.refine.specs.Rung.{RowReady, Tracks, RefinedRow}
use Rattle.refine.specs.declared.Outcome.{Outcome}
use Rattle.refine.specs.Down.{Descends, Refined}

-- the rungs below r are still to come, and make R of the table
pub record Descent (G : Graph) (k bound : ℕ) (rows : ℕ → List ℕ) (top : ℕ) (R : Tally) (r : ℕ) (parts : List ℕ) (moves : ℕ) : Type 0 where
  pub within : r ≤ suc top
  pub good : Good G k bound (rows (r - 1)) parts
  pub rest : refined_below G k bound rows r (tally_of parts moves) ≡ R
  pub room : moves + cut_of G parts < 2 ^ 32

pub cut_small : (G : Graph) (parts : List ℕ) → edges G ≤ 1024 → ((j : ℕ) → get_or G.widths j 0 ≤ 65535) → cut_of G parts < 2 ^ 32
unfolding cut
cut_small G parts m w = omega (arith, sum_to_le (edges G) 65535 (crossing (seen G parts) G.widths) (crossing_le (seen G parts) G.widths 65535 w))

module _ (G : Graph) (P : Proper G) (k bound : ℕ) (few : k ≤ 16) (rows : ℕ → List ℕ) (top : ℕ) (H : Hierarchy G rows top) where
  pub descent_start : (parts : List ℕ) → Good G k bound (rows top) parts → cut_of G parts < 2 ^ 32
      → Descent G k bound rows top (refined G k bound rows top parts) (top + 1) parts 0
  unfolding refined
  descent_start parts I small =
      let e : top + 1 ≡ suc top = omega arith in
      let d : top ≡ suc top - 1 = omega arith in
      rw e
      (record {
        within = omega arith;
        good = subst (λ (x : ℕ). Good G k bound (rows x) parts) d I;
        rest = refl;
        room = omega arith;
      })

  good_lower : (r : ℕ) (parts : List ℕ) → GoodAt G k bound rows top (state_of r parts) → Good G k bound (rows (r - 1)) parts
  good_lower zero parts I = I.table
  good_lower (suc r) parts I =
      let d : r ≡ suc r - 1 = omega arith in
      subst (λ (x : ℕ). Good G k bound (rows x) parts) d (good_down G P k bound rows top (nested H) (state_of (suc r) parts) r refl I).table

  module _ (R : Tally) (r : ℕ) (parts : List ℕ) (moves : ℕ) (x : Descent G k bound rows top R r parts moves) where
    descent_ready : 0 < r → RowReady G k bound (rows (r - 1)) parts moves
    descent_ready l =
        let q : r - 1 ≤ top = omega (arith, x.within) in
        record { proper = P; row_of = (H.layer (r - 1) q).row_of; onto = (H.layer (r - 1) q).onto; good = x.good; few = few; room = x.room }

    descent_turn : (parts' : List ℕ) (moves' : ℕ) → 0 < r → tally_of parts' moves' ≡ refined_on G k bound (rows (r - 1)) (tally_of parts moves) → Descent G k bound rows top R (r - 1) parts' moves'
    unfolding refined_below
    descent_turn parts' moves' l e =
        let steps = refined_steps G P k bound rows top (nested H) (r - 1) (tally_of parts moves) in
        let at : GoodAt G k bound rows top (state_of (r - 1) parts) = record { kept = omega (arith, x.within); table = x.good } in
        let good = steps_good G P k bound rows top (nested H) {s = tally_of parts moves} at steps in
        let fall = steps_fall G P k bound rows top (nested H) {s = tally_of parts moves} at steps in
        let p : parts' ≡ (refined_on G k bound (rows (r - 1)) (tally_of parts moves)).parts = ap (λ (t : Tally). t.parts) e in
        let m : moves' ≡ (refined_on G k bound (rows (r - 1)) (tally_of parts moves)).moves = ap (λ (t : Tally). t.moves) e in
        let d : r ≡ suc (r - 1) = omega arith in
        record {
          within = omega (arith, x.within);
          good = good_lower (r - 1) parts' (rw p good);
          rest = rw e (subst (λ (i : ℕ). refined_below G k bound rows i (tally_of parts moves) ≡ R) d x.rest);
          room = rw (p, m) (omega (arith, fall, x.room));
        }

    -- the same with the record of sums, whose count is k
    pub descent_at : {S : PartSums} {cut : ℕ} → 0 < r → Tracks G parts k S cut → RowReady G S.count bound (rows (r - 1)) parts moves × Tracks G parts S.count S cut
    descent_at {S} {cut} l s =
        (subst (λ (x : ℕ). RowReady G x bound (rows (r - 1)) parts moves) (sym s.sums.counts) (descent_ready l), subst (λ (x : ℕ). Tracks G parts x S cut) (sym s.sums.counts) s)

    pub descent_next : {S : PartSums} {cut : ℕ} (parts' : List ℕ) (q : Progress) → 0 < r → Tracks G parts k S cut → RefinedRow G S.count bound (rows (r - 1)) parts moves parts' q
        → Descent G k bound rows top R (r - 1) parts' q.moves × Tracks G parts' k q.sums q.cut
    descent_next parts' q l s w = let y = rw s.sums.counts at w in (descent_turn parts' q.moves l y.is, y.tracks)

    pub descent_end : r ≡ 0 → tally_of parts moves ≡ R
    unfolding refined_below
    descent_end e = rw e at x.rest

-- the caller's table, of which the front was refined
pub front_refined : {G : Graph} {k bound : ℕ} {rows : List ℕ} {rung : ℕ} (table : List ℕ) → Descends G k bound rows rung (take (vertices G) table)
    → (parts : List ℕ) {r : Outcome} → tally_of parts r.moves ≡ refined G k bound (rows_in rows (vertices G)) rung (take (vertices G) table) → r.cut ≡ cut_of G parts
    → Refined G k bound rows rung table (parts ++ drop (vertices G) table) r
unfolding over
front_refined {G} {k} {bound} {rows} {rung} table D parts e h =
    record { table_is = rw (← p, whole); moves_is = ap (λ (t : Tally). t.moves) e; cut_is = h ∙ ap (cut_of G) p }
  where
    p : parts ≡ (refined G k bound (rows_in rows (vertices G)) rung (take (vertices G) table)).parts
    p = ap (λ (t : Tally). t.parts) e

    whole : length parts ≡ vertices G
    whole =
        rw p
        (refined_good G D.proper k bound (rows_in rows (vertices G)) rung D.hierarchy rung (take (vertices G) table) (record { kept = omega arith; table = D.good })).table.whole
