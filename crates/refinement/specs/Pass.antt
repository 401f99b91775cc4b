-- The passes: what a visit of a cluster does, a pass, passes until one moves nothing, and down the rungs (document 01, "Moves"; document 02, a).
use Rattle.std.specs.Prelude.{ℕ, zero, suc, ◌+◌, ◌*◌, min, max, Bool, true, false, not, ◌&&◌, ◌||◌, List, eqb, ltb, leb, pos, get_or}
use Rattle.std.specs.Int.Signed.{lt_z}
use Rattle.folds.specs.Fold.{pick, when, sum_to, any_to, turns, best_to}
use Rattle.graph.specs.Graph.{Graph, vertices, edges, via, cut_of, part_cost}
use Rattle.graph.specs.Rows.{clusters}
use Rattle.graph.specs.Table.{part_size}
use Rattle.refinement.specs.Move.{moved_to, part_of, leaves, pull, gain_to, larger_cost}

-- s, and the part at the far end of edge j where that edge leaves h
unfoldable pub lowered : List ℕ → List ℕ → List ℕ → List ℕ → ℕ → ℕ → ℕ → ℕ
lowered row near far parts h j s = pick (leaves row near far h j) (min s (via parts far j)) s

unfoldable pub raised : List ℕ → List ℕ → List ℕ → List ℕ → ℕ → ℕ → ℕ → ℕ
raised row near far parts h j s = pick (leaves row near far h j) (max s (via parts far j + 1)) s

-- the lowest part among the successors of h, or k
unfoldable pub lowest_next : Graph → ℕ → List ℕ → List ℕ → ℕ → ℕ
lowest_next G k row parts h = turns (edges G) (lowered row G.starts G.ends parts h) k

-- one more than the highest part among the predecessors of h, or 0
unfoldable pub above_before : Graph → List ℕ → List ℕ → ℕ → ℕ
above_before G row parts h = turns (edges G) (raised row G.ends G.starts parts h) 0

-- document 01, allowed: the new stage stays within the limit and the old one is not emptied
unfoldable pub stays : Graph → List ℕ → List ℕ → ℕ → Bool
stays G row parts h = any_to (vertices G) (λ v. eqb (get_or parts v 0) (part_of row parts h) && not (eqb (get_or row v 0) h))

unfoldable pub allows : Graph → ℕ → List ℕ → List ℕ → ℕ → ℕ → Bool
allows G bound row parts h t = leb (part_size G (moved_to row h t parts) t) bound && stays G row parts h

-- t, below k, is a candidate of h
unfoldable pub is_candidate : Graph → ℕ → List ℕ → List ℕ → ℕ → ℕ → Bool
is_candidate G k row parts h t =
    not (eqb (part_of row parts h) t) && (leb (above_before G row parts h) (t + 1) && leb t (lowest_next G k row parts h))

-- a gain above 0, or a gain of 0 by which the larger cost of the two parts falls
unfoldable pub improves : Graph → List ℕ → List ℕ → ℕ → ℕ → Bool
improves G row parts h t =
    let own = part_of row parts h in
    lt_z (pos 0) (gain_to G row parts h t)
    || (eqb (pull G row parts h t) (pull G row parts h own) && ltb (larger_cost G (moved_to row h t parts) own t) (larger_cost G parts own t))

-- where h goes: of the allowed candidates that improve the largest gain wins, ties to the lowest part (law `visit_takes`: this is what document 02, a says)
unfoldable pub target : Graph → ℕ → ℕ → List ℕ → List ℕ → ℕ → ℕ
target G k bound row parts h =
    best_to k (λ t. is_candidate G k row parts h t && (allows G bound row parts h t && improves G row parts h t))
    (λ a b. lt_z (gain_to G row parts h a) (gain_to G row parts h b)) (part_of row parts h)

-- a table, the moves of gain above 0 so far, and whether the pass at hand has moved something
pub record Tally : Type 0 where
  pub parts : List ℕ
  pub moves : ℕ
  pub moved : Bool

-- before a pass
abbrev pub tally_of : List ℕ → ℕ → Tally
tally_of parts moves = record { parts = parts; moves = moves; moved = false }

-- a visit of cluster h
unfoldable pub settled_at : Graph → List ℕ → ℕ → ℕ → Tally → Tally
settled_at G row h t s =
    pick (eqb t (part_of row s.parts h)) s
    (record { parts = moved_to row h t s.parts; moves = s.moves + when (lt_z (pos 0) (gain_to G row s.parts h t)) 1; moved = true })

unfoldable pub visited : Graph → ℕ → ℕ → List ℕ → ℕ → Tally → Tally
visited G k bound row h s = settled_at G row h (target G k bound row s.parts h) s

-- document 01: a pass visits groups in number order
unfoldable pub pass_of : Graph → ℕ → ℕ → List ℕ → Tally → Tally
pass_of G k bound row s = turns (clusters row) (visited G k bound row) (tally_of s.parts s.moves)

-- the sum of the squares of the parts' costs, which evening out lowers, and a bound of it
unfoldable pub spread : Graph → ℕ → List ℕ → ℕ
spread G k parts = sum_to k (λ u. part_cost G.costs parts u * part_cost G.costs parts u)

unfoldable pub most_spread : Graph → ℕ → ℕ
most_spread G k = let all = sum_to (vertices G) (λ v. get_or G.costs v 0) in k * (all * all)

-- what each move lowers: the cut, or at the same cut the spread
unfoldable pub measure : Graph → ℕ → List ℕ → ℕ
measure G k parts = cut_of G parts * suc (most_spread G k) + spread G k parts

-- the most passes that there can be: each but the last moves something
unfoldable pub passes : Graph → ℕ → List ℕ → ℕ
passes G k parts = suc (measure G k parts)

-- document 01: passes repeat until one moves nothing (law `passes_end`: the fuel suffices)
unfoldable pub repeated : Graph → ℕ → ℕ → List ℕ → ℕ → Tally → Tally
repeated G k bound row zero s = s
repeated G k bound row (suc fuel) s =
    let next = repeated G k bound row fuel (pass_of G k bound row s) in pick (pass_of G k bound row s).moved next (pass_of G k bound row s)

unfoldable pub refined_on : Graph → ℕ → ℕ → List ℕ → Tally → Tally
refined_on G k bound row s = repeated G k bound row (passes G k s.parts) s

-- on rung r - 1 and then on each lower one
unfoldable pub refined_below : Graph → ℕ → ℕ → (ℕ → List ℕ) → ℕ → Tally → Tally
refined_below G k bound rows zero s = s
refined_below G k bound rows (suc r) s = refined_below G k bound rows r (refined_on G k bound (rows r) s)

-- the table and the number of moves that the refinement answers, from a table on a rung
unfoldable pub refined : Graph → ℕ → ℕ → (ℕ → List ℕ) → ℕ → List ℕ → Tally
refined G k bound rows rung parts = refined_below G k bound rows (suc rung) (tally_of parts 0)
