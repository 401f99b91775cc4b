-- Document 01's wrong turn: case 3 with the pairs (0,2) and (1,3) keeps rule 1 and rule 2 as the paper prints it, and makes a cycle.
use Prim.Native.Nat.{ℕ}
use mathlib.Core.Path.{◌≡◌, refl}
use mathlib.Core.Bool.{Bool, true, false, not, ◌&&◌}
use mathlib.Core.List.{List, [], ◌∷◌}
use Rattle.folds.specs.Fold.{sum_to, count_to, max_to, first_to, any_to, all_to, list_to, zeros}
use Rattle.graph.specs.Walk.{one, more, Cycle}
use Rattle.graph.specs.Graph.{Graph, graph_of, identity, Arcs, seen, edge, Edge}
use Rattle.topology.specs.Level.{rise, levels_after, levels_of, next_in}
use Rattle.contraction.specs.Rules.{Pair, pair}
use Rattle.contraction.specs.Tests.{all_of, only_successor, only_predecessor, rule_one, rule_two, fits, keeps}
use Rattle.contraction.specs.Next.{mate_of, together, lowest_of, leads, numbered, joined_row, next_row_of}

unfoldable pub case3 : Graph
case3 = graph_of (1 ∷ 1 ∷ 1 ∷ 1 ∷ []) (0 ∷ 0 ∷ 1 ∷ 1 ∷ []) (2 ∷ 3 ∷ 2 ∷ 3 ∷ []) (1 ∷ 1 ∷ 1 ∷ 1 ∷ [])

-- its blocks, and their levels
abbrev blocks : Arcs
blocks = seen case3 (identity 4)

abbrev levels : List ℕ
levels = levels_of blocks 4

abbrev p : Pair
p = pair 0 2

abbrev q : Pair
q = pair 1 3

-- the second condition of the paper's Theorem 2 as printed: no edge from u of one pair to v of the other, or level(u) is not level(v) + 1
unfoldable pub printed_two : Pair → Pair → Bool
printed_two a b = not (edge blocks a.from b.to && next_in levels b.to a.from)

-- each of the two keeps rule 1
pub each_keeps : (rule_one blocks levels 4 p ≡ true) × (rule_one blocks levels 4 q ≡ true)
unfolding case3 identity list_to zeros max_to rise levels_after levels_of edge any_to first_to all_to next_in only_successor only_predecessor rule_one
each_keeps = (refl, refl)

-- and both keep rule 2 as printed
pub printed_keeps : (printed_two p q ≡ true) × (printed_two q p ≡ true)
unfolding case3 identity list_to zeros max_to rise levels_after levels_of edge any_to first_to next_in printed_two
printed_keeps = (refl, refl)

-- document 01's rule 2 refuses them
pub both_refused : keeps blocks levels 4 (p ∷ q ∷ []) ≡ false
unfolding case3 identity list_to zeros max_to rise levels_after levels_of edge any_to first_to all_to all_of next_in only_successor only_predecessor rule_one rule_two fits keeps
both_refused = refl

-- joined all the same, the two groups have edges both ways
pub both_cycle : Cycle (Edge (seen case3 (next_row_of (identity 4) (p ∷ q ∷ []))))
unfolding Cycle case3 identity list_to sum_to count_to edge any_to first_to mate_of together lowest_of leads numbered joined_row
both_cycle = (0, more (one {b = 1} refl) refl)
