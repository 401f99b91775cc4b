-- Checks 1 to 8 of document 01, in that order, each looking at the whole graph before the next.
use Rattle.std.specs.Prelude.{ℕ, ◌≡◌, Bool, true, not, ◌&&◌, ◌||◌, List, eqb, ltb, leb, length, get_or}
use Rattle.folds.specs.Fold.{pick, any_to, first_to}
use Rattle.graph.specs.Graph.{Graph, vertices, edges, identity, arcs}
use Rattle.topology.specs.Reach.{lowest_on_cycle}
use Rattle.validity.specs.declared.Cause.{Cause}
use Rattle.validity.specs.declared.Cause.TheVariants.{Vertices, Parts, Edges, Room, Cost, Ends, Repeat, Cycle}
use Rattle.validity.specs.Cause.{Verdict, Passed, Refused}

-- a fault of the whole graph, at place 0, or what is found next
abbrev pub refuse_if : Bool → Cause → Verdict → Verdict
refuse_if fault cause next = pick fault (Refused cause 0) next

-- the fault at the first of n, or what is found next
unfoldable pub refuse_at : Cause → ℕ → ℕ → Verdict → Verdict
refuse_at cause place n next = pick (ltb place n) (Refused cause place) next

-- document 01: the most blocks of a kit
abbrev pub most_vertices : ℕ
most_vertices = 512

-- 1: n is 0 or above the most
unfoldable pub bad_vertices : ℕ → ℕ → Bool
bad_vertices most n = eqb n 0 || ltb most n

-- 2: k is 0, above 16 or above n
unfoldable pub bad_parts : ℕ → ℕ → Bool
bad_parts k n = eqb k 0 || (ltb 16 k || ltb n k)

-- 3: wire lists of unequal length, or m above 1,024
unfoldable pub bad_edges : ℕ → ℕ → ℕ → Bool
bad_edges starts ends widths = not (eqb ends starts) || (not (eqb widths starts) || ltb 1024 starts)

-- 5: cost 0 or above the limit
unfoldable pub bad_cost : List ℕ → ℕ → ℕ → Bool
bad_cost costs bound v = eqb (get_or costs v 0) 0 || ltb bound (get_or costs v 0)

-- 6: wire end not a block, start = end, or width 0
unfoldable pub bad_ends : ℕ → List ℕ → List ℕ → List ℕ → ℕ → Bool
bad_ends n starts ends widths j =
    leb n (get_or starts j 0) || (leb n (get_or ends j 0) || (eqb (get_or starts j 0) (get_or ends j 0) || eqb (get_or widths j 0) 0))

-- 7: wire repeats an earlier start and end
unfoldable pub repeats : List ℕ → List ℕ → ℕ → Bool
repeats starts ends j = any_to j (λ i. eqb (get_or starts i 0) (get_or starts j 0) && eqb (get_or ends i 0) (get_or ends j 0))

-- 8: wires form a loop
unfoldable pub cycles_from : ℕ → List ℕ → List ℕ → Verdict
cycles_from n starts ends = refuse_at Cycle (lowest_on_cycle (arcs (identity n) starts ends) n) n Passed

unfoldable pub repeats_from : ℕ → List ℕ → List ℕ → Verdict
repeats_from n starts ends = refuse_at Repeat (first_to (length starts) (repeats starts ends)) (length starts) (cycles_from n starts ends)

-- 1 to 6, or what is found next; `room` is the verdict of check 4, which the caller knows: it lends the tables
unfoldable pub lists_from : ℕ → Graph → ℕ → ℕ → Bool → Verdict → Verdict
lists_from most G k bound room next =
    refuse_if (bad_vertices most (vertices G)) Vertices
    (refuse_if (bad_parts k (vertices G)) Parts
    (refuse_if (bad_edges (length G.starts) (length G.ends) (length G.widths)) Edges
    (refuse_if (not room) Room
    (refuse_at Cost (first_to (vertices G) (bad_cost G.costs bound)) (vertices G)
    (refuse_at Ends (first_to (edges G) (bad_ends (vertices G) G.starts G.ends G.widths)) (edges G) next)))))

-- all of them
unfoldable pub checked : ℕ → Graph → ℕ → ℕ → Bool → Verdict
checked most G k bound room = lists_from most G k bound room (repeats_from (vertices G) G.starts G.ends)

-- document 01: a kit is sound, and its lists accepted, if the call passes 1 to 8
abbrev pub Valid : Graph → ℕ → ℕ → Type 0
Valid G k bound = checked most_vertices G k bound true ≡ Passed
