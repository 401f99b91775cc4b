-- The initial partition (document 01: first cut): the least division of a row's topological order, on the highest row that has one.
use Rattle.std.specs.Prelude.{ℕ, zero, suc, ◌<◌, ◌≤◌, ◌≡◌, Bool, ◌&&◌, List, leb, ltb, length, get_or}
use Rattle.folds.specs.Fold.{list_to}
use Rattle.graph.specs.Graph.{Graph, Arcs, seen, cut_of}
use Rattle.graph.specs.Rows.{clusters}
use Rattle.graph.specs.Table.{size_of}
use Rattle.topology.specs.Order.{order_of, place_in}
use Rattle.division_table.specs.Division.{fits, Feasible, interval_of, divisions, NotAfter, Pick, none, some, least}

-- the position of each vertex: the place of its cluster in the topological order (document 01: play order) of the row's clusters
unfoldable pub places_in : Arcs → ℕ → List ℕ → List ℕ
places_in A g row = let order = order_of A g in list_to (length row) (λ v. place_in order (get_or row v 0))

abbrev pub places_of : Graph → List ℕ → List ℕ
places_of G row = places_in (seen G row) (clusters row) row

-- the size of what lies at the positions y to x - 1 (document 01: a run)
unfoldable pub run_size : Graph → List ℕ → ℕ → ℕ → ℕ
run_size G places y x = size_of G (λ v. leb y (get_or places v 0) && ltb (get_or places v 0) x)

-- THE TEST of an interval, positions y to x - 1 (document 01: a run within the limit): its size is at most the bound
unfoldable pub roomy : Graph → ℕ → List ℕ → ℕ → ℕ → Bool
roomy G bound places y x = leb (run_size G places y x) bound

-- the table that a division gives: the part of a vertex is the interval of its position
unfoldable pub parts_of : List ℕ → List ℕ → List ℕ
parts_of places d = list_to (length places) (λ v. interval_of d (get_or places v 0))

-- d divides the row's topological order into exactly k non-empty intervals that pass the test
abbrev pub Divides : Graph → ℕ → ℕ → List ℕ → List ℕ → Type 0
Divides G k bound row d = Feasible (clusters row) (roomy G bound (places_of G row)) k d

abbrev pub given_by : Graph → List ℕ → List ℕ → List ℕ
given_by G row d = parts_of (places_of G row) d

abbrev pub tabled : List ℕ → Pick (List ℕ) → Pick (List ℕ)
tabled places none = none
tabled places (some c d) = some c (parts_of places d)

-- of all divisions into k that pass the test the one whose parts have the least cut, the first among equals: its cut and its table
unfoldable pub least_parts : Graph → ℕ → List ℕ → ℕ → ℕ → Pick (List ℕ)
least_parts G bound places g k = tabled places (least (fits g (roomy G bound places) 0) (λ d. cut_of G (parts_of places d)) (divisions g k))

unfoldable pub initial_of : Graph → ℕ → ℕ → List ℕ → Pick (List ℕ)
initial_of G k bound row = least_parts G bound (places_of G row) (clusters row) k

-- the row that is cut (document 01: cutat), the table and its cut; or none can be cut
pub data Chosen : Type 0 where
  found : ℕ → List ℕ → ℕ → Chosen
  uncut : Chosen

abbrev pub or_lower : ℕ → Pick (List ℕ) → Chosen → Chosen
or_lower r none lower = lower
or_lower r (some c t) lower = found r t c

-- the highest of the rows below r that can be cut; where none can be, nothing (refusal 9)
unfoldable pub highest : (ℕ → Pick (List ℕ)) → ℕ → Chosen
highest f zero = uncut
highest f (suc r) = or_lower r (f r) (highest f r)

-- document 01: the highest kept rung whose play order can be divided
unfoldable pub chosen_of : Graph → ℕ → ℕ → (ℕ → List ℕ) → ℕ → Chosen
chosen_of G k bound rows top = highest (λ r. initial_of G k bound (rows r)) (suc top)

-- what is claimed of the row, the table and the cut that are found (document 01, demand 3: the first cut is least)
pub record LeastCut (G : Graph) (k bound : ℕ) (rows : ℕ → List ℕ) (top r : ℕ) (table : List ℕ) (c : ℕ) : Type 0 where
  pub kept : r ≤ top
  pub cuts : c ≡ cut_of G table
  -- a division of that row's order gives the table
  pub starts : List ℕ
  pub divides : Divides G k bound (rows r) starts
  pub gives : table ≡ given_by G (rows r) starts
  -- every other one cuts at least as much, and those that cut as much do not come before it
  pub least : (e : List ℕ) → Divides G k bound (rows r) e → c ≤ cut_of G (given_by G (rows r) e)
  pub first : (e : List ℕ) → Divides G k bound (rows r) e → cut_of G (given_by G (rows r) e) ≡ c → NotAfter starts e
  -- higher kept rows have none
  pub higher : (q : ℕ) → r < q → q ≤ top → (e : List ℕ) → Divides G k bound (rows q) e → ⊥
