-- What the code answers, by the definitions.
use Rattle.std.specs.Prelude.{ℕ, suc, Option, Some, None, ◌*◌, ◌<◌, ◌≤◌, ◌≡◌, List, length, take}
use Rattle.folds.specs.Fold.{over}
use Rattle.graph.specs.Graph.{Graph, vertices, seen}
use Rattle.graph.specs.Rows.{clusters, rows_in}
use Rattle.graph.specs.Coarse.{LinkedAt}
use Rattle.topology.specs.Order.{order_of}
use Rattle.division_table.specs.Division.{Pick, none, some}
use Rattle.initial.specs.Initial.{Chosen, found, uncut}
use Rattle.initial.specs.declared.FirstCut.{FirstCut}

-- the cut that is found
abbrev pub found_of : Pick (List ℕ) → Option ℕ
found_of none = None
found_of (some c t) = Some c

-- the table afterwards: untouched where nothing is found
abbrev pub table_with : Pick (List ℕ) → List ℕ → List ℕ
table_with none old = old
table_with (some c t) old = over t old

pub record DividedAs (p : Pick (List ℕ)) (old new : List ℕ) (r : Option ℕ) : Type 0 where
  pub is : r ≡ found_of p
  pub table : new ≡ table_with p old

abbrev pub initial_as : Chosen → Option FirstCut
initial_as uncut = None
initial_as (found r t c) = Some (record { row = r; cut = c })

abbrev pub chosen_after : Chosen → List ℕ → List ℕ
chosen_after uncut old = old
chosen_after (found r t c) old = over t old

pub record Chooses (x : Chosen) (old new : List ℕ) (r : Option FirstCut) : Type 0 where
  pub is : r ≡ initial_as x
  pub table : new ≡ chosen_after x old

-- rows 0 to top lie in the slice, and the table has an entry for each vertex
pub record Borrowed (n k top : ℕ) (rows table : List ℕ) : Type 0 where
  pub parts : (0 < k) × (k ≤ 16)
  pub few : top < 9
  pub long : suc top * n ≤ length rows
  pub room : n ≤ length table

-- the front of `order` is the topological order of the row's clusters
abbrev pub OrderOf : Graph → List ℕ → List ℕ → Type 0
OrderOf G row order = take (clusters row) order ≡ order_of (seen G row) (clusters row)

-- the orders of the rows 0 to top, each from where its row starts
pub record OrdersStored (G : Graph) (rows : ℕ → List ℕ) (top : ℕ) (orders : List ℕ) : Type 0 where
  pub long : suc top * vertices G ≤ length orders
  pub is : (r : ℕ) → r ≤ top → OrderOf G (rows r) (rows_in orders (vertices G) r)

-- the links are those of the row that was cut
pub record LinkedThere (m : ℕ) (froms tos sizes head next : List ℕ) (x : Option FirstCut) : Type 0 where
  pub there : (f : FirstCut) → x ≡ Some f → LinkedAt m f.row froms tos sizes head next
