-- What the code finds of edges between positions.
use Rattle.std.specs.Prelude.{ℕ, List, length}
use Rattle.division_table.specs.Promises.{next_by, starts_by}
use Rattle.division_scan.specs.Scan.{Gathered, leaving_by, CutsKnown}
use Rattle.division_scan.specs.declared.edges.PlacedEdges.{PlacedEdges}
use Rattle.division_scan.specs.declared.edges.Limits.{Limits}

-- what leaves the interval of positions y to x - 1
abbrev pub leaving_in : PlacedEdges → ℕ → ℕ → ℕ
leaving_in e = leaving_by e.places.now e.starts.now e.ends.now e.widths.now

-- the edges that start at y: their width is `sum`, and what they add has come in
abbrev pub GatheredAt : PlacedEdges → ℕ → List ℕ → List ℕ → ℕ → Type 0
GatheredAt e y into into' sum = Gathered e.places.now e.starts.now e.ends.now e.widths.now y (length e.starts.now) into into' sum

-- the least start that follows y, where j follow it; n starts, each the next of the one before
abbrev pub next_in : PlacedEdges → List ℕ → ℕ → ℕ → ℕ
next_in e cuts j y = next_by (length e.places.now) (leaving_in e) cuts j y

abbrev pub starts_in : PlacedEdges → List ℕ → ℕ → List ℕ
starts_in e cuts n = starts_by (length e.places.now) (leaving_in e) cuts n 0

-- the least cuts that a division with n starts can have
abbrev pub CutsOf : PlacedEdges → Limits → ℕ → List ℕ → List ℕ → Type 0
CutsOf e l n away cuts = CutsKnown n e.places.now e.starts.now e.ends.now e.widths.now l.cost.now l.bound (length e.places.now) 0 away cuts
