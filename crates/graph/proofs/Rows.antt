-- What a hierarchy says of its rows.
use Prim.Native.Nat.{ℕ, zero, suc, ◌≤◌, ◌<◌}
use mathlib.Core.Path.{◌≡◌, refl}
use mathlib.Core.List.{List}
use native.Mathlib.Omega.{arith}
use lib.Dec.{eqb}
use lib.ListN.{length, get_or}
use borrow.Author.Tests.{eq-eqb}
use Rattle.folds.specs.Fold.{when, sum_to}
use Rattle.folds.proofs.Sums.{sum_to_ext, sum_to_mono, sum_to_member, sum_to_only, sum_to_swap}
use Rattle.graph.specs.Graph.{Graph, vertices, Formed, Proper}
use Rattle.graph.specs.Rows.{clusters, Layer, Hierarchy}
use Rattle.graph.specs.Links.{Joins}

ones : (n : ℕ) → sum_to n (λ i. 1) ≡ n
unfolding sum_to
ones zero = refl
ones (suc n) = omega (arith, ones n)

-- no more numbers are taken than there are vertices
pub onto_few : (n g : ℕ) (f : ℕ → ℕ) → ((v : ℕ) → v < n → f v < g) → ((c : ℕ) → c < g → (v : ℕ) × (v < n) × (f v ≡ c)) → g ≤ n
onto_few n g f below onto =
    let at : ℕ → ℕ → ℕ = λ c v. when (eqb (f v) c) 1 in
    let a : sum_to g (λ c. 1) ≤ sum_to g (λ c. sum_to n (at c)) = sum_to_mono g (λ c. 1) (λ c. sum_to n (at c)) (λ c l.
    let (v, h, e) = onto c l in
    let m : when (eqb (f v) c) 1 ≤ sum_to n (at c) = sum_to_member n (at c) v h in
    rw (eq-eqb (f v) c e) at m) in
    let b : sum_to n (λ v. sum_to g (λ c. at c v)) ≡ sum_to n (λ v. 1) = sum_to_ext n _ _ (λ v h. sum_to_only g (f v) (λ c. 1) (below v h)) in
    omega (arith, sum_to_swap g n at, ones g, ones n)

pub layer_few : {G : Graph} {row : List ℕ} → Layer G row → clusters row ≤ vertices G
layer_few {G} {row} L = onto_few (vertices G) (clusters row) (λ v. get_or row v 0) L.row_of.below L.onto

pub few_clusters : {G : Graph} {rows : ℕ → List ℕ} {top : ℕ} → Hierarchy G rows top → (r : ℕ) → r ≤ top → clusters (rows r) ≤ vertices G
few_clusters H r l = layer_few (H.layer r l)

-- edges between the vertices of a row or a table
pub proper_joins : {G : Graph} → Proper G → (row : List ℕ) → length row ≡ vertices G → ((v : ℕ) → v < length row → get_or row v 0 < 512) → Joins row G.starts G.ends
proper_joins {G} P row whole low =
    record {
      out = record { few = P.many; rows = rows; in_row = λ j l. omega (arith, F.start_in j l); low = low };
      into = record { few = omega (arith, P.many, F.same_ends); rows = rows; in_row = λ j l. omega (arith, F.end_in j (omega (arith, F.same_ends))); low = low };
      same = F.same_ends;
    }
  where
    F : Formed G
    F = P.formed

    rows : length row ≤ 512
    rows = omega (arith, P.few)
