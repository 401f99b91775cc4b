-- One row: what its positions ask, and what the arrays of positions give the search.
use Prim.Native.Nat.{ℕ, suc, ◌-◌, ◌≤◌, ◌<◌}
use mathlib.Core.Path.{◌≡◌, refl, ap, sym, ◌∙◌}
use mathlib.Core.List.{List}
use native.Mathlib.Omega.{arith}
use lib.Dec.{ltb}
use lib.ListN.{length, get_or, take, length-take}
use lib.Seq.{get_or-take}
use borrow.Author.Tests.{ltb-true, ltb-false}
use Rattle.folds.specs.Fold.{over}
use Rattle.folds.proofs.Cases.{by}
use Rattle.folds.proofs.Lists.{get_d_past}
use Rattle.folds.proofs.Slices.{take-over, length_over}
use Rattle.graph.specs.Graph.{Graph, graph_of, vertices, via, joining, seen, through, cut_of, RowOf, Inside, Proper}
use Rattle.graph.specs.Rows.{clusters, Layer}
use Rattle.graph.specs.Links.{Linked, leave}
use Rattle.graph.specs.Coarse.{Coarse}
use Rattle.graph.proofs.Links.{linked_same, leave_apart}
use Rattle.graph.proofs.Rows.{onto_few}
use Rattle.graph.proofs.Edges.{row_inside, through_at, length-through}
use Rattle.graph.specs.Totals.{Keyed}
use Rattle.division_table.specs.Division.{none}
use Rattle.division_table.specs.Promises.{best}
use Rattle.division_table.proofs.Best.{least-best}
use Rattle.division_table.proofs.Fills.{too_many}
use Rattle.initial.specs.Initial.{places_of, roomy, parts_of, tabled, least_parts, initial_of}
use Rattle.initial.specs.Promises.{OrderOf}
use Rattle.division_scan.specs.Scan.{Positioned, LinkedBy, leaving_by}
use Rattle.initial.specs.Positions.{PositionsOf, leaving_of, Once, Inverse}
use Rattle.initial.proofs.Places.{placed, parts_cut, roomy_costs}
use Rattle.initial.proofs.Arranges.{order_is_once, at_order, through_places}
use Rattle.initial.proofs.Listed.{listed_edges, listed_leaving}

pub layer_few : {G : Graph} {row : List ℕ} → Proper G → Layer G row → clusters row ≤ 512
layer_few {G} {row} P L = omega (arith, P.few, onto_few (vertices G) (clusters row) (λ v. get_or row v 0) L.row_of.below L.onto)

pub layer_some : {G : Graph} {row : List ℕ} → Proper G → Layer G row → 0 < clusters row
layer_some P L = omega (arith, L.row_of.below 0 P.some)

pub layer_placed : {G : Graph} {row : List ℕ} → Proper G → Layer G row → PositionsOf G (clusters row) (places_of G row)
layer_placed {G} {row} P L = placed G row P.formed L.row_of (layer_few P L) L.acyclic L.onto

pub layer_below : {G : Graph} {row : List ℕ} → Proper G → Layer G row → (length row ≤ 512) × ((v : ℕ) → v < length row → get_or row v 0 < 512)
layer_below P L = (omega (arith, L.row_of.whole, P.few), λ v h. omega (arith, layer_few P L, L.row_of.below v (omega (arith, L.row_of.whole))))

pub layer_low : {G : Graph} {row : List ℕ} {g : ℕ} → Layer G row → g ≡ clusters row → (v : ℕ) → v < length row → get_or row v 0 < g
layer_low L e v h = omega (arith, L.row_of.below v (omega (arith, L.row_of.whole)))

-- its divisions, worked by their starts
pub layer_best : {G : Graph} {row : List ℕ} → Proper G → Layer G row → (bound n : ℕ)
    → initial_of G (suc n) bound row ≡ tabled (places_of G row) (best (clusters row) (roomy G bound (places_of G row)) (leaving_of G (places_of G row)) n 0)
unfolding initial_of least_parts
layer_best {G} {row} P L bound n =
    ap (tabled (places_of G row))
    (least-best (clusters row) (roomy G bound (places_of G row)) (leaving_of G (places_of G row)) (λ d. cut_of G (parts_of (places_of G row) d))
    (parts_cut G P.formed (clusters row) (places_of G row) (layer_placed P L)) n)

-- fewer clusters than parts
pub layer_small : {G : Graph} {row : List ℕ} {g k : ℕ} (bound : ℕ) → Proper G → Layer G row → g ≡ clusters row → g < k → initial_of G k bound row ≡ none
layer_small {G} {row} {g} {k} bound P L e h =
    let q : k ≡ suc (k - 1) = omega arith in
    ap (λ (i : ℕ). initial_of G i bound row) q ∙ layer_best P L bound (k - 1)
    ∙ ap (tabled (places_of G row)) (too_many (clusters row) (roomy G bound (places_of G row)) (leaving_of G (places_of G row)) (k - 1) (omega arith))

-- its order
layer_inside : {G : Graph} {row : List ℕ} → Proper G → Layer G row → Inside (seen G row) (clusters row)
layer_inside P L = row_inside P.formed L.row_of

pub layer_once : {G : Graph} {row : List ℕ} {g : ℕ} (order : List ℕ) → Proper G → Layer G row → OrderOf G row order → g ≡ clusters row → Once g order
layer_once {G} {row} order P L O e = rw e (order_is_once (seen G row) (clusters row) order (layer_inside P L) (layer_few P L) L.acyclic O)

layer_at : {G : Graph} {row order at : List ℕ} {g : ℕ} → Proper G → Layer G row → OrderOf G row order → g ≡ clusters row → Inverse g order at → (c : ℕ) → c < g → get_or order (get_or at c 0) 0 ≡ c
layer_at {G} {row} {order} {at} P L O e I c h =
    at_order (seen G row) (clusters row) order (layer_inside P L) (layer_few P L) L.acyclic O at (rw e at I) c (omega arith)

-- `at` inverts it, and the front of `places` has the position of each vertex: what the search asks, and what it finds
pub record Arranged (G : Graph) (row order at places from to width head next : List ℕ) (g : ℕ) : Type 0 where
  pub tall : length places ≡ 512
  pub front : length (take (vertices G) places) ≡ vertices G
  pub keyed : Keyed (take (vertices G) places) G.costs 512
  pub spots : length (take g at) ≡ g
  pub listed : Positioned (take g at) from to width g
  pub linked : LinkedBy order (take g at) from head next
  pub finds : (k bound : ℕ) → 0 < k
      → tabled (take (vertices G) places) (best g (roomy (graph_of G.costs from to width) bound (take (vertices G) places)) (leaving_by (take g at) from to width) (k - 1) 0) ≡ initial_of G k bound row

module _ {G : Graph} {row order at places from to width head next : List ℕ} {g : ℕ} (P : Proper G) (L : Layer G row) (O : OrderOf G row order) (C : Coarse G row (clusters row) from to width)
    (K : Linked (leave (joining from to)) (length from) head next) (e : g ≡ clusters row)
    (I : Inverse g order at) (l : List ℕ) (t : length l ≡ 512) (q : places ≡ over (through row at) l) where
  small : g ≤ 512
  small = omega (arith, layer_few P L)

  is_places : through row at ≡ places_of G row
  is_places = through_places (seen G row) (clusters row) order (layer_inside P L) (layer_few P L) L.acyclic O row at (layer_low L (refl {a = clusters row})) (rw e at I)

  whole : length (through row at) ≡ vertices G
  whole = length-through row at ∙ L.row_of.whole

  front_is : take (vertices G) places ≡ through row at
  front_is = ap (take (vertices G)) q ∙ take-over (through row at) l (vertices G) whole

  front_placed : PositionsOf G g (through row at)
  front_placed = rw (is_places, e) (layer_placed P L)

  at_length : length (take g at) ≡ g
  at_length = omega (arith, small, I.tall, length-take g at)

  place_is : (v : ℕ) → v < vertices G → get_or (through row at) v 0 ≡ get_or (take g at) (get_or row v 0) 0
  place_is v h =
      let i : v < length row = omega (arith, L.row_of.whole) in
      through_at row at v i ∙ sym (get_or-take g at (get_or row v 0) 0 (layer_low L e v i))

  from_low : (j : ℕ) → get_or from j 0 < g
  from_low j =
      by (ltb j (length from))
      (λ t. omega (arith, C.from_in j (ltb-true j (length from) t)))
      (λ t. omega (arith, layer_some P L, get_d_past from j (ltb-false j (length from) t)))

  at_from : (j : ℕ) → via (take g at) from j ≡ via at from j
  at_from j = get_or-take g at (get_or from j 0) 0 (from_low j)

  by_cluster : LinkedBy order (take g at) from head next
  by_cluster =
      let O' = layer_once order P L O e in
      record {
        linked = linked_same (λ i l. leave_apart (joining from to) i (C.apart i l)) K;
        long = omega (arith, at_length, O'.long);
        low = λ y l. O'.low y (omega (arith, at_length));
        here = λ y j l q. at_from j ∙ ap (λ (x : ℕ). get_or at x 0) q ∙ I.is y (omega (arith, at_length));
        only = λ y j l q.
            let back : get_or order (via at from j) 0 ≡ get_or from j 0 = layer_at P L O e I (get_or from j 0) (from_low j) in
            sym back ∙ ap (λ (x : ℕ). get_or order x 0) (sym (at_from j) ∙ q);
      }

  pub arranged : Arranged G row order at places from to width head next g
  arranged =
      let R : RowOf G row g = rw e L.row_of in
      let onto : (c : ℕ) → c < g → (v : ℕ) × (v < vertices G) × (get_or row v 0 ≡ c) = λ c h. L.onto c (omega arith) in
      let D : Coarse G row g from to width = rw e C in
      record {
        tall = ap length q ∙ length_over (through row at) l (omega (arith, whole, P.few)) ∙ t;
        front = ap length front_is ∙ whole;
        keyed = rw front_is (record { same = whole; few = P.few; low = λ v h. omega (arith, small, front_placed.row.below v h) });
        spots = at_length;
        listed = listed_edges (take g at) P R onto front_placed D small at_length place_is;
        linked = by_cluster;
        finds = λ k bound h.
            let z : suc (k - 1) ≡ k = omega arith in
            rw (roomy_costs G from to width bound, front_is, listed_leaving (take g at) P R onto front_placed D small at_length place_is, is_places, e) (sym (layer_best P L bound (k - 1)) ∙ ap (λ (i : ℕ). initial_of G i bound row) z);
      }
