-- The positions of the vertices are a row of their own, in which every edge goes forward; what a division of them gives.
use Prim.Native.Nat.{ℕ, ◌≤◌, ◌<◌}
use mathlib.Core.Path.{◌≡◌, refl, ap, sym, ◌∙◌}
use mathlib.Core.Bool.{true, ◌&&◌}
use mathlib.Core.List.{List}
use native.Mathlib.Omega.{arith}
use lib.Dec.{leb, ltb, eqb}
use lib.ListN.{length, get_or}
use borrow.Author.Tests.{leb-true, le-leb, lt-ltb, eqb-true}
use Rattle.folds.proofs.Cases.{either, eq_or_ne}
use Rattle.folds.proofs.Sums.{sum_to_ext}
use Rattle.folds.proofs.Lists.{length-list_to, get_d_list_to}
use Rattle.graph.specs.Walk.{Acyclic}
use Rattle.graph.specs.Graph.{Graph, graph_of, vertices, edges, via, seen, Edge, cut, crossing, cut_of, Formed, RowOf, Inside}
use Rattle.graph.specs.Rows.{clusters}
use Rattle.graph.specs.Table.{size_of, part_size, Good}
use Rattle.graph.proofs.Tables.{size_ext, place_is}
use Rattle.graph.proofs.Edges.{arc_edge, row_inside}
use Rattle.topology.specs.Order.{order_of, place_in}
use Rattle.topology.proofs.Orders.{order_all, order_below, place_in_at, place_of, order_rises}
use Rattle.division_table.specs.Division.{Rising, Feasible, interval_of, between}
use Rattle.division_table.proofs.Best.{outs}
use Rattle.division_table.proofs.Intervals.{cut_outs, interval_mono, interval_below, Interval, interval_is}
use Rattle.initial.specs.Initial.{places_in, places_of, run_size, roomy, parts_of}
use Rattle.division_scan.specs.Scan.{leaving_by}
use Rattle.initial.specs.Positions.{PositionsOf, leaving_of}

module _ (G : Graph) (row : List ℕ) (F : Formed G) (R : RowOf G row (clusters row)) (small : clusters row ≤ 512) (acyclic : Acyclic (Edge (seen G row))) where
  inside : Inside (seen G row) (clusters row)
  inside = row_inside F R

  all : length (order_of (seen G row) (clusters row)) ≡ clusters row
  all = order_all (seen G row) (clusters row) inside acyclic

  place_here : (v : ℕ) → v < vertices G → get_or (places_of G row) v 0 ≡ place_in (order_of (seen G row) (clusters row)) (get_or row v 0)
  unfolding places_in
  place_here v l = get_d_list_to (length row) (λ v. place_in (order_of (seen G row) (clusters row)) (get_or row v 0)) v (rw R.whole l)

  place_whole : length (places_of G row) ≡ vertices G
  unfolding places_in
  place_whole = length-list_to _ _ ∙ R.whole

  pub place_shared : (a b : ℕ) → a < vertices G → b < vertices G → get_or row a 0 ≡ get_or row b 0 → get_or (places_of G row) a 0 ≡ get_or (places_of G row) b 0
  place_shared a b la lb e = place_here a la ∙ ap (place_in (order_of (seen G row) (clusters row))) e ∙ sym (place_here b lb)

  place_row : RowOf G (places_of G row) (clusters row)
  place_row =
      record {
        whole = place_whole;
        below = λ v l. rw (place_here v l) (place_in_at (seen G row) (clusters row) inside all (get_or row v 0) (R.below v l)).0;
      }

  place_onto : ((c : ℕ) → c < clusters row → (v : ℕ) × (v < vertices G) × (get_or row v 0 ≡ c)) → (p : ℕ) → p < clusters row → (v : ℕ) × (v < vertices G) × (get_or (places_of G row) v 0 ≡ p)
  place_onto onto p l =
      let order = order_of (seen G row) (clusters row) in
      let (v, h, e) = onto (get_or order p 0) (order_below (seen G row) (clusters row) inside p (omega (arith, all))) in
      (v, h, place_here v h ∙ ap (place_in order) e ∙ place_of (seen G row) (clusters row) inside all p l)

  place_forward : (j : ℕ) → j < edges G → via (places_of G row) G.starts j ≤ via (places_of G row) G.ends j
  place_forward j l =
      let s = get_or G.starts j 0 in
      let t = get_or G.ends j 0 in
      let ls = F.start_in j l in
      let lt = F.end_in j l in
      either (eq_or_ne (get_or row s 0) (get_or row t 0))
      (λ e. let q = place_shared s t ls lt e in omega arith)
      (λ n.
      let h = order_rises (seen G row) (clusters row) inside all (get_or row s 0) (get_or row t 0) (arc_edge (seen G row) j l n) in
      omega (arith, place_here s ls, place_here t lt))

  pub placed : ((c : ℕ) → c < clusters row → (v : ℕ) × (v < vertices G) × (get_or row v 0 ≡ c)) → PositionsOf G (clusters row) (places_of G row)
  placed onto = record { row = place_row; onto = place_onto onto; forward = place_forward }

-- today the size of a run is the summed cost of what lies there, so that of a graph only the costs count
pub run_cost : (G : Graph) (places : List ℕ) (y x : ℕ) → run_size G places y x ≡ between (vertices G) (λ v. get_or places v 0) (λ v. get_or G.costs v 0) y x
unfolding run_size size_of between
run_cost G places y x = refl

pub roomy_costs : (G : Graph) (from to width : List ℕ) (bound : ℕ) (places : List ℕ) → roomy (graph_of G.costs from to width) bound places ≡ roomy G bound places
unfolding roomy run_size size_of
roomy_costs G from to width bound places = refl

-- the table that a division of positions gives
module _ (G : Graph) (F : Formed G) (g : ℕ) (places : List ℕ) (P : PositionsOf G g places) where
  pub parts_whole : (d : List ℕ) → length (parts_of places d) ≡ vertices G
  unfolding parts_of
  parts_whole d = length-list_to _ _ ∙ P.row.whole

  pub parts_at : (d : List ℕ) (v : ℕ) → v < vertices G → get_or (parts_of places d) v 0 ≡ interval_of d (get_or places v 0)
  unfolding parts_of
  parts_at d v l = get_d_list_to (length places) (λ v. interval_of d (get_or places v 0)) v (rw P.row.whole l)

  -- the cut of the parts is what leaves the intervals
  pub parts_cut : (d : List ℕ) → Rising g 0 d → cut_of G (parts_of places d) ≡ outs (leaving_of G places) 0 d
  unfolding cut crossing leaving_by
  parts_cut d r =
      sum_to_ext (edges G) _ _ (λ j l. rw (parts_at d (get_or G.starts j 0) (F.start_in j l), parts_at d (get_or G.ends j 0) (F.end_in j l)))
      ∙ cut_outs (edges G) (via places G.starts) (via places G.ends) (λ j. get_or G.widths j 0) P.forward g d r

  -- a part has the size of the run that is its interval
  pub part_run : (d : List ℕ) (u y x : ℕ) → ((p : ℕ) → 0 ≤ p → p < g → eqb (interval_of d p) u ≡ (leb y p && ltb p x)) → part_size G (parts_of places d) u ≡ run_size G places y x
  unfolding part_size run_size
  part_run d u y x is =
      size_ext G _ _ (λ v l. rw (parts_at d v l) (is (get_or places v 0) (omega arith) (P.row.below v l)))

  module _ (k bound : ℕ) (row d : List ℕ) (shared : (a b : ℕ) → a < vertices G → b < vertices G → get_or row a 0 ≡ get_or row b 0 → get_or places a 0 ≡ get_or places b 0)
      (D : Feasible g (roomy G bound places) k d) where
    interval : (u : ℕ) → u < k → Interval g (roomy G bound places) 0 d u
    interval u l = interval_is g (roomy G bound places) 0 d D.rising D.passes u (omega (arith, D.count))

    -- THE PARTS OF A DIVISION
    pub parts_good : Good G k bound row (parts_of places d)
    unfolding roomy
    parts_good =
        record {
          whole = parts_whole d;
          below = λ v l. omega (arith, parts_at d v l, interval_below d (get_or places v 0), D.count);
          shared = λ a b la lb e. parts_at d a la ∙ ap (interval_of d) (shared a b la lb e) ∙ sym (parts_at d b lb);
          forward = λ j l.
              let parts = parts_of places d in
              let s = get_or G.starts j 0 in
              let t = get_or G.ends j 0 in
              omega (
                arith,
                place_is G k parts (get_or parts s 0),
                place_is G k parts (get_or parts t 0),
                parts_at d s (F.start_in j l),
                parts_at d t (F.end_in j l),
                interval_mono d _ _ (P.forward j l),
              );
          filled = λ u l.
              let I = interval u l in
              let (v, h, e) = P.onto I.from (omega (arith, I.filled, I.inside)) in
              let i = I.is I.from (omega arith) (omega (arith, I.filled, I.inside)) in
              let t : eqb (interval_of d I.from) u ≡ true = rw (le-leb I.from I.from (omega arith), lt-ltb I.from I.to I.filled) at i in
              (v, h, parts_at d v h ∙ ap (interval_of d) e ∙ eqb-true _ _ t);
          within = λ u l.
              let I = interval u l in
              rw (part_run d u I.from I.to I.is) (leb-true _ _ I.passes);
        }
