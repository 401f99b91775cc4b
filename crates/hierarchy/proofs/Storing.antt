-- What is carried of the rows: entries that stay, and those of one row more.
use Prim.Native.Nat.{ℕ, suc, ◌+◌, ◌*◌, ◌≤◌, ◌<◌}
use mathlib.Core.Path.{◌≡◌, sym, ap, ◌∙◌}
use mathlib.Core.List.{List}
use native.Mathlib.Nat.{suc-mul, mul-le-mul_right}
use native.Mathlib.Omega.{arith}
use lib.Dec.{eqb}
use lib.ListN.{length, get_or, set, take, drop, get_or-append}
use lib.Seq.{length-take-le, get_or-take, get_or-drop, get_or-set_same, get_or-set_other, ext_get_or}
use borrow.Author.Tests.{ne_eqb}
use mir.Syntax.{w16}
use mir.Val.{Fits}
use Rattle.folds.specs.Fold.{when, sum_to, put, part, most_cost}
use Rattle.folds.proofs.Cases.{either, eq_or_ne, when_le}
use Rattle.folds.proofs.Sums.{sum_to_ext, sum_to_mono, sum_to_none, sum_to_only, sum_to_swap, sum_to_le}
use Rattle.folds.proofs.Lists.{listed}
use Rattle.folds.proofs.Slices.{length_part, length-put}
use Rattle.folds.proofs.Parts.{part-put}
use Rattle.graph.specs.Graph.{Graph, vertices, part_cost, cost_in, through, Formed, RowOf}
use Rattle.graph.specs.Rows.{clusters}
use Rattle.graph.specs.RowGraph.{row_graph, graph_cost}
use Rattle.graph.specs.Coarse.{Coarse, Stored}
use Rattle.graph.proofs.Rungs.{rung_cost}
use Rattle.contraction.specs.Promises.{Renamed}
use Rattle.matching.specs.Promises.{ClusterCosts}
use Rattle.row_lists.specs.Carry.{Merged}

-- an entry of a part, and one that a part written further on leaves alone
part_at : (l : List ℕ) (b n i : ℕ) → i < n → get_or (part l b n) i 0 ≡ get_or l (b + i) 0
unfolding part
part_at l b n i h = get_or-take n (drop b l) i 0 h ∙ get_or-drop b l i 0

put_before : (l p : List ℕ) (a i : ℕ) → a ≤ length l → i < a → get_or (put l a p) i 0 ≡ get_or l i 0
unfolding put
put_before l p a i la li = get_or-append (take a l) _ 0 i (rw (length-take-le a l la) li) ∙ get_or-take a l i 0 li

pub part_before : (l p : List ℕ) (a b n : ℕ) → a + length p ≤ length l → b + n ≤ a → part (put l a p) b n ≡ part l b n
part_before l p a b n room h =
    let le : length (part l b n) ≡ n = length_part l b n (omega arith) in
    let lp : length (part (put l a p) b n) ≡ n = length_part (put l a p) b n (rw (length-put l a p room) (omega arith)) in
    ext_get_or 0 (part (put l a p) b n) (part l b n) (lp ∙ sym le)
    (λ i li. part_at (put l a p) b n i (omega arith) ∙ put_before l p a (b + i) (omega arith) (omega arith) ∙ sym (part_at l b n i (omega arith)))

-- places of earlier rows
row_before : (q r m : ℕ) → q ≤ r → q * m + m ≤ r * m + m
row_before q r m l = omega (arith, mul-le-mul_right m l)

pub next_of : (r m : ℕ) → (r + 1) * m ≡ r * m + m
next_of r m = let q : r + 1 ≡ suc r = omega arith in rw q (suc-mul r m)

module _ {G : Graph} {rows rows' : ℕ → List ℕ} {r m count : ℕ} {froms tos widths sizes from to width : List ℕ} (S : Stored G rows r m froms tos widths sizes) (lr : r < 8)
    (same : (q : ℕ) → q ≤ r → rows' q ≡ rows q) (nine : length sizes ≡ 9) (few : count ≤ m)
    (rf : r * m + m + m ≤ length froms) (rt : r * m + m + m ≤ length tos) (rw' : r * m + m + m ≤ length widths)
    (C : Coarse G (rows' (r + 1)) (clusters (rows' (r + 1))) from to width) (lf : length from ≡ count) where
  lt : length to ≡ count
  lt = C.same_ends ∙ lf

  lw : length width ≡ count
  lw = C.same_widths ∙ lf

  size_old : (q : ℕ) → q ≤ r → get_or (set sizes (r + 1) count) q 0 ≡ get_or sizes q 0
  size_old q l = get_or-set_other sizes (r + 1) q count 0 (λ e. omega arith)

  size_new : get_or (set sizes (r + 1) count) (r + 1) 0 ≡ count
  size_new = get_or-set_same sizes (r + 1) count 0 (omega arith)

  pub stored_more : Stored G rows' (r + 1) m (put froms (r * m + m) from) (put tos (r * m + m) to) (put widths (r * m + m) width) (set sizes (r + 1) count)
  stored_more =
      record {
        from_room = rw (length-put froms (r * m + m) from (omega arith)) (room (length froms) rf);
        to_room = rw (length-put tos (r * m + m) to (omega (arith, lt))) (room (length tos) rt);
        width_room = rw (length-put widths (r * m + m) width (omega (arith, lw))) (room (length widths) rw');
        few = λ q l. either (eq_or_ne q (r + 1)) (λ e. rw (e, size_new) few) (λ n. rw (size_old q (omega arith)) (S.few q (omega arith)));
        is = λ q l. either (eq_or_ne q (r + 1)) (λ e. rw e new) (λ n. old q (omega arith));
      }
    where
      room : (x : ℕ) → r * m + m + m ≤ x → suc (r + 1) * m ≤ x
      room x h = omega (arith, suc-mul (r + 1) m, next_of r m)

      new : Coarse G (rows' (r + 1)) (clusters (rows' (r + 1)))
          (part (put froms (r * m + m) from) ((r + 1) * m) (get_or (set sizes (r + 1) count) (r + 1) 0))
          (part (put tos (r * m + m) to) ((r + 1) * m) (get_or (set sizes (r + 1) count) (r + 1) 0))
          (part (put widths (r * m + m) width) ((r + 1) * m) (get_or (set sizes (r + 1) count) (r + 1) 0))
      new =
          rw (size_new, next_of r m, rw lf at (part-put froms from (r * m + m) (omega arith)), rw lt at (part-put tos to (r * m + m) (omega (arith, lt))), rw lw at (part-put widths width (r * m + m) (omega (arith, lw)))) C

      old : (q : ℕ) → q ≤ r → Coarse G (rows' q) (clusters (rows' q))
          (part (put froms (r * m + m) from) (q * m) (get_or (set sizes (r + 1) count) q 0))
          (part (put tos (r * m + m) to) (q * m) (get_or (set sizes (r + 1) count) q 0))
          (part (put widths (r * m + m) width) (q * m) (get_or (set sizes (r + 1) count) q 0))
      old q l =
          let h = row_before q r m l in
          let s = S.few q l in
          rw (
            size_old q l,
            same q l,
            part_before froms from (r * m + m) (q * m) (get_or sizes q 0) (omega arith) (omega arith),
            part_before tos to (r * m + m) (q * m) (get_or sizes q 0) (omega (arith, lt)) (omega arith),
            part_before widths width (r * m + m) (q * m) (get_or sizes q 0) (omega (arith, lw)) (omega arith),
          ) (S.is q l)

-- the costs of all clusters are those of all vertices
pub costs_total : (G : Graph) (row : List ℕ) (g : ℕ) → RowOf G row g → sum_to g (part_cost G.costs row) ≡ sum_to (vertices G) (λ v. get_or G.costs v 0)
unfolding part_cost cost_in
costs_total G row g R =
    sum_to_swap g (vertices G) (λ c v. when (eqb (get_or row v 0) c) (get_or G.costs v 0))
    ∙ sum_to_ext (vertices G) _ _ (λ v l. sum_to_only g (get_or row v 0) (λ c. get_or G.costs v 0) (R.below v l))

pub costs_low : (G : Graph) → ((v : ℕ) → Fits w16 (get_or G.costs v 0)) → (v : ℕ) → get_or G.costs v 0 ≤ 65535
costs_low G h v = omega (arith, h v)

pub costs_light : (G : Graph) → vertices G ≤ 512 → ((v : ℕ) → get_or G.costs v 0 ≤ 65535) → sum_to (vertices G) (λ v. get_or G.costs v 0) ≤ most_cost
costs_light G l h = omega (arith, sum_to_le (vertices G) 65535 (λ v. get_or G.costs v 0) h)

cost_le : (G : Graph) (row : List ℕ) (c : ℕ) → part_cost G.costs row c ≤ sum_to (vertices G) (λ v. get_or G.costs v 0)
unfolding part_cost cost_in
cost_le G row c = sum_to_mono (vertices G) _ _ (λ v _. when_le (eqb (get_or row v 0) c) (get_or G.costs v 0))

cost_none : (G : Graph) (row : List ℕ) (g c : ℕ) → RowOf G row g → g ≤ c → part_cost G.costs row c ≡ 0
unfolding part_cost cost_in
cost_none G row g c R l = sum_to_none (vertices G) _ (λ v lv. rw (ne_eqb (get_or row v 0) c (λ e. omega (arith, R.below v lv))))

-- a row through the new numbers of its clusters is the next row
pub renamed_through : (row next map : List ℕ) → length next ≡ length row → ((v : ℕ) → v < length row → get_or map (get_or row v 0) 0 ≡ get_or next v 0) → through row map ≡ next
unfolding through
renamed_through row next map e h = sym (listed next (length row) (λ v. get_or map (get_or row v 0) 0) e (λ v l. sym (h v l)))

module _ {G : Graph} {row next map weights weights' : List ℕ} {g h : ℕ} (F : Formed G) (R : RowOf G row g) (R' : RowOf G next h) (N : Renamed row next map) (e : length next ≡ length row)
    (M : Merged map weights g weights') (costs : (c : ℕ) → get_or weights c 0 ≡ part_cost G.costs row c) where
  pub next_costs : (d : ℕ) → get_or weights' d 0 ≡ part_cost G.costs next d
  unfolding graph_cost row_graph
  next_costs d =
      M.is d
      ∙ sum_to_ext g _ _ (λ c _. ap (when (eqb (get_or map c 0) d)) (costs c))
      ∙ rung_cost G row map g F R d
      ∙ ap (λ (l : List ℕ). part_cost G.costs l d) (renamed_through row next map e N.is)

  pub next_weights : sum_to (vertices G) (λ v. get_or G.costs v 0) ≤ most_cost → ClusterCosts h weights'
  next_weights l =
      record {
        tall = M.tall;
        past = λ d ld. next_costs d ∙ cost_none G next h d R' ld;
        light = λ d. omega (arith, next_costs d, cost_le G next d);
      }
