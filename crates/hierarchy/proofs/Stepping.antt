-- One step of the loop over the rounds: what it asks for, and what is carried after it.
use Prim.Native.Nat.{ℕ, ◌+◌, ◌*◌, ◌≤◌, ◌<◌}
use mathlib.Core.Path.{◌≡◌, refl, sym, ap, ◌∙◌}
use mathlib.Core.List.{List}
use native.Mathlib.Nat.{suc-mul, mul-le-mul_right}
use native.Mathlib.Omega.{arith}
use lib.ListN.{length, get_or, take, length-set}
use lib.Seq.{get_or-take}
use Rattle.std.specs.Prelude.{Some, None}
use Rattle.folds.specs.Fold.{sum_to, over, put, part, most_cost}
use Rattle.folds.proofs.Cases.{by, either, eq_or_ne}
use Rattle.folds.proofs.Sums.{sum_to_ext}
use Rattle.folds.proofs.Slices.{length_part, length-put, length_over, take-over}
use Rattle.folds.proofs.Parts.{part-put}
use Rattle.graph.specs.Graph.{Graph, vertices, edges, joining, seen, part_cost, through, Proper, RowOf}
use Rattle.graph.specs.Rows.{clusters, Layer, rows_in}
use Rattle.graph.specs.Coarse.{Coarse, LinkedAt}
use Rattle.topology.specs.Order.{order_of}
use Rattle.topology.proofs.Orders.{order_all}
use Rattle.graph.proofs.Edges.{row_inside}
use Rattle.contraction.specs.Next.{mate_of, next_row_of}
use Rattle.contraction.specs.Promises.{Renamed}
use Rattle.contraction.proofs.Next.{length_next}
use Rattle.contraction.proofs.Rounds.{next_layer}
use Rattle.joined_edges.proofs.Lists.{joined_twice}
use Rattle.matching.specs.Choice.{round_of}
use Rattle.matching.specs.Promises.{RoundReady}
use Rattle.matching.proofs.Choices.{round_keeps}
use Rattle.row_lists.specs.Carry.{Maps}
use Rattle.hierarchy.specs.Rounds.{kept}
use Rattle.matching_scan.specs.State.{Simple}
use Rattle.hierarchy.specs.Promises.{Carries, JoinedRow, JoinsRow, Carrying, LevelsAt, RowsRoom, Steps, HandsOn, HandedOn}
use Rattle.hierarchy.proofs.OneRound.{next_few, rows_in_lem}
use Rattle.hierarchy.proofs.Handing.{next_place}
use Rattle.hierarchy.proofs.Carrying.{coarse_order, coarse_simple}
use Rattle.hierarchy.proofs.Storing.{part_before, next_of, stored_more, costs_total, renamed_through, next_costs, next_weights}

module _ {G : Graph} {rows : List ℕ} {r g : ℕ} {froms tos widths sizes orders weights : List ℕ} (R : RoundReady G (rows_in rows (vertices G) r) g) (S : Layer G (rows_in rows (vertices G) r))
    (C : Carrying G rows r g froms tos widths sizes orders weights) (small : g ≤ vertices G) where
  abbrev n : ℕ
  n = vertices G

  abbrev m : ℕ
  m = edges G

  abbrev row : List ℕ
  row = rows_in rows (vertices G) r

  pub size_few : get_or sizes r 0 ≤ m
  size_few = C.carried.lists.few r (omega arith)

  onto : (c : ℕ) → c < g → (v : ℕ) × (v < n) × (get_or row v 0 ≡ c)
  onto c l = let (v, lv, e) = S.onto c (omega (arith, R.count)) in (v, omega (arith, R.row_of.whole), e)

  lists : Coarse G row g (part froms (r * m) (get_or sizes r 0)) (part tos (r * m) (get_or sizes r 0)) (part widths (r * m) (get_or sizes r 0))
  lists = rw (← R.count) at (C.carried.lists.is r (omega arith))

  pub carries : r * n + n ≤ length orders
      → Carries G row g weights (part froms (r * m) (get_or sizes r 0)) (part tos (r * m) (get_or sizes r 0)) (part widths (r * m) (get_or sizes r 0)) (part orders (r * n) n)
  carries room =
      let o = rw (← R.count) at (C.carried.order r (omega arith)) in
      record {
        onto = onto;
        lists = lists;
        weighed = C.weighed;
        costs = C.costs;
        ordered = record {
          long = rw (length_part orders (r * n) n room) small;
          is = λ i l. sym (get_or-take g (part orders (r * n) n) i 0 l) ∙ ap (λ (z : List ℕ). get_or z i 0) o;
        };
      }

  pub simple : Simple (part froms (r * m) (get_or sizes r 0)) (part tos (r * m) (get_or sizes r 0)) (part widths (r * m) (get_or sizes r 0))
  simple = coarse_simple lists R.small

  -- what is handed on
  module _ (P : Proper G) (lr : r < 8) {rows' : List ℕ} (M : RowsRoom G rows' froms tos widths sizes orders) (light : sum_to n (λ v. get_or G.costs v 0) ≤ most_cost) where
    weights_light : sum_to g (λ c. get_or weights c 0) ≤ most_cost
    weights_light = omega (arith, sum_to_ext g (λ c. get_or weights c 0) (part_cost G.costs row) (λ c _. C.costs c), costs_total G row g R.row_of)

    pub hands_on : HandsOn n m r g froms tos widths sizes orders weights
    hands_on =
        record {
          row = lr;
          vertices_few = P.few;
          edges_few = P.many;
          few = size_few;
          nine = M.nine;
          between = record {
            few = lists.few;
            same_ends = lists.same_ends;
            same_widths = lists.same_widths;
            from_in = lists.from_in;
            to_in = lists.to_in;
            narrow = rw lists.same_widths lists.narrow;
          };
          from_room = M.from_room;
          to_room = M.to_room;
          width_room = M.width_room;
          order_room = M.order_room;
          tall = C.weighed.tall;
          light = weights_light;
        }

  -- a round that was kept
  module _ (bound : ℕ) (P : Proper G) where
    abbrev next : List ℕ
    next = next_row_of row (round_of G bound row)

    next_row : RowOf G next (clusters next)
    next_row = (next_layer G row (round_of G bound row) P.formed S (round_keeps G bound row P.formed S.row_of)).row_of

    next_length : length next ≡ length row
    next_length = length_next row (mate_of (round_of G bound row))

    next_low : clusters next ≤ n
    next_low = omega (arith, next_few bound R, R.row_of.whole)

    pub maps : {map : List ℕ} → Renamed row next map → Maps map g (clusters next)
    maps N =
        record {
          tall = N.tall;
          small = R.small;
          low = omega (arith, next_low, P.few);
          below = λ c l. let (v, lv, e) = onto c l in rw (← e, N.is v (omega (arith, R.row_of.whole))) (next_row.below v lv);
        }

    pub maps_few : clusters next ≤ n
    maps_few = next_low

    module _ (k : ℕ) (lr : r < 8) (room : 9 * n ≤ length rows) {rows' map : List ℕ} (e : rows' ≡ put rows (r * n + n) next) (N : Renamed row next map) (light : sum_to n (λ v. get_or G.costs v 0) ≤ most_cost)
        (M : RowsRoom G rows froms tos widths sizes orders)
        {froms' tos' widths' sizes' orders' weights' levels' : List ℕ} (H : HandedOn map n m r g (clusters next) froms tos widths sizes orders weights froms' tos' widths' sizes' orders' weights' levels') where
      long : length next ≡ n
      long = next_length ∙ R.row_of.whole

      fits : r * n + n + n ≤ length rows
      fits = rows_in_lem r n (length rows) lr room

      row_new : rows_in rows' (vertices G) (r + 1) ≡ next
      row_new = rw (e, next_of r n) (rw long at (part-put rows next (r * n + n) (omega (arith, long, fits))))

      row_old : (q : ℕ) → q ≤ r → rows_in rows' (vertices G) q ≡ rows_in rows (vertices G) q
      row_old q l = rw e (part_before rows next (r * n + n) (q * n) n (omega (arith, long, fits)) (omega (arith, mul-le-mul_right n l)))

      joined : Coarse G next (clusters next) H.next.from H.next.to H.next.width
      joined =
          let t : through row (take g map) ≡ next = renamed_through row next (take g map) next_length (λ v l. get_or-take g map (get_or row v 0) 0 (R.row_of.below v (omega (arith, R.row_of.whole))) ∙ N.is v l) in
          rw t at (joined_twice P.formed R.row_of lists H.next.lists)

      abbrev order : List ℕ
      order = order_of (joining H.next.from H.next.to) (clusters next)

      abbrev placed : List ℕ
      placed = over order (part orders (r * n + n) n)

      order_is : order ≡ order_of (seen G next) (clusters next)
      order_is = coarse_order joined P next_row

      order_length : length order ≡ clusters next
      order_length =
          ap length order_is
          ∙ order_all (seen G next) (clusters next) (row_inside P.formed next_row)
          (next_layer G row (round_of G bound row) P.formed S (round_keeps G bound row P.formed S.row_of)).acyclic

      order_fits : r * n + n + n ≤ length orders
      order_fits = rows_in_lem r n (length orders) lr M.order_room

      placed_length : length placed ≡ n
      placed_length = length_over order (part orders (r * n + n) n) (rw (length_part orders (r * n + n) n order_fits) (omega (arith, order_length, next_low))) ∙ length_part orders (r * n + n) n order_fits

      new_order : take (clusters next) (part orders' ((r + 1) * n) n) ≡ order_of (seen G next) (clusters next)
      new_order =
          rw (H.orders_are, next_of r n, rw placed_length at (part-put orders placed (r * n + n) (omega (arith, placed_length, order_fits))), take-over order (part orders (r * n + n) n) (clusters next) order_length) order_is

      old_order : (q : ℕ) → q ≤ r → take (clusters (rows_in rows (vertices G) q)) (part orders' (q * n) n) ≡ order_of (seen G (rows_in rows (vertices G) q)) (clusters (rows_in rows (vertices G) q))
      old_order q l =
          rw (H.orders_are, part_before orders placed (r * n + n) (q * n) n (omega (arith, placed_length, order_fits)) (omega (arith, mul-le-mul_right n l))) (C.carried.order q l)

      place : r * m + m + m ≤ 9 * m
      place = next_place r m lr

      pub steps_some : Carrying G rows' (r + 1) (clusters next) froms' tos' widths' sizes' orders' weights'
      steps_some =
          record {
            carried = record {
              lists = rw (H.next.froms_are, H.next.tos_are, H.next.widths_are, H.sizes_are)
                  (stored_more C.carried.lists lr row_old M.nine (omega (arith, H.next.few, size_few)) (omega (arith, place, M.from_room)) (omega (arith, place, M.to_room)) (omega (arith, place, M.width_room)) (rw row_new joined) H.next.counts);
              nine = rw (H.sizes_are, length-set sizes (r + 1) H.count) M.nine;
              long = rw (H.orders_are, length-put orders (r * n + n) placed (omega (arith, placed_length, order_fits))) (omega (arith, suc-mul (r + 1) n, next_of r n, order_fits));
              order = λ q l. either (eq_or_ne q (r + 1)) (λ z. rw (z, row_new) new_order) (λ z. rw (row_old q (omega arith)) (old_order q (omega arith)));
            };
            weighed = next_weights P.formed R.row_of next_row N next_length H.merged C.costs light;
            costs = rw row_new (next_costs P.formed R.row_of next_row N next_length H.merged C.costs);
          }

      pub steps_levels : LevelsAt m (r + 1) (clusters next) froms' tos' sizes' levels'
      steps_levels = H.levels_are order_length

      pub steps_room : RowsRoom G rows' froms' tos' widths' sizes' orders'
      steps_room =
          record {
            row_room = rw (e, length-put rows (r * n + n) next (omega (arith, long, fits))) room;
            from_room = rw (H.next.froms_are, length-put froms (r * m + m) H.next.from (omega (arith, H.next.counts, H.next.few, size_few, place, M.from_room))) M.from_room;
            to_room = rw (H.next.tos_are, length-put tos (r * m + m) H.next.to (omega (arith, H.next.lists.same_ends, H.next.counts, H.next.few, size_few, place, M.to_room))) M.to_room;
            width_room = rw (H.next.widths_are, length-put widths (r * m + m) H.next.width (omega (arith, H.next.lists.same_widths, H.next.counts, H.next.few, size_few, place, M.width_room))) M.width_room;
            nine = rw (H.sizes_are, length-set sizes (r + 1) H.count) M.nine;
            order_room = rw (H.orders_are, length-put orders (r * n + n) placed (omega (arith, placed_length, order_fits))) M.order_room;
          }

-- a round that was kept, and one that was not
pub joined_some : {G : Graph} {k bound r : ℕ} {rows rows' : List ℕ} {x : ℕ} → JoinedRow G k bound r rows rows' (Some x)
    → (rows' ≡ put rows (r * vertices G + vertices G) (next_row_of (rows_in rows (vertices G) r) (round_of G bound (rows_in rows (vertices G) r)))) × (x ≡ clusters (next_row_of (rows_in rows (vertices G) r) (round_of G bound (rows_in rows (vertices G) r))))
joined_some {G} {k} {bound} {r} {rows} {rows'} {x} D =
    by (kept G k bound (rows_in rows (vertices G) r) (round_of G bound (rows_in rows (vertices G) r)))
    (λ t. let s : Some x ≡ Some (clusters (next_row_of (rows_in rows (vertices G) r) (round_of G bound (rows_in rows (vertices G) r)))) = rw t at D.answer_is in (rw t at D.rows_are, cc s))
    (λ t. let s : Some x ≡ None = rw t at D.answer_is in absurd (cc s))

pub joined_none : {G : Graph} {k bound r : ℕ} {rows rows' : List ℕ} → JoinedRow G k bound r rows rows' None → rows' ≡ rows
joined_none {G} {k} {bound} {r} {rows} {rows'} D =
    by (kept G k bound (rows_in rows (vertices G) r) (round_of G bound (rows_in rows (vertices G) r)))
    (λ t. let s : None ≡ Some (clusters (next_row_of (rows_in rows (vertices G) r) (round_of G bound (rows_in rows (vertices G) r)))) = rw t at D.answer_is in absurd (cc s))
    (λ t. rw t at D.rows_are)

-- a whole step: nothing was kept, and all is as it was; or what is carried was handed on
module _ {G : Graph} {rows : List ℕ} {r g : ℕ} {froms tos widths sizes orders weights : List ℕ} (R : RoundReady G (rows_in rows (vertices G) r) g) (S : Layer G (rows_in rows (vertices G) r))
    (C : Carrying G rows r g froms tos widths sizes orders weights) (small : g ≤ vertices G) (lr : r < 8) (M : RowsRoom G rows froms tos widths sizes orders)
    {k bound : ℕ} {rows' map : List ℕ} where
  pub step_none : {head next levels : List ℕ} → JoinsRow G k bound r rows rows' map None → LinkedAt (edges G) r froms tos sizes head next
      → Steps G k bound r rows rows' froms tos widths sizes orders weights head next levels None × RowsRoom G rows' froms tos widths sizes orders
  step_none K L =
      let e = joined_none K.joined in
      (record { joined = K.joined; none = λ _. rw e C.carried; some = λ h q. absurd (cc q); links_stay = λ _. L; links_next = λ h q. absurd (cc q); levels_next = λ h q. absurd (cc q) }, rw e M)

  module _ {x : ℕ} (K : JoinsRow G k bound r rows rows' map (Some x)) (light : sum_to (vertices G) (λ v. get_or G.costs v 0) ≤ most_cost) where
    pub step_asks : Maps map g x × (x ≤ vertices G) × HandsOn (vertices G) (edges G) r g froms tos widths sizes orders weights
    step_asks = let q = (joined_some K.joined).1 in rw q (maps R S C small bound R.proper (K.renamed x refl), maps_few R S C small bound R.proper, hands_on R S C small R.proper lr M light)

    pub step_some : {froms' tos' widths' sizes' orders' weights' levels' head next : List ℕ}
        → HandedOn map (vertices G) (edges G) r g x froms tos widths sizes orders weights froms' tos' widths' sizes' orders' weights' levels'
        → LinkedAt (edges G) (r + 1) froms' tos' sizes' head next
        → Steps G k bound r rows rows' froms' tos' widths' sizes' orders' weights' head next levels' (Some x) × RowsRoom G rows' froms' tos' widths' sizes' orders'
    step_some {froms'} {tos'} {widths'} {sizes'} {orders'} {weights'} {levels'} H L =
        let (e, q) = joined_some K.joined in
        let O = rw q at H in
        let some : Carrying G rows' (r + 1) x froms' tos' widths' sizes' orders' weights' = rw q (steps_some R S C small bound R.proper k lr M.row_room e (K.renamed x refl) light M O) in
        let levels : LevelsAt (edges G) (r + 1) x froms' tos' sizes' levels' = rw q (steps_levels R S C small bound R.proper k lr M.row_room e (K.renamed x refl) light M O) in (
          record {
            joined = K.joined;
            none = λ z. absurd (cc z);
            some = λ h z. let y : x ≡ h = cc z in rw y at some;
            links_stay = λ z. absurd (cc z);
            links_next = λ h z. L;
            levels_next = λ h z. let y : x ≡ h = cc z in rw y at levels;
          },
          steps_room R S C small bound R.proper k lr M.row_room e (K.renamed x refl) light M O,
        )
