-- What is carried of row 0, the vertices themselves.
use Prim.Native.Nat.{ℕ, ◌+◌, ◌*◌, ◌≤◌}
use mathlib.Core.Path.{◌≡◌, refl, sym, ap, ◌∙◌}
use mathlib.Core.List.{List}
use native.Mathlib.Omega.{arith}
use lib.ListN.{length, get_or, take, length-set}
use lib.Seq.{get_or-set_same, length-take-le, take_all}
use Rattle.graph.specs.Rows.{rows_in}
use Rattle.folds.specs.Fold.{sum_to, over, put, part, zeros, most_cost, most_width}
use Rattle.folds.proofs.Sums.{sum_to_le}
use Rattle.folds.proofs.Lists.{get_d_past}
use Rattle.folds.proofs.Slices.{length-put}
use Rattle.folds.proofs.Parts.{part-put, take_put}
use Rattle.graph.specs.Graph.{Graph, vertices, edges, identity, arcs, joining, seen}
use Rattle.graph.specs.Coarse.{Coarse, LinkedAt}
use Rattle.graph.specs.Links.{Linked, leave}
use Rattle.graph.proofs.Edges.{row_inside, identity_row, joining_is}
use Rattle.topology.specs.Order.{order_of}
use Rattle.topology.specs.Level.{levels_of}
use Rattle.topology.proofs.Orders.{order_all}
use Rattle.contraction.proofs.Rounds.{identity-clusters}
use Rattle.matching.proofs.Lists.{cost_identity}
use Rattle.row_lists.specs.Carry.{First}
use Rattle.hierarchy.specs.Promises.{Carried, Carrying, LevelsAt, RowsRoom, Buildable}

module _ (G : Graph) (k : ℕ) (B : Buildable G k) where
  abbrev n : ℕ
  n = vertices G

  abbrev m : ℕ
  m = edges G

  own_lists : sum_to m (λ j. get_or G.widths j 0) ≤ most_width → Coarse G (identity n) n G.starts G.ends G.widths
  own_lists narrow =
      record {
        few = B.proper.many;
        same_ends = B.proper.formed.same_ends;
        same_widths = B.proper.formed.same_widths;
        from_in = B.proper.formed.start_in;
        to_in = B.proper.formed.end_in;
        apart = B.apart;
        wide = B.proper.wide;
        once = B.once;
        narrow = narrow;
        width = λ a b. refl;
      }

  pub widths_narrow : ((j : ℕ) → get_or G.widths j 0 ≤ 65535) → sum_to m (λ j. get_or G.widths j 0) ≤ most_width
  widths_narrow h = omega (arith, sum_to_le m 65535 (λ j. get_or G.widths j 0) h, B.proper.many)

  -- the front of a list
  front : (l p : List ℕ) → length p ≤ length l → part (put l 0 p) (0 * m) (length p) ≡ p
  front l p h = let z : 0 * m ≡ 0 = omega arith in rw z (part-put l p 0 (omega arith))

  module _ {rows froms tos widths sizes orders froms' tos' widths' sizes' : List ℕ} (M : RowsRoom G rows froms tos widths sizes orders)
      (F : First G.starts G.ends G.widths froms tos widths sizes froms' tos' widths' sizes') where
    from_room : m ≤ length froms
    from_room = omega (arith, M.from_room)

    to_room : m ≤ length tos
    to_room = omega (arith, M.to_room)

    width_room : m ≤ length widths
    width_room = omega (arith, M.width_room)

    pub first_kept : (rows' : List ℕ) → 9 * n ≤ length rows' → RowsRoom G rows' froms' tos' widths' sizes' orders
    first_kept rows' room =
        record {
          row_room = room;
          from_room = rw (F.froms_are, length-put froms 0 G.starts (omega (arith, from_room))) M.from_room;
          to_room = rw (F.tos_are, length-put tos 0 G.ends (omega (arith, to_room, B.proper.formed.same_ends))) M.to_room;
          width_room = rw (F.widths_are, length-put widths 0 G.widths (omega (arith, width_room, B.proper.formed.same_widths))) M.width_room;
          nine = rw (F.sizes_are, length-set sizes 0 m) M.nine;
          order_room = M.order_room;
        }

    order_front : {l : List ℕ} → take n orders ≡ l → take n (part orders (0 * n) n) ≡ l
    unfolding part
    order_front o =
        let y : 0 * n ≡ 0 = omega arith in
        let h : length (take n orders) ≡ n = length-take-le n orders (omega (arith, M.order_room)) in
        rw y (take_all n (take n orders) (omega arith) ∙ o)

    pub first_carried : (rows' : List ℕ) → rows_in rows' (vertices G) 0 ≡ identity n → sum_to m (λ j. get_or G.widths j 0) ≤ most_width
        → take n orders ≡ order_of (arcs (identity n) G.starts G.ends) n → Carried G (rows_in rows' (vertices G)) 0 froms' tos' widths' sizes' orders
    first_carried rows' e narrow o =
        let K = first_kept rows M.row_room in
        let z : get_or sizes' 0 0 ≡ m = rw F.sizes_are (get_or-set_same sizes 0 m 0 (omega (arith, M.nine))) in
        record {
          lists = record {
            from_room = omega (arith, K.from_room);
            to_room = omega (arith, K.to_room);
            width_room = omega (arith, K.width_room);
            few = λ r l. let q : r ≡ 0 = omega arith in rw (q, z) (omega arith);
            is = λ r l. let q : r ≡ 0 = omega arith in
                rw (
                  q,
                  e,
                  identity-clusters n,
                  z,
                  F.froms_are,
                  F.tos_are,
                  F.widths_are,
                  front froms G.starts from_room,
                  rw B.proper.formed.same_ends at (front tos G.ends (omega (arith, to_room, B.proper.formed.same_ends))),
                  rw B.proper.formed.same_widths at (front widths G.widths (omega (arith, width_room, B.proper.formed.same_widths))),
                ) (own_lists narrow);
          };
          nine = K.nine;
          long = omega (arith, M.order_room);
          order = λ r l. let q : r ≡ 0 = omega arith in rw (q, e, identity-clusters n) (order_front o);
        }

    pub first_links : {head next : List ℕ} → Linked (leave (joining G.starts G.ends)) m head next → LinkedAt m 0 froms' tos' sizes' head next
    first_links L =
        let z : get_or sizes' 0 0 ≡ m = rw F.sizes_are (get_or-set_same sizes 0 m 0 (omega (arith, M.nine))) in
        record {
          linked = rw (
            z,
            F.froms_are,
            F.tos_are,
            front froms G.starts from_room,
            rw B.proper.formed.same_ends at (front tos G.ends (omega (arith, to_room, B.proper.formed.same_ends))),
          ) L;
        }

    pub first_levels : {levels : List ℕ} → levels ≡ over (levels_of (arcs (identity n) G.starts G.ends) n) (zeros 512) → LevelsAt m 0 n froms' tos' sizes' levels
    first_levels e =
        let z : get_or sizes' 0 0 ≡ m = rw F.sizes_are (get_or-set_same sizes 0 m 0 (omega (arith, M.nine))) in
        let own : arcs (identity n) G.starts G.ends ≡ joining G.starts G.ends =
        joining_is n G.starts G.ends B.proper.formed.start_in (λ j l. B.proper.formed.end_in j (omega (arith, B.proper.formed.same_ends))) in
        record {
          are = rw (
            z,
            F.froms_are,
            F.tos_are,
            front froms G.starts from_room,
            rw B.proper.formed.same_ends at (front tos G.ends (omega (arith, to_room, B.proper.formed.same_ends))),
          ) (rw own at e);
        }

  pub first_carrying : (rows : List ℕ) {froms tos widths sizes orders weights : List ℕ} → rows_in rows (vertices G) 0 ≡ identity n → sum_to n (λ v. get_or G.costs v 0) ≤ most_cost
      → Carried G (rows_in rows (vertices G)) 0 froms tos widths sizes orders → length weights ≡ 512 → ((c : ℕ) → get_or weights c 0 ≡ get_or G.costs c 0)
      → ((c : ℕ) → get_or G.costs c 0 ≤ 65535) → Carrying G rows 0 n froms tos widths sizes orders weights
  first_carrying rows e light C tall h low =
      record {
        carried = C;
        weighed = record { tall = tall; past = λ c l. h c ∙ get_d_past G.costs c l; light = λ c. omega (arith, h c, low c) };
        costs = λ c. h c ∙ sym (rw e (cost_identity G.costs c));
      }

  -- the order of the vertices, copied to the front of the orders
  module _ (orders order : List ℕ) {orders' : List ℕ} (room : 9 * n ≤ length orders) (is : take n order ≡ order_of (arcs (identity n) G.starts G.ends) n) (o : orders' ≡ put orders 0 (take n order)) where
    whole : length (take n order) ≡ n
    whole = ap length is ∙ order_all (seen G (identity n)) n (row_inside B.proper.formed (identity_row G)) B.acyclic

    pub first_order : take n orders' ≡ order_of (arcs (identity n) G.starts G.ends) n
    first_order =
        let z : 0 + length (take n order) ≡ n = omega (arith, whole) in
        rw o (ap (λ (i : ℕ). take i (put orders 0 (take n order))) (sym z) ∙ take_put orders (take n order) 0 (omega (arith, whole)) ∙ is)

    pub ordered_room : {rows froms tos widths sizes : List ℕ} → RowsRoom G rows froms tos widths sizes orders → RowsRoom G rows froms tos widths sizes orders'
    ordered_room M =
        record {
          row_room = M.row_room;
          from_room = M.from_room;
          to_room = M.to_room;
          width_room = M.width_room;
          nine = M.nine;
          order_room = rw (o, length-put orders 0 (take n order) (omega (arith, whole))) M.order_room;
        }
