-- What the call that joins asks for, and what the next row's lists are.
use Prim.Native.Nat.{ℕ, ◌+◌, ◌-◌, ◌≤◌, ◌<◌}
use mathlib.Core.Path.{◌≡◌}
use mathlib.Core.List.{List, []}
use native.Mathlib.Omega.{arith}
use lib.ListN.{length, get_or, take, drop}
use lib.Seq.{length-take-le, get_or-take}
use Rattle.folds.specs.Fold.{put, part}
use Rattle.folds.proofs.Slices.{length_part}
use Rattle.graph.specs.Graph.{arcs, Inside}
use Rattle.graph.specs.Links.{Joins}
use Rattle.joined_edges.specs.Joining.{Written}
use Rattle.joined_edges.proofs.Lists.{listed_few, written_coarse}
use Rattle.row_lists.specs.Carry.{Between, Maps, Next}

-- a part that the code hands on
pub handed : (l : List ℕ) (a n : ℕ) → take (a + n - a) (drop a l) ≡ part l a n
unfolding part
handed l a n = let e : a + n - a ≡ n = omega arith in rw e

module _ {map froms tos widths : List ℕ} {g h : ℕ} (M : Maps map g h) (B : Between g froms tos widths) where
  map-length : length (take g map) ≡ g
  map-length = length-take-le g map (omega (arith, M.tall, M.small))

  map_at : (c : ℕ) → c < g → get_or (take g map) c 0 < h
  map_at c l = rw (get_or-take g map c 0 l) (M.below c l)

  pub carry_inside : Inside (arcs (take g map) froms tos) h
  carry_inside j l = (map_at _ (B.from_in j l), map_at _ (B.to_in j l))

  pub carry_joins : Joins (take g map) froms tos
  carry_joins =
      record {
        out = record { few = B.few; rows = omega (arith, map-length, M.small); in_row = λ j l. omega (arith, map-length, B.from_in j l); low = low };
        into = record { few = omega (arith, B.few, B.same_ends); rows = omega (arith, map-length, M.small); in_row = λ j l. omega (arith, map-length, B.to_in j (omega (arith, B.same_ends))); low = low };
        same = B.same_ends;
      }
    where
      low : (v : ℕ) → v < length (take g map) → get_or (take g map) v 0 < 512
      low v l = omega (arith, map_at v (omega (arith, map-length)), M.low)

  pub carry_few : {count : ℕ} {fs ts ws : List ℕ} → Written (arcs (take g map) froms tos) widths h h count fs ts ws → count ≤ length froms
  carry_few W = listed_few (arcs (take g map) froms tos) widths h carry_inside M.low W

-- a list with at least as many entries as are joined, which are at most as many as the edges before
pub carry_room : {map fs ts ws : List ℕ} (froms tos widths l : List ℕ) {g h count : ℕ} (a size : ℕ) → Maps map g h → Between g (part froms a size) (part tos a size) (part widths a size) → a + size ≤ length froms
    → Written (arcs (take g map) (part froms a size) (part tos a size)) (part widths a size) h h count fs ts ws → length l ≡ 1024 → length (take count l) ≤ size
carry_room {map} {fs} {ts} {ws} froms tos widths l {g} {h} {count} a size M B r W t =
    let n = length_part froms a size r in let f = carry_few M B W in omega (arith, n, f, B.few, length-take-le count l (omega (arith, t, B.few, f)))

pub carried : {map froms tos widths froms' tos' widths' fs ts ws : List ℕ} {g h a size b count : ℕ} → Maps map g h → Between g (part froms a size) (part tos a size) (part widths a size)
    → length (part froms a size) ≡ size
    → Written (arcs (take g map) (part froms a size) (part tos a size)) (part widths a size) h h count fs ts ws
    → froms' ≡ put froms b (take count fs) → tos' ≡ put tos b (take count ts) → widths' ≡ put widths b (take count ws)
    → Next map g h a size b froms tos widths froms' tos' widths' count
carried {map} {froms} {tos} {widths} {froms'} {tos'} {widths'} {fs} {ts} {ws} {g} {h} {a} {size} {b} {count} M B len W ef et ew =
    let few = carry_few M B W in
    record {
      from = take count fs;
      to = take count ts;
      width = take count ws;
      counts = length-take-le count fs (omega (arith, W.listed.tall_from, B.few));
      few = omega arith;
      lists = written_coarse (take g map) (part froms a size) (part tos a size) (part widths a size) (carry_inside M B) M.low B.few B.same_widths B.narrow W [];
      froms_are = ef;
      tos_are = et;
      widths_are = ew;
    }
