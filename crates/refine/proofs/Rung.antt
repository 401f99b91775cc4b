-- Passes until one moves nothing, as the code repeats them.
use Prim.Native.Nat.{ℕ, zero, suc, ◌+◌, ◌≤◌, ◌<◌, ◌^◌}
use mathlib.Core.Path.{◌≡◌, refl, sym, ap, ◌∙◌}
use mathlib.Core.Bool.{Bool, true, false}
use mathlib.Core.List.{List}
use native.Mathlib.Nat.{not-suc-le-zero}
use native.Mathlib.Omega.{arith}
use lib.ListN.{length, get_or}
use Rattle.folds.specs.Fold.{turns, over}
use Rattle.folds.proofs.Slices.{over_whole}
use Rattle.folds.proofs.Cases.{pick_yes, pick_no}
use Rattle.graph.specs.Graph.{Graph, vertices, joining, through, Proper}
use Rattle.graph.specs.Links.{Linked, leave}
use Rattle.graph.specs.Coarse.{Coarse}
use Rattle.graph.specs.Rows.{clusters}
use Rattle.graph.proofs.Edges.{length-through}
use Rattle.graph.proofs.Links.{linked_same, leave_apart}
use Rattle.graph.specs.Totals.{Keyed, Totals}
use Rattle.graph.proofs.Totals.{totals_cost}
use Rattle.graph.proofs.Rows.{onto_few}
use Rattle.graph.specs.Graph.{cut_of}
use Rattle.graph.specs.Table.{Good}
use Rattle.refinement.specs.Pass.{Tally, tally_of, pass_of, measure, passes, repeated, refined_on}
use Rattle.refinement.proofs.Entries.{alone}
use Rattle.refinement.proofs.Own.{pass_steps, pass_falls, steps_good, steps_fall}
use Rattle.neighbours.specs.Visit.{Placed, Indexed}
use Rattle.part_sums.specs.declared.PartSums.{PartSums}
use Rattle.pass.specs.declared.Progress.{Progress}
use Rattle.pass.specs.Work.{Work, begun, worked}
use Rattle.refine.specs.Tables.{Shared, Inherits}
use Rattle.refine.specs.Rung.{RowReady, Tracks, Settled, RefinedRow}
use Rattle.refine.proofs.Tables.{inherits_through}
use Rattle.refine.proofs.Bridge.{tallied, Follows, good_here, Drawn, pass_follows}

-- some number of passes, which is enough, makes R of s
pub record Going (G : Graph) (k bound : ℕ) (row : List ℕ) (s R : Tally) : Type 0 where
  pub left : ℕ
  pub enough : measure G k s.parts < left
  pub comes : repeated G k bound row left s ≡ R

-- the code's work w, on its way to R
pub record Stands (G : Graph) (k bound : ℕ) (row : List ℕ) (R : Tally) (w : Work) : Type 0 where
  pub tracks : Tracks G (through row w.table) k w.sums w.cut
  pub placed : Placed w.table
  pub good : Good G k bound row (through row w.table)
  pub going : Going G k bound row (tallied row w) R
  pub room : w.moves + cut_of G (through row w.table) < 2 ^ 32

module _ (G : Graph) (P : Proper G) (k bound : ℕ) (few : k ≤ 16) (row costs froms tos widths : List ℕ) (C : Drawn G row costs froms tos widths) where
  going_turn : (s R : Tally) → Good G k bound row s.parts → (pass_of G k bound row s).moved ≡ true
      → Going G k bound row s R → Going G k bound row (pass_of G k bound row s) R
  unfolding repeated
  going_turn s R I n g = go g.left g.enough g.comes
    where
      go : (left : ℕ) → measure G k s.parts < left → repeated G k bound row left s ≡ R → Going G k bound row (pass_of G k bound row s) R
      go zero l e = absurd (not-suc-le-zero l)
      go (suc left) l e =
          record {
            left = left;
            enough = omega (arith, pass_falls G P k bound (λ r. row) 0 (alone row C.row_of.whole) 0 s (good_here I) n);
            comes = pick_yes _ _ _ _ n refl ∙ e;
          }

  going_end : (s R : Tally) → (pass_of G k bound row s).moved ≡ false → Going G k bound row s R → pass_of G k bound row s ≡ R
  unfolding repeated
  going_end s R q g = go g.left g.enough g.comes
    where
      go : (left : ℕ) → measure G k s.parts < left → repeated G k bound row left s ≡ R → pass_of G k bound row s ≡ R
      go zero l e = absurd (not-suc-le-zero l)
      go (suc left) l e = pick_no _ _ _ _ q refl ∙ e

  module _ (R : Tally) (w w' : Work) (x : Stands G k bound row R w) (g : ℕ) (eg : g ≡ clusters row)
      (d : w' ≡ turns g (worked froms tos widths costs bound) (begun w)) where
    s : Tally
    s = tallied row w

    follows : Follows G k row w' (pass_of G k bound row s)
    unfolding s
    follows = rw (d, eg) (pass_follows G P k bound few row costs froms tos widths C w x.tracks x.placed)

    moved_as : w'.moved ≡ (pass_of G k bound row s).moved
    moved_as = ap (λ (t : Tally). t.moved) follows.is

    moves_as : w'.moves ≡ (pass_of G k bound row s).moves
    moves_as = ap (λ (t : Tally). t.moves) follows.is

    parts_as : through row w'.table ≡ (pass_of G k bound row s).parts
    parts_as = ap (λ (t : Tally). t.parts) follows.is

    -- a pass that moved something: on the way, with a smaller measure
    pub stands_fall : w'.moved ≡ true → measure G k (through row w'.table) < measure G k (through row w.table)
    unfolding s
    stands_fall n = rw parts_as (pass_falls G P k bound (λ r. row) 0 (alone row C.row_of.whole) 0 s (good_here x.good) (sym moved_as ∙ n))

    pub stands_turn : w'.moved ≡ true → Stands G k bound row R w'
    unfolding s
    stands_turn n =
        record {
          tracks = follows.tracks;
          placed = follows.placed;
          good = rw parts_as (steps_good G P k bound (λ r. row) 0 (alone row C.row_of.whole) {s = s} (good_here x.good) (pass_steps G P k bound (λ r. row) 0 (alone row C.row_of.whole) 0 s)).table;
          going = rw follows.is (going_turn s R x.good (sym moved_as ∙ n) x.going);
          room = rw (moves_as, parts_as)
              (omega (arith, x.room, steps_fall G P k bound (λ r. row) 0 (alone row C.row_of.whole) {s = s} (good_here x.good) (pass_steps G P k bound (λ r. row) 0 (alone row C.row_of.whole) 0 s)));
        }

    -- a pass that moved nothing: there
    pub stands_end : w'.moved ≡ false → (tally_of (through row w'.table) w'.moves ≡ R) × Tracks G (through row w'.table) k w'.sums w'.cut
    unfolding s
    stands_end e = (still ∙ follows.is ∙ going_end s R (sym moved_as ∙ e) x.going, follows.tracks)
      where
        still : tally_of (through row w'.table) w'.moves ≡ tallied row w'
        still = ap (λ (b : Bool). record { parts = through row w'.table; moves = w'.moves; moved = b }) (sym e)

-- the lists of a row name clusters below 512, and none of its edges stays in one: those that leave each are those whose start it is
module _ {G : Graph} {row : List ℕ} {g : ℕ} {froms tos widths : List ℕ} (C : Coarse G row g froms tos widths) where
  pub coarse_indexed : {head next head_in next_into : List ℕ} → Linked (leave (joining froms tos)) (length froms) head next
      → Linked (leave (joining tos froms)) (length tos) head_in next_into → Indexed froms tos head next head_in next_into
  coarse_indexed out into =
      record {
        out = linked_same (λ i l. leave_apart (joining froms tos) i (C.apart i l)) out;
        into = linked_same (λ i l. leave_apart (joining tos froms) i (λ e. C.apart i (omega (arith, C.same_ends)) (sym e))) into;
      }

-- from what the work on a rung asks for
module _ {G : Graph} {k bound : ℕ} {row parts : List ℕ} {moves : ℕ} (A : RowReady G k bound row parts moves) where
  pub ready_few : clusters row ≤ 512
  ready_few = omega (arith, onto_few (vertices G) (clusters row) (λ v. get_or row v 0) A.row_of.below A.onto, A.proper.few)

  pub ready_keyed : Keyed row G.costs 512
  ready_keyed = record { same = A.row_of.whole; few = A.proper.few; low = λ v l. omega (arith, A.row_of.below v l, ready_few) }

  pub ready_drawn : {sums froms tos widths : List ℕ} → Coarse G row (clusters row) froms tos widths → Totals row G.costs 512 (length G.costs) sums → Drawn G row sums froms tos widths
  ready_drawn C s =
      record { row_of = A.row_of; few = ready_few; onto = A.onto; cost = λ c l. totals_cost row G.costs s c (omega (arith, ready_few)); lists = C }

  low : (v : ℕ) → v < length row → get_or row v 0 < 512
  low v l = omega (arith, A.row_of.below v (omega (arith, A.row_of.whole)), ready_few)

  pub ready_shared : Shared row parts
  ready_shared =
      record {
        same = A.good.whole ∙ sym A.row_of.whole;
        low = low;
        few = λ v l. omega (arith, A.good.below v (omega (arith, A.row_of.whole)), A.few);
        shared = λ a b la lb e. A.good.shared a b (omega (arith, A.row_of.whole)) (omega (arith, A.row_of.whole)) e;
      }

  pub through_whole : (table' : List ℕ) {l : List ℕ} → l ≡ over (through row table') parts → l ≡ through row table'
  through_whole table' e = e ∙ over_whole (through row table') parts (length-through row table' ∙ A.row_of.whole ∙ sym A.good.whole)

pub ready_stands : {G : Graph} {k bound : ℕ} {row : List ℕ} (w : Work) → RowReady G k bound row (through row w.table) w.moves
    → Tracks G (through row w.table) k w.sums w.cut → Placed w.table → Stands G k bound row (refined_on G k bound row (tally_of (through row w.table) w.moves)) w
unfolding refined_on passes repeated pass_of
ready_stands {G} {k} {row = row} w A r p = record { tracks = r; placed = p; good = A.good; going = record { left = passes G k (through row w.table); enough = omega arith; comes = refl }; room = A.room }

-- the work on a rung as a whole: into the clusters' table, and back
module _ {G : Graph} {k bound : ℕ} {row parts : List ℕ} {moves : ℕ} (A : RowReady G k bound row parts moves) (table : List ℕ) (I : Inherits row parts (length row) table) where
  as_parts : through row table ≡ parts
  as_parts = inherits_through row parts table (A.good.whole ∙ sym A.row_of.whole) I

  pub ready_sums : {S : PartSums} {cut : ℕ} → Tracks G parts k S cut → Tracks G (through row table) k S cut × RowReady G k bound row (through row table) moves
  ready_sums R = rw as_parts (R, A)

  pub ready_settled : {table' l : List ℕ} {r : Progress} → Settled G k bound row table moves table' r → l ≡ through row table' → RefinedRow G k bound row parts moves l r
  ready_settled x e = record { is = rw e x.is ∙ ap (λ (t : List ℕ). refined_on G k bound row (tally_of t moves)) as_parts; tracks = rw e x.tracks }
