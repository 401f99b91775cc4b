-- The work on one rung, as the code does it: over a table of the clusters' parts and the record of sums.
use Rattle.std.specs.Prelude.{Option, Some, None, ℕ, ◌+◌, ◌-◌, ◌≤◌, ◌<◌, min, ◌≡◌, Bool, true, false, not, ◌&&◌, ◌||◌, List, eqb, ltb, leb, get_or, set}
use Rattle.folds.specs.Fold.{pick, when, best_to}
use Rattle.neighbours.specs.Visit.{Placed, low_next, high_before, pull_to, Seated}
use Rattle.neighbours.specs.declared.Mark.{Mark}
use Rattle.neighbours.specs.Known.{Known}
use Rattle.part_sums.specs.declared.PartSums.{PartSums}
use Rattle.pass.specs.declared.Progress.{Progress}
use Rattle.pass.specs.declared.Target.{Target}
use Rattle.part_sums.specs.Sums.{sums_allow, sums_even, shifted}

-- the cluster gains by part t, or neither gains nor loses and evens; f u is its width to part u
unfoldable pub gains_by : (ℕ → ℕ) → PartSums → ℕ → ℕ → ℕ → Bool
gains_by f S own cost t = ltb (f own) (f t) || (eqb (f t) (f own) && sums_even S own t cost)

-- part t is a candidate, allowed, and makes the table better
unfoldable pub open_of : (ℕ → ℕ) → PartSums → ℕ → ℕ → ℕ → ℕ → ℕ → ℕ → Bool
open_of f S own cost bound low high t =
    (not (eqb own t) && (leb high (t + 1) && leb t low)) && (sums_allow S own t cost bound && gains_by f S own cost t)

-- of these the one with the largest width, ties to the lowest, or the cluster's own part
unfoldable pub choice_of : (ℕ → ℕ) → PartSums → ℕ → ℕ → ℕ → ℕ → ℕ → ℕ
choice_of f S own cost bound low high = best_to S.count (open_of f S own cost bound low high) (λ a b. ltb (f a) (f b)) own

-- the best so far is the cluster's own part, or has less width than part t
unfoldable pub beats_of : (ℕ → ℕ) → ℕ → ℕ → ℕ → Bool
beats_of f own t best = eqb best own || ltb (f best) (f t)

-- part t of the candidates in place of the best so far, by the tests in the code's order
unfoldable pub better_of : (ℕ → ℕ) → PartSums → ℕ → ℕ → ℕ → ℕ → ℕ → ℕ
better_of f S own cost bound t best =
    pick (not (eqb own t) && (beats_of f own t best && (gains_by f S own cost t && sums_allow S own t cost bound))) t best

-- what is known of the widths f without a look at them, where own is from the highest part of the predecessors to the lowest of the successors: some to
-- these two parts, none to those between
pub record Around (f : ℕ → ℕ) (k own low high : ℕ) : Type 0 where
  pub inside : own < k
  pub after : high ≤ own + 1
  pub before : own ≤ low
  pub at_high : 0 < high → 0 < f (high - 1)
  pub at_low : low < k → 0 < f low
  pub between : (u : ℕ) → high ≤ u → u < low → f u ≡ 0

-- the part of the highest predecessor is another one and allowed; that of the lowest successor
unfoldable pub back_allowed : PartSums → ℕ → ℕ → ℕ → ℕ → Bool
back_allowed S own cost bound high = (ltb 0 high && leb high own) && sums_allow S own (high - 1) cost bound

unfoldable pub ahead_allowed : PartSums → ℕ → ℕ → ℕ → ℕ → Bool
ahead_allowed S own cost bound low = (ltb own low && ltb low S.count) && sums_allow S own low cost bound

-- the choice among these two
unfoldable pub back_of : (ℕ → ℕ) → PartSums → ℕ → ℕ → ℕ → ℕ → ℕ
back_of f S own cost bound high = pick (ltb 0 high) (better_of f S own cost bound (high - 1) own) own

unfoldable pub ends_of : (ℕ → ℕ) → PartSums → ℕ → ℕ → ℕ → ℕ → ℕ → ℕ
ends_of f S own cost bound low high =
    pick (ltb low S.count) (better_of f S own cost bound low (back_of f S own cost bound high)) (back_of f S own cost bound high)

-- part u evens and is allowed
unfoldable pub evenly : PartSums → ℕ → ℕ → ℕ → ℕ → Bool
evenly S own cost bound u = sums_even S own u cost && sums_allow S own u cost bound

pub record NoneEvens (S : PartSums) (own cost bound high end : ℕ) : Type 0 where
  pub at : (u : ℕ) → high ≤ u → u < end → evenly S own cost bound u ≡ false

-- r is the lowest part between that does
pub record FirstEvens (S : PartSums) (own cost bound low high r : ℕ) : Type 0 where
  pub from : high ≤ r
  pub below : r < low
  pub inside : r < S.count
  pub evens : evenly S own cost bound r ≡ true
  pub first : NoneEvens S own cost bound high r

-- the same of a search that finds none or one
abbrev pub EvenPart : PartSums → ℕ → ℕ → ℕ → ℕ → ℕ → Option ℕ → Type 0
EvenPart S own cost bound low high None = NoneEvens S own cost bound high (min low S.count)
EvenPart S own cost bound low high (Some r) = FirstEvens S own cost bound low high r

-- r is that part, and one of the 16
pub record PickedPart (f : ℕ → ℕ) (S : PartSums) (own cost bound low high r : ℕ) : Type 0 where
  pub is : r ≡ choice_of f S own cost bound low high
  pub within : r < 16

-- r is that part, and how much more the cluster is tied to it than to its own
pub record Aims (f : ℕ → ℕ) (S : PartSums) (own cost bound low high : ℕ) (r : Target) : Type 0 where
  pub chosen : PickedPart f S own cost bound low high r.part
  pub gain_is : r.gain ≡ f r.part - f own

-- the clusters' parts, the sums, the cut, the moves counted so far, and whether the pass at hand has moved something
pub record Work : Type 0 where
  pub table : List ℕ
  pub sums : PartSums
  pub cut : ℕ
  pub moves : ℕ
  pub moved : Bool

abbrev pub work_of : List ℕ → Progress → Work
work_of table p = record { table = table; sums = p.sums; cut = p.cut; moves = p.moves; moved = p.moved }

-- at the start of a pass
abbrev pub begun : Work → Work
begun w = record { table = w.table; sums = w.sums; cut = w.cut; moves = w.moves; moved = false }

-- a visit of cluster h, by a rung's lists and the clusters' costs
unfoldable pub choice_at : List ℕ → List ℕ → List ℕ → List ℕ → ℕ → ℕ → List ℕ → PartSums → ℕ
choice_at froms tos widths costs bound h table S =
    choice_of (pull_to froms tos widths table h) S (get_or table h 0) (get_or costs h 0) bound (low_next froms tos table h S.count) (high_before froms tos table h)

-- by how much the cut falls where h goes to part t
unfoldable pub gain_at : List ℕ → List ℕ → List ℕ → ℕ → List ℕ → ℕ → ℕ
gain_at froms tos widths h table t = pull_to froms tos widths table h t - pull_to froms tos widths table h (get_or table h 0)

-- the work after h has gone to part t; a move that gains nothing is not counted
unfoldable pub moved_by : List ℕ → List ℕ → List ℕ → List ℕ → ℕ → ℕ → Work → Work
moved_by froms tos widths costs h t w =
    pick (eqb t (get_or w.table h 0)) w
    (record {
      table = set w.table h t;
      sums = shifted w.sums (get_or w.table h 0) t (get_or costs h 0);
      cut = w.cut - gain_at froms tos widths h w.table t;
      moves = w.moves + when (ltb 0 (gain_at froms tos widths h w.table t)) 1;
      moved = true;
    })

unfoldable pub worked : List ℕ → List ℕ → List ℕ → List ℕ → ℕ → ℕ → Work → Work
worked froms tos widths costs bound h w = moved_by froms tos widths costs h (choice_at froms tos widths costs bound h w.table w.sums) w

-- what the visit of cluster h gains is in the cut
unfoldable pub Paid : List ℕ → List ℕ → List ℕ → List ℕ → ℕ → ℕ → Work → Type 0
Paid froms tos widths costs bound h w = gain_at froms tos widths h w.table (choice_at froms tos widths costs bound h w.table w.sums) ≤ w.cut

-- what a visit of cluster h asks for
pub record Visitable (froms tos widths costs : List ℕ) (bound h : ℕ) (w : Work) : Type 0 where
  pub paid : Paid froms tos widths costs bound h w
  pub seated : Seated froms tos w.table w.sums.count h

-- r is where the visit of cluster h takes it, and what is known afterwards of the clusters
pub record Goal (froms tos widths costs : List ℕ) (bound h : ℕ) (table : List ℕ) (S : PartSums) (low high : List ℕ) (marks : List Mark) (r : Target) : Type 0 where
  pub is : r.part ≡ choice_at froms tos widths costs bound h table S
  pub within : r.part < 16
  pub gain_is : r.gain ≡ gain_at froms tos widths h table r.part
  pub known : Known froms tos table S.count low high marks

-- what the code says of the work w' that came of w by at most so many moves
pub record WorkDone (w w' : Work) (most : ℕ) (is : Work) : Type 0 where
  pub is_so : w' ≡ is
  pub placed : Placed w'.table
  pub counts : w'.sums.count ≡ w.sums.count
  pub few : w'.moves ≤ w.moves + most
