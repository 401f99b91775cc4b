-- What the arrays of the sweep hold, position by position from the last down.
use Prim.Native.Nat.{ℕ, ◌+◌, ◌-◌, ◌≤◌, ◌<◌}
use mathlib.Core.Path.{◌≡◌, ap, sym, ◌∙◌}
use mathlib.Core.Bool.{◌&&◌}
use mathlib.Core.List.{List}
use native.Mathlib.Omega.{arith}
use lib.Dec.{eqb, leb, ltb}
use lib.ListN.{length, get_or, set, length-set}
use lib.Seq.{get_or-set_same, get_or-set_other}
use Rattle.folds.specs.Fold.{zeros, most_cost, most_width}
use Rattle.folds.proofs.Cases.{either, eq_or_ne}
use Rattle.folds.proofs.Lists.{get_d_zeros, length-zeros}
use Rattle.graph.specs.Graph.{via}
use Rattle.division_table.specs.Division.{between}
use Rattle.division_table.specs.Promises.{span, within, RunWeights, Column, LeastFrom}
use Rattle.division_table.specs.Fewest.{Before, After}
use Rattle.division_table.proofs.Intervals.{leaving, out_of, into_from, leaving_none, into_next, into_none}
use Rattle.division_table.proofs.Spans.{span_between, span_leaves}
use Rattle.division_table.proofs.Tables.{span_mono, span_narrow, span_front}
use Rattle.division_table.proofs.Sweeps.{done_next}
use Rattle.division_scan.specs.Scan.{from_to, starting_at, IntoRoom, Gathered, Positioned, leaving_by, away_by, entering_by, Flows, Costs, CutsKnown}
use Rattle.division_scan.proofs.Gathers.{narrow_part}

-- the cost of all from y - 1 on
pub rest_next : (cost : List ℕ) {g y rest : ℕ} → 0 < y → y ≤ g → rest ≡ span cost y g → rest + get_or cost (y - 1) 0 ≡ span cost (y - 1) g
rest_next cost {g} {y} l h e =
    let q : y ≡ (y - 1) + 1 = omega arith in omega (arith, span_front cost (y - 1) g (omega arith), ap (λ (i : ℕ). span cost i g) q)

pub rest_room : {cost : List ℕ} {g y rest : ℕ} → Costs cost g → 0 < y → y ≤ g → rest ≡ span cost y g → rest + get_or cost (y - 1) 0 ≤ most_cost
rest_room {cost} {g} {y} C l h e = omega (arith, rest_next cost l h e, C.light, span_narrow cost 0 (y - 1) g (omega arith))

module _ {places starts ends widths : List ℕ} {g : ℕ} (P : Positioned places starts ends widths g) where
  -- what leaves an interval, or comes into a position, is no more than all
  pub leaving_small : (y x : ℕ) → leaving_by places starts ends widths y x ≤ most_width
  unfolding leaving_by leaving
  leaving_small y x = narrow_part widths (λ j. leb y (via places starts j) && ltb (via places starts j) x && leb x (via places ends j)) P.narrow P.same

  pub entering_small : (y x : ℕ) → entering_by places starts ends widths y x ≤ most_width
  unfolding entering_by into_from
  entering_small y x = narrow_part widths (λ j. leb y (via places starts j) && eqb (via places ends j) x) P.narrow P.same

  pub leaving_first : (y : ℕ) → 0 ≡ leaving_by places starts ends widths y y
  unfolding leaving_by
  leaving_first y = sym (leaving_none (length starts) (via places starts) (via places ends) (λ j. get_or widths j 0) y)

  pub flows_none : (away : List ℕ) → length away ≡ 512 → Flows places starts ends widths g g away (zeros 512)
  unfolding entering_by
  flows_none away t =
      record {
        aways = record { wide = t; outs = λ x l h. absurd (omega arith) };
        deep = length-zeros 512;
        intos = λ x. get_d_zeros 512 x ∙ sym (into_none (length starts) (via places starts) (via places ends) (λ j. get_or widths j 0) P.forward g x P.below);
      }

  flows_next : (y : ℕ) (away into into' : List ℕ) (r : ℕ) → y < 512 → Flows places starts ends widths g (y + 1) away into
      → Gathered places starts ends widths y (length starts) into into' r → Flows places starts ends widths g y (set away y r) into'
  unfolding away_by entering_by out_of from_to starting_at
  flows_next y away into into' r ly F R =
      record {
        aways = record {
          wide = length-set away y r ∙ F.aways.wide;
          outs = λ x l h.
              either (eq_or_ne x y)
              (λ q. rw (q, get_or-set_same away y r 0 (omega (arith, F.aways.wide))) R.sums)
              (λ n. get_or-set_other away y x r 0 n ∙ F.aways.outs x (omega arith) h);
        };
        deep = R.tall;
        intos = λ x. R.adds x ∙ rw (F.intos x) (sym (into_next (length starts) (via places starts) (via places ends) (λ j. get_or widths j 0) P.forward y x));
      }

  -- the widths that come in are no more than all
  pub flows_room : {y : ℕ} {away into : List ℕ} → Flows places starts ends widths g y away into → IntoRoom into
  flows_room {y} F = record { tall = F.deep; low = λ x. omega (arith, F.intos x, entering_small y x) }

  module _ (y : ℕ) (away into : List ℕ) (F : Flows places starts ends widths g y away into) where
    away_leaves : (x : ℕ) → y ≤ x → x ≤ g → span away y x ≡ leaving_by places starts ends widths y x + span into y x
    unfolding leaving_by away_by entering_by
    away_leaves =
        span_leaves (length starts) (via places starts) (via places ends) (λ j. get_or widths j 0) P.forward away into y g F.aways.outs (λ x _ _. F.intos x)

    flows_weights : (cost : List ℕ) → Costs cost g → RunWeights g y cost away into
    unfolding away_by out_of between
    flows_weights cost C =
        record {
          tall = C.tall;
          wide = F.aways.wide;
          deep = F.deep;
          light = λ x l h. omega (arith, C.light, span_narrow cost 0 y x (omega arith), span_mono cost 0 x g h);
          narrow = λ x l h.
              omega (
                arith,
                span_between (length starts) (via places starts) (λ j. get_or widths j 0) away y g F.aways.outs x l h,
                narrow_part widths (λ j. leb y (via places starts j) && ltb (via places starts j) x) P.narrow P.same,
              );
          covers = λ x l h. omega (arith, away_leaves x l h);
        }

  -- a turn: what the sweep of position y - 1 asks, and what it leaves
  module _ (bound y : ℕ) (cost away into into' cuts : List ℕ) (r rest : ℕ) (ly : 0 < y) (lg : y ≤ g) (small : g ≤ 512)
      (C : Costs cost g) (F : Flows places starts ends widths g y away into) (R : Gathered places starts ends widths (y - 1) (length starts) into into' r)
      {i : ℕ} (few : i ≤ 16) (e : rest ≡ span cost y g) {before : List ℕ} (D : LeastFrom i g (within cost bound) (leaving_by places starts ends widths) before y cuts) where
    pub turn_flows : Flows places starts ends widths g (y - 1) (set away (y - 1) r) into'
    turn_flows = let q : y ≡ (y - 1) + 1 = omega arith in flows_next (y - 1) away into into' r (omega arith) (rw q at F) R

    pub turn_weights : RunWeights g (y - 1) cost (set away (y - 1) r) into'
    turn_weights = flows_weights (y - 1) (set away (y - 1) r) into' turn_flows cost C

    pub turn_done : {after cuts' : List ℕ} {b a : ℕ} → Before g (within cost bound) before → After g (within cost bound) 0 after → b ≡ get_or before (y - 1) 0 → a ≡ get_or after (y - 1) 0
        → Column bound (rest + get_or cost (y - 1) 0) (y - 1) i b a g cost (set away (y - 1) r) into' cuts cuts'
        → LeastFrom i g (within cost bound) (leaving_by places starts ends widths) before (y - 1) cuts'
    turn_done B A p o K =
        let q : y ≡ (y - 1) + 1 = omega arith in
        done_next few (omega arith) (rest_next cost ly lg e) leaving_small (away_leaves (y - 1) (set away (y - 1) r) into' turn_flows) B A (rw q at D) (rw (p, o) at K)

pub tabled_end : {n : ℕ} {places starts ends widths cost before : List ℕ} {bound g y : ℕ} {away into cuts : List ℕ} → Flows places starts ends widths g y away into → Before g (within cost bound) before
    → LeastFrom n g (within cost bound) (leaving_by places starts ends widths) before y cuts → CutsKnown n places starts ends widths cost bound g y away cuts
tabled_end {before = before} F B D = record { aways = F.aways; before = before; counts = B; done = D }
