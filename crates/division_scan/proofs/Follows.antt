-- The search for the next start.
use Prim.Native.Nat.{ℕ, ◌+◌, ◌-◌, ◌*◌, ◌≤◌, ◌<◌}
use mathlib.Core.Path.{◌≡◌, sym, ◌∙◌}
use Rattle.std.specs.Prelude.{Option, unwrap_or}
use mathlib.Core.Bool.{false}
use mathlib.Core.List.{List}
use native.Mathlib.Omega.{arith}
use lib.Dec.{ltb, leb}
use lib.ListN.{length, get_or}
use borrow.Author.Tests.{lt-ltb, le-ltb, ltb-false, leb-true, eq-eqb, ne_eqb}
use Rattle.folds.specs.Fold.{if_below, zeros}
use Rattle.folds.proofs.Cases.{by, either, eq_or_ne}
use Rattle.folds.proofs.Sums.{sum_to_none}
use Rattle.folds.proofs.Lists.{get_d_zeros, length-zeros}
use Rattle.folds.proofs.Searches.{first_to_found, first_to_all}
use Rattle.graph.specs.Graph.{via}
use Rattle.division_table.specs.Promises.{leads, next_by}
use Rattle.division_table.proofs.Intervals.{out_of, into_from, leaving_next, into_next}
use Rattle.division_scan.specs.Scan.{from_to, starting_at, IntoRoom, Gathered, Positioned, leaving_by, entering_by, Brought}
use Rattle.division_scan.proofs.Flows.{leaving_small, entering_small}

-- no position up to x is the start that follows y
pub record Passed (out : ℕ → ℕ → ℕ) (cuts : List ℕ) (j y x : ℕ) : Type 0 where
  pub none : (z : ℕ) → z ≤ x → leads out cuts j y z ≡ false

module _ {out : ℕ → ℕ → ℕ} {cuts : List ℕ} {j y : ℕ} where
  pub passed_none : Passed out cuts j y y
  passed_none = record { none = λ z h. rw (le-ltb y z h) }

  module _ {x o goal : ℕ} (l : y ≤ x) (P : Passed out cuts j y x) (e : o ≡ out y (x + 1)) (q : goal ≡ get_or cuts (y * 17 + (j + 1)) 0) where
    pub passed_more : (o + get_or cuts ((x + 1) * 17 + j) 0 ≡ goal → ⊥) → Passed out cuts j y (x + 1)
    passed_more n =
        record {
          none = λ z h.
              either (eq_or_ne z (x + 1))
              (λ i. rw (i, lt-ltb y (x + 1) (omega arith)) (ne_eqb _ _ (λ k. n (rw (e, q) k))))
              (λ i. P.none z (omega arith));
        }

    pub next_at : (g : ℕ) → x + 1 < g → o + get_or cuts ((x + 1) * 17 + j) 0 ≡ goal → x + 1 ≡ next_by g out cuts j y
    unfolding next_by
    next_at g h k =
        sym (first_to_found g (x + 1) _ (first_to_all (x + 1) _ (λ z i. P.none z (omega arith))) (rw (lt-ltb y (x + 1) (omega arith)) (eq-eqb _ _ (rw (e, q) at k))) h)

  pub next_none : {x : ℕ} (g : ℕ) → Passed out cuts j y x → g ≤ x + 1 → g ≡ next_by g out cuts j y
  unfolding next_by
  next_none g P h = sym (first_to_all g _ (λ z i. P.none z (omega arith)))

-- the start that is found, or the number of positions
pub start_is : {g x y : ℕ} {r : Option ℕ} → r ≡ if_below g x → y ≡ unwrap_or r g → x ≤ g → y ≡ x
start_is {g} {x} q e l =
    by (ltb x g) (λ t. e ∙ rw (q, t)) (λ t. let z : g ≡ x = omega (arith, ltb-false x g t) in e ∙ rw (q, t) z)

-- what comes in is gathered as the interval grows
module _ {places starts ends widths : List ℕ} {g : ℕ} (P : Positioned places starts ends widths g) where
  -- an edge ends no earlier than it starts
  into_past : (x : ℕ) → entering_by places starts ends widths (x + 1) x ≡ 0
  unfolding entering_by into_from
  into_past x =
      sum_to_none (length starts) _ (λ j l.
      by (leb (x + 1) (via places starts j))
      (λ t. rw (t, ne_eqb (via places ends j) x (λ e. omega (arith, leb-true (x + 1) (via places starts j) t, P.forward j l))))
      (λ t. rw t))

  pub brought_none : (y : ℕ) → Brought places starts ends widths y y (zeros 512)
  brought_none y = record { deep = length-zeros 512; is = λ z. omega (arith, get_d_zeros 512 z) }

  module _ {y x : ℕ} {into : List ℕ} (B : Brought places starts ends widths y x into) where
    pub brought_room : IntoRoom into
    brought_room = record { tall = B.deep; low = λ z. omega (arith, B.is z, entering_small P y z) }

    module _ {into' : List ℕ} {w : ℕ} (R : Gathered places starts ends widths x (length starts) into into' w) where
      pub brought_more : Brought places starts ends widths y (x + 1) into'
      unfolding entering_by from_to
      brought_more =
          record {
            deep = R.tall;
            is = λ z. omega (arith, R.adds z, B.is z, into_next (length starts) (via places starts) (via places ends) (λ j. get_or widths j 0) P.forward x z);
          }

      -- position x joins the interval: what leaves it leaves, what came into it does no longer
      pub leaving_more : {out : ℕ} → y ≤ x → out ≡ leaving_by places starts ends widths y x → out + w ≡ leaving_by places starts ends widths y (x + 1) + get_or into' x 0
      unfolding leaving_by entering_by starting_at out_of
      leaving_more l e =
          omega (arith, R.sums, brought_more.is x, into_past x, leaving_next (length starts) (via places starts) (via places ends) (λ j. get_or widths j 0) P.forward y x l)

      module _ {out : ℕ} (l : y ≤ x) (e : out ≡ leaving_by places starts ends widths y x) where
        pub leaving_is : (out + w) - get_or into' x 0 ≡ leaving_by places starts ends widths y (x + 1)
        leaving_is = omega (arith, leaving_more l e)

        pub leaving_room : out + w ≤ 134215680
        leaving_room = omega (arith, leaving_more l e, leaving_small P y (x + 1), brought_more.is x, entering_small P y x)
