-- Intervals that are each filled up to the bound are the fewest, before a position and from it on.
use Prim.Native.Nat.{ℕ, suc, ◌+◌, ◌≤◌, ◌<◌}
use mathlib.Core.Path.{◌≡◌, refl, sym, ◌∙◌}
use mathlib.Core.Bool.{Bool, true, false}
use mathlib.Core.List.{List, [], ◌∷◌}
use native.Mathlib.Omega.{arith}
use lib.Dec.{ltb}
use lib.ListN.{length, get_or, set, length-set}
use lib.Seq.{get_or-set_same, get_or-set_other}
use borrow.Author.Tests.{ltb-true, ltb-false, leb-true, le-leb}
use Rattle.folds.proofs.Cases.{by, either, eq_or_ne, both, no_bool}
use Rattle.division_table.specs.Division.{Rising, fits, Pick, none, some}
use Rattle.division_table.specs.Promises.{best, span, within}
use Rattle.division_table.specs.Fewest.{Before, After, PackedBelow, PackedFrom, Turned}
use Rattle.division_table.proofs.Wins.{From, best_holds}
use Rattle.division_table.proofs.Intervals.{rising_below}
use Rattle.division_table.proofs.Tables.{span_start, span_next, span_mono, span_narrow, span_front, within_no}
use Rattle.division_table.proofs.Spans.{span_none}
use Rattle.division_table.proofs.Cells.{Monotone}

unfeasible : (g : ℕ) (ok : ℕ → ℕ → Bool) (out : ℕ → ℕ → ℕ) (j y : ℕ) → ((d : List ℕ) → From g ok out j y d → ⊥) → best g ok out j y ≡ none
unfeasible g ok out j y h = go (best g ok out j y) refl
  where
    go : (p : Pick (List ℕ)) → best g ok out j y ≡ p → p ≡ none
    go none e = refl
    go (some c l) e = absurd (h l (best_holds g ok out j y c l e).0)

-- no more intervals than positions
rising_few : (g y : ℕ) (d : List ℕ) → Rising g y d → y + length d < g
rising_few g y [] r = omega (arith, r)
rising_few g y (x ∷ d) r = omega (arith, r.0, rising_few g x d r.1)

pub too_many : (g : ℕ) (ok : ℕ → ℕ → Bool) (out : ℕ → ℕ → ℕ) (n : ℕ) → g ≤ n → best g ok out n 0 ≡ none
too_many g ok out n h = unfeasible g ok out n 0 (λ d D. absurd (omega (arith, D.1, rising_few g 0 d D.0)))

-- no fewer than `after` says
after_least : {g : ℕ} {ok : ℕ → ℕ → Bool} {after : List ℕ} → After g ok 0 after → (y : ℕ) (d : List ℕ) → Rising g y d → fits g ok y d ≡ true → get_or after y 0 ≤ suc (length d)
unfolding fits
after_least A y [] r f = A.last y (omega arith) r f
after_least {g} {ok} A y (x ∷ d) r f =
    let a = both (ok y x) (fits g ok x d) f in
    let l = r.0 in
    omega (arith, A.step y x (omega arith) (omega arith) (rising_below g x d r.1) a.0, after_least A x d r.1 a.1)

pub too_few : {g j : ℕ} {ok : ℕ → ℕ → Bool} {after : List ℕ} (out : ℕ → ℕ → ℕ) (y : ℕ) → After g ok 0 after → suc j < get_or after y 0 → best g ok out j y ≡ none
too_few {g} {j} {ok} out y A h = unfeasible g ok out j y (λ d D. absurd (omega (arith, D.1, after_least A y d D.0 D.2)))

-- costs
pub within_monotone : (cost : List ℕ) (bound : ℕ) → Monotone (within cost bound)
unfolding within
within_monotone cost bound y z x w a b e =
    le-leb (span cost z x) bound (omega (arith, leb-true (span cost y w) bound e, span_narrow cost y z x a, span_mono cost y x w b))

-- upward
pub below_first : (cost : List ℕ) (bound : ℕ) (before : List ℕ) {r : ℕ} → length before ≡ 512 → r ≡ 0 → PackedBelow cost bound 1 (get_or cost 0 0) 1 (set before 0 r)
below_first cost bound before {r} t e =
    record {
      start = 0;
      under = omega arith;
      sum = span_start cost 0;
      counts = record {
        tall = length-set before 0 r ∙ t;
        first = get_or-set_same before 0 r 0 (omega arith) ∙ e;
        step = λ y z l h e. let q : z ≡ y = omega arith in rw q (omega arith);
      };
      same = λ y l h. absurd (omega arith);
      step = λ y l e. omega arith;
    }

pub below_room : {cost : List ℕ} {bound g x load count : ℕ} {before : List ℕ} → PackedBelow cost bound x load count before → x < g → load + get_or cost x 0 ≤ span cost 0 g
below_room {cost} {g = g} {x} P l =
    omega (arith, P.sum, P.under, span_next cost P.start x (omega (arith, P.under)), span_narrow cost 0 P.start (x + 1) (omega arith), span_mono cost 0 (x + 1) g (omega arith))

pub below_turn : {cost : List ℕ} {bound x load load' count count' : ℕ} {before : List ℕ} → PackedBelow cost bound x load count before → x < 512
    → Turned bound (get_or cost x 0) load load' count count' → PackedBelow cost bound (x + 1) load' count' (set before x count)
below_turn {cost} {bound} {x} {load} {load'} {count} {count'} {before} P l h =
    either h
    (λ a. record {
      start = x;
      under = omega arith;
      sum = a.1 ∙ span_start cost x;
      counts = counts;
      same = λ y i k. absurd (omega arith);
      -- an interval up to x starts after the one that is full
      step = λ y i e.
          by (ltb P.start y)
          (λ t. omega (arith, a.2, same y (ltb-true P.start y t) i))
          (λ t. absurd (no_bool (sym (full (omega (arith, a.0))) ∙ within_monotone cost bound y P.start (x + 1) (x + 1) (ltb-false P.start y t) (omega arith) e)));
    })
    (λ a. record {
      start = P.start;
      under = omega (arith, P.under);
      sum = omega (arith, a.1, P.sum, span_next cost P.start x (omega (arith, P.under)));
      counts = counts;
      same = λ y i k. same y i k ∙ sym a.2;
      step = λ y i e.
          either (eq_or_ne y x)
          (λ q. rw q (omega (arith, a.2, here)))
          (λ q. omega (arith, a.2, old y (omega arith), P.step y (omega arith) (within_monotone cost bound y y x (x + 1) (omega arith) (omega arith) e)));
    })
  where
    here : get_or (set before x count) x 0 ≡ count
    here = get_or-set_same before x count 0 (omega (arith, P.counts.tall))

    old : (y : ℕ) → y < x → get_or (set before x count) y 0 ≡ get_or before y 0
    old y i = get_or-set_other before x y count 0 (λ q. omega arith)

    same : (y : ℕ) → P.start < y → y < x + 1 → get_or (set before x count) y 0 ≡ count
    same y i k = either (eq_or_ne y x) (λ q. rw q here) (λ q. old y (omega arith) ∙ P.same y i (omega arith))

    full : bound < load + get_or cost x 0 → within cost bound P.start (x + 1) ≡ false
    full k = within_no cost bound P.start (x + 1) (omega (arith, P.sum, span_next cost P.start x (omega (arith, P.under))))

    counts : Before (x + 1) (within cost bound) (set before x count)
    counts =
        record {
          tall = length-set before x count ∙ P.counts.tall;
          first = old 0 (omega (arith, P.under)) ∙ P.counts.first;
          step = λ y z i k e.
              either (eq_or_ne z x)
              (λ q. either (eq_or_ne y x) (λ r. rw (q, r) (omega arith)) (λ r. rw (q, here) (omega (arith, old y (omega arith), P.step y (omega arith) (rw q at e)))))
              (λ q. omega (arith, old y (omega arith), old z (omega arith), P.counts.step y z i (omega arith) e));
        }

-- downward
pub from_none : (cost : List ℕ) (bound g : ℕ) {after : List ℕ} → length after ≡ 512 → PackedFrom cost bound g g 0 1 after
from_none cost bound g t =
    record {
      end = g;
      over = omega arith;
      inside = omega arith;
      sum = sym (span_none cost g);
      counts = record { tall = t; last = λ z l h e. absurd (omega arith); step = λ z x l i h e. absurd (omega arith) };
      same = λ x l h. absurd (omega arith);
      step = λ x l h e. absurd (omega arith);
      last = λ e. omega arith;
    }

pub from_room : {cost : List ℕ} {bound g load count : ℕ} {after : List ℕ} (y : ℕ) → PackedFrom cost bound g (y + 1) load count after → load + get_or cost y 0 ≤ span cost 0 g
from_room {cost} {g = g} y P =
    omega (arith, P.sum, span_front cost y P.end (omega (arith, P.over)), span_narrow cost 0 y P.end (omega arith), span_mono cost 0 P.end g P.inside)

-- the count of y is stored
from_put : {cost : List ℕ} {bound g load count : ℕ} {after : List ℕ} (y end : ℕ) → After g (within cost bound) (y + 1) after → y < end → end ≤ g → g ≤ 512 → load ≡ span cost y end
    → ((x : ℕ) → y < x → x < end → get_or after x 0 ≡ count) → ((x : ℕ) → y < x → x < g → within cost bound y x ≡ true → count ≤ get_or after x 0 + 1) → (within cost bound y g ≡ true → count ≤ 1)
    → PackedFrom cost bound g y load count (set after y count)
from_put {cost} {bound} {g} {load} {count} {after} y end A l i few e same step last =
    record {
      end = end;
      over = omega arith;
      inside = i;
      sum = e;
      counts = record {
        tall = length-set after y count ∙ A.tall;
        last = λ z j k o. either (eq_or_ne z y) (λ q. rw (q, here) (last (rw q at o))) (λ q. rw (old z (omega arith)) (A.last z (omega arith) k o));
        step = λ z x j u k o.
            either (eq_or_ne z y)
            (λ q. rw (q, here) (next x (omega arith) k (rw q at o)))
            (λ q. rw (old z (omega arith), old x (omega arith)) (A.step z x (omega arith) u k o));
      };
      same = λ x j k. either (eq_or_ne x y) (λ q. rw q here) (λ q. old x (omega arith) ∙ same x (omega arith) k);
      step = next;
      last = last;
    }
  where
    here : get_or (set after y count) y 0 ≡ count
    here = get_or-set_same after y count 0 (omega (arith, A.tall))

    old : (x : ℕ) → y < x → get_or (set after y count) x 0 ≡ get_or after x 0
    old x i = get_or-set_other after y x count 0 (λ q. omega arith)

    next : (x : ℕ) → y ≤ x → x < g → within cost bound y x ≡ true → count ≤ get_or (set after y count) x 0 + 1
    next x j k o = either (eq_or_ne x y) (λ q. rw (q, here) (omega arith)) (λ q. rw (old x (omega arith)) (step x (omega arith) k o))

pub from_turn : {cost : List ℕ} {bound g load load' count count' : ℕ} {after : List ℕ} (y : ℕ) → PackedFrom cost bound g (y + 1) load count after → g ≤ 512
    → Turned bound (get_or cost y 0) load load' count count' → PackedFrom cost bound g y load' count' (set after y count')
from_turn {cost} {bound} {g} {load} {load'} {count} {count'} {after} y P few h =
    either h
    (λ a.
    let o = short (omega (arith, a.0)) in
    from_put y (y + 1) P.counts (omega arith) (omega (arith, P.over, P.inside)) few (a.1 ∙ span_start cost y) (λ x i k. absurd (omega arith))
    (λ x i k e. omega (arith, a.2, P.same x (omega arith) (o x e))) (λ e. absurd (omega (arith, o g e, P.inside))))
    (λ a.
    from_put y P.end P.counts (omega (arith, P.over)) P.inside few (omega (arith, a.1, sum)) (λ x i k. P.same x (omega arith) k ∙ sym a.2)
    (λ x i k e. omega (arith, a.2, P.step x (omega arith) k (later x e))) (λ e. omega (arith, a.2, P.last (later g e))))
  where
    sum : load + get_or cost y 0 ≡ span cost y P.end
    sum = omega (arith, P.sum, span_front cost y P.end (omega (arith, P.over)))

    later : (x : ℕ) → within cost bound y x ≡ true → within cost bound (y + 1) x ≡ true
    later x e = within_monotone cost bound y (y + 1) x x (omega arith) (omega arith) e

    -- an interval from y ends before the one that is full
    short : bound < load + get_or cost y 0 → (x : ℕ) → within cost bound y x ≡ true → x < P.end
    short k x e =
        by (ltb x P.end) (λ t. ltb-true x P.end t)
        (λ t. absurd (no_bool (sym (within_no cost bound y P.end (omega (arith, sum))) ∙ within_monotone cost bound y y P.end x (omega arith) (ltb-false x P.end t) e)))
