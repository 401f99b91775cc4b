-- Laws of the loops that gather what leaves each position and what comes into it.
use Prim.Native.Nat.{ℕ, ◌+◌, ◌≤◌, ◌<◌}
use mathlib.Core.Path.{◌≡◌, refl, ap, ◌∙◌}
use mathlib.Core.Bool.{Bool, true, ◌&&◌}
use mathlib.Core.List.{List}
use native.Mathlib.Omega.{arith}
use lib.Dec.{eqb}
use lib.ListN.{length, get_or, set, length-set}
use borrow.Author.Tests.{eq-eqb, ne_eqb}
use Rattle.folds.specs.Fold.{when, sum_to, most_width}
use Rattle.folds.proofs.Cases.{when_le}
use Rattle.folds.proofs.Sums.{sum_to_mono, sum_to_step, sum_to_less}
use Rattle.folds.proofs.Lists.{set_add}
use Rattle.graph.specs.Graph.{via}
use Rattle.graph.specs.Coarse.{Narrow}
use Rattle.graph.proofs.Links.{On, Only, sum_on, sum_next}
use Rattle.division_scan.specs.Scan.{from_to, starting_at, Gathered, LinkedBy}

-- some of the widths, and one more
pub narrow_part : (widths : List ℕ) {m : ℕ} (t : ℕ → Bool) → Narrow widths → length widths ≡ m → sum_to m (λ j. when (t j) (get_or widths j 0)) ≤ most_width
narrow_part widths {m} t n e = omega (arith, sum_to_mono m _ (λ j. get_or widths j 0) (λ k _. when_le (t k) (get_or widths k 0)), ap (λ (i : ℕ). sum_to i (λ j. get_or widths j 0)) e)

narrow_more : (widths : List ℕ) (t : ℕ → Bool) (j : ℕ) → Narrow widths → j < length widths → sum_to j (λ k. when (t k) (get_or widths k 0)) + get_or widths j 0 ≤ most_width
narrow_more widths t j n l =
    omega (
      arith,
      sum_to_mono j _ (λ k. get_or widths k 0) (λ k _. when_le (t k) (get_or widths k 0)),
      sum_to_step j (λ k. get_or widths k 0),
      sum_to_less (λ k. get_or widths k 0) (j + 1) (length widths) (omega arith),
    )

pub from_more : (places starts ends widths : List ℕ) (y x j : ℕ) → Narrow widths → j < length widths → sum_to j (from_to places starts ends widths y x) + get_or widths j 0 ≤ most_width
unfolding from_to
from_more places starts ends widths y x = narrow_more widths (λ k. eqb (via places starts k) y && eqb (via places ends k) x)

pub starting_more : (places starts widths : List ℕ) (y j : ℕ) → Narrow widths → j < length widths → sum_to j (starting_at places starts widths y) + get_or widths j 0 ≤ most_width
unfolding starting_at
starting_more places starts widths y = narrow_more widths (λ k. eqb (via places starts k) y)

-- the edges of the cluster at position y
module _ (order places starts ends widths head next : List ℕ) (y : ℕ) (ly : y < length places) (L : LinkedBy order places starts head next) where
  starting_only : Only (λ i. get_or starts i 0) (get_or order y 0) (starting_at places starts widths y)
  unfolding starting_at
  starting_only i n = rw (ne_eqb (via places starts i) y (λ q. n (L.only y i ly q)))

  from_only : (x : ℕ) → Only (λ i. get_or starts i 0) (get_or order y 0) (from_to places starts ends widths y x)
  unfolding from_to
  from_only x i n = rw (ne_eqb (via places starts i) y (λ q. n (L.only y i ly q)))

  pub gathered_none : (into : List ℕ) → length into ≡ 512 → Gathered places starts ends widths y (get_or head (get_or order y 0) 0) into into 0
  gathered_none into t =
      record {
        tall = t;
        sums = sum_on L.linked (get_or order y 0) (starting_at places starts widths y) starting_only (L.low y ly);
        adds = λ x. omega (arith, sum_on L.linked (get_or order y 0) (from_to places starts ends widths y x) (from_only x) (L.low y ly));
      }

  pub gathered_turn : (j : ℕ) (into into' : List ℕ) (sum x : ℕ) → On (λ i. get_or starts i 0) (length starts) (get_or order y 0) j → j < length starts → x ≡ via places ends j → x < 512
      → Gathered places starts ends widths y j into into' sum → Gathered places starts ends widths y (get_or next j 0) into (set into' x (get_or into' x 0 + get_or widths j 0)) (sum + get_or widths j 0)
  unfolding from_to starting_at
  gathered_turn j into into' sum x o l e lx G =
      let w = get_or widths j 0 in
      let here : eqb (via places starts j) y ≡ true = eq-eqb (via places starts j) y (L.here y j ly (o.at l)) in
      record {
        tall = length-set into' x (get_or into' x 0 + w) ∙ G.tall;
        sums = sum_next L.linked (get_or order y 0) j sum w (starting_at places starts widths y) starting_only o l G.sums (rw here);
        adds = λ z.
            let f = from_to places starts ends widths y z in
            let adds : when (eqb x z) w ≡ f j = rw (e, here) in
            omega (arith, set_add into' x w z (omega (arith, G.tall)), G.adds z, sum_next L.linked (get_or order y 0) j (sum_to j f) (when (eqb x z) w) f (from_only z) o l refl adds);
      }
