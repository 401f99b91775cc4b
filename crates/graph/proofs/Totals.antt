-- Laws of sums by key and of the number of clusters.
use Prim.Native.Nat.{ℕ, suc, ◌+◌, ◌≤◌, ◌<◌, max}
use mathlib.Core.Path.{◌≡◌, refl, sym, ◌∙◌}
use mathlib.Core.List.{List}
use native.Mathlib.Numerals.{add-one}
use native.Mathlib.Omega.{arith}
use lib.Dec.{eqb}
use lib.ListN.{length, get_or, set, length-set, replicate, get_or-replicate}
use Rattle.folds.specs.Fold.{when, max_to, Read, most_cost}
use Rattle.folds.proofs.Sums.{sum_to_zero, sum_to_step, sum_to_le}
use Rattle.folds.proofs.Lists.{set_add}
use Rattle.graph.specs.Graph.{cost_in, part_cost}
use Rattle.graph.proofs.Edges.{cost_in_le}
use Rattle.graph.specs.Totals.{Keyed, Totals}

-- sums by key
module _ (keys costs : List ℕ) where
  pub totals_none : {g : ℕ} (sums : List ℕ) → length sums ≡ g → ((u : ℕ) → u < g → get_or sums u 0 ≡ 0) → Totals keys costs g 0 sums
  totals_none sums e z = record { long = e; is = λ u l. z u l ∙ sym (sum_to_zero _) }

  pub totals_turn : {g i c x : ℕ} (sums : List ℕ) → Totals keys costs g i sums → Keyed keys costs g → i < length costs → c ≡ get_or keys i 0 → x ≡ get_or costs i 0
      → Totals keys costs g (i + 1) (set sums c (get_or sums c 0 + x))
  unfolding cost_in
  totals_turn {i = i} {c = c} {x = x} sums s k l rc rx =
      record {
        long = length-set sums c _ ∙ s.long;
        is = λ u lu.
            let low = k.low i l in
            let q : c < length sums = rw (rc, s.long) low in
            let t : when (eqb c u) x ≡ when (eqb (get_or keys i 0) u) (get_or costs i 0) = rw (rc, rx) in
            omega (arith, set_add sums c x u q, s.is u lu, sum_to_step i (λ v. when (eqb (get_or keys v 0) u) (get_or costs v 0)), t);
      }

  pub totals_room : {g i : ℕ} (sums : List ℕ) → Totals keys costs g i sums → i ≤ 512 → ((v : ℕ) → get_or costs v 0 ≤ 65535) → (u : ℕ) → u < g → get_or sums u 0 ≤ most_cost
  totals_room {i = i} sums s l w u lu = omega (arith, s.is u lu, sum_to_le i 65535 (cost_in costs keys u) (cost_in_le costs keys u 65535 w))

  pub totals_cost : {g : ℕ} {sums : List ℕ} → Totals keys costs g (length costs) sums → (u : ℕ) → u < g → get_or sums u 0 ≡ part_cost costs keys u
  unfolding part_cost
  totals_cost s = s.is

pub zero_sums : (n u : ℕ) → u < n → get_or {A = ℕ} (replicate n 0) u 0 ≡ 0
zero_sums n u l = get_or-replicate {A = ℕ} n u 0 0 l

-- what a read of a key gives
pub keyed_in : {keys costs : List ℕ} {g i b c : ℕ} → Keyed keys costs g → i < length costs → Read keys i b c → c < g
keyed_in k l r = rw r.is (k.low _ l)

-- the number of clusters
pub count_none : (f : ℕ → ℕ) → 0 ≡ max_to 0 f
unfolding max_to
count_none f = refl

pub count_turn : (row : List ℕ) (i : ℕ) {c r s : ℕ} → s ≡ max_to i (λ v. suc (get_or row v 0)) → c ≡ get_or row i 0 → r ≡ max s (c + 1) → r ≡ max_to (i + 1) (λ v. suc (get_or row v 0))
unfolding max_to
count_turn row i {c} {r} {s} e rc h = rw add-one (h ∙ omega (arith, rc))
