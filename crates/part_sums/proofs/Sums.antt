-- Laws of the record of part sums.
use Prim.Native.Nat.{ℕ, ◌+◌, ◌-◌, ◌≤◌, ◌<◌, ◌^◌}
use mathlib.Core.Path.{◌≡◌, refl, sym, ◌∙◌}
use mathlib.Core.Bool.{true}
use mathlib.Core.List.{List}
use native.Mathlib.Omega.{arith}
use lib.Dec.{ltb}
use lib.ListN.{get_or, set, length-set}
use lib.Seq.{get_or-set_same, get_or-set_other}
use borrow.Author.Tests.{ltb-true, lt-ltb, le-ltb, leb-true}
use Rattle.folds.proofs.Cases.{both, either, eq_or_ne}
use Rattle.graph.specs.Graph.{part_cost}
use Rattle.part_sums.specs.declared.PartSums.{PartSums}
use Rattle.part_sums.specs.Sums.{SumsOf, size_allowed, sums_allow, sums_even, FirstEven, Shifts, shifted, Shifted}

set_others : (l : List ℕ) (a b x y u : ℕ) → (u ≡ a → ⊥) → (u ≡ b → ⊥) → get_or (set (set l a x) b y) u 0 ≡ get_or l u 0
set_others l a b x y u n m = get_or-set_other (set l a x) b u y 0 m ∙ get_or-set_other l a u x 0 n

module _ (S : PartSums) (from to cost bound : ℕ) where
  pub allowed_shifts : sums_allow S from to cost bound ≡ true → from < 16 → to < 16 → bound < 2 ^ 32 → Shifts S from to cost
  unfolding size_allowed
  allowed_shifts e l m b =
      let (x, y) = both (ltb cost (get_or S.sums from 0)) _ e in
      let less = ltb-true cost (get_or S.sums from 0) x in
      let room = leb-true (get_or S.sums to 0 + cost) bound y in record { from_in = l; to_in = m; held = omega arith; fits = omega arith }

  -- just two sums changed
  pub shifted_others : (u : ℕ) → (u ≡ from → ⊥) → (u ≡ to → ⊥) → get_or (shifted S from to cost).sums u 0 ≡ get_or S.sums u 0
  unfolding shifted
  shifted_others u n m = set_others S.sums from to (get_or S.sums from 0 - cost) (get_or S.sums to 0 + cost) u n m

  -- the record stays the sums of the table, where the cost went from one part to the other
  pub shifted_sums : {costs parts parts' : List ℕ} {k : ℕ} → SumsOf costs parts k S → (from ≡ to → ⊥) → from < 16 → to < 16
      → part_cost costs parts' from + cost ≡ part_cost costs parts from → part_cost costs parts' to ≡ part_cost costs parts to + cost
      → ((u : ℕ) → (from ≡ u → ⊥) → (to ≡ u → ⊥) → part_cost costs parts' u ≡ part_cost costs parts u) → SumsOf costs parts' k (shifted S from to cost)
  unfolding shifted
  shifted_sums {costs} {parts} {parts'} R n lf lt old new third =
      record {
        counts = R.counts;
        long = length-set (set sums from less) to more ∙ length-set sums from less ∙ R.long;
        is = λ u l.
            either (eq_or_ne u to)
            (λ e. rw (e, get_or-set_same (set sums from less) to more 0 (omega (arith, length-set sums from less, R.long))) (omega (arith, new, R.is to lt)))
            (λ m. get_or-set_other (set sums from less) to u more 0 m
            ∙ either (eq_or_ne u from) (λ e. rw (e, get_or-set_same sums from less 0 (omega (arith, R.long))) (omega (arith, old, R.is from lf)))
            (λ o. get_or-set_other sums from u less 0 o ∙ R.is u l ∙ sym (third u (λ e. o (sym e)) (λ e. m (sym e)))));
      }
    where
      sums : List ℕ
      sums = S.sums

      less : ℕ
      less = get_or sums from 0 - cost

      more : ℕ
      more = get_or sums to 0 + cost

shifted_count : (S : PartSums) (from to cost : ℕ) → (shifted S from to cost).count ≡ S.count
unfolding shifted
shifted_count S from to cost = refl

pub shifted_two : (S : PartSums) (from to cost : ℕ) (r : PartSums) → r ≡ shifted S from to cost → Shifted S from to cost r
shifted_two S from to cost r e = record { is = e; counts = rw e (shifted_count S from to cost); others = λ u n m. rw e (shifted_others S from to cost 0 u n m) }

-- the first part that evens, from what the branches say
pub even_poor : (S : PartSums) (own cost first end : ℕ) → get_or S.sums own 0 ≤ cost → FirstEven S own cost first end end
unfolding sums_even
even_poor S own cost first end l =
    record { none = λ u g h e. le-ltb (get_or S.sums u 0 + cost) (get_or S.sums own 0) (omega arith); some = λ h. absurd (omega arith) }

pub even_below : (S : PartSums) (own cost first end r : ℕ) {rest : ℕ} → cost < get_or S.sums own 0 → rest ≡ get_or S.sums own 0 - cost
    → ((u : ℕ) → first ≤ u → u < r → u < end → rest ≤ get_or S.sums u 0) → (r < end → (first ≤ r) × (get_or S.sums r 0 < rest)) → FirstEven S own cost first end r
unfolding sums_even
even_below S own cost first end r {rest} l q none some =
    record {
      none = λ u g h e. le-ltb (get_or S.sums u 0 + cost) (get_or S.sums own 0) (omega (arith, none u g h e));
      some = λ h. let (g, b) = some h in (g, lt-ltb (get_or S.sums r 0 + cost) (get_or S.sums own 0) (omega arith));
    }
