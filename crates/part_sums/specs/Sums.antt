-- The record of part sums: what it holds, and what its methods answer.
use Rattle.std.specs.Prelude.{Option, Some, None, ℕ, ◌+◌, ◌-◌, ◌≤◌, ◌<◌, ◌^◌, ◌≡◌, Bool, true, false, ◌&&◌, List, ltb, leb, length, get_or, set}
use Rattle.graph.specs.Graph.{part_cost}
use Rattle.part_sums.specs.declared.PartSums.{PartSums}

-- the record is the sums of the table, for k parts
pub record SumsOf (costs parts : List ℕ) (k : ℕ) (S : PartSums) : Type 0 where
  pub counts : S.count ≡ k
  pub long : length S.sums ≡ 16
  pub is : (u : ℕ) → u < 16 → get_or S.sums u 0 ≡ part_cost costs parts u

-- both halves of "allowed": the old part is not emptied, and the new one, of that size, stays within the bound
unfoldable pub size_allowed : PartSums → ℕ → ℕ → ℕ → ℕ → Bool
size_allowed S from cost size bound = ltb cost (get_or S.sums from 0) && leb size bound

abbrev pub sums_allow : PartSums → ℕ → ℕ → ℕ → ℕ → Bool
sums_allow S from to cost bound = size_allowed S from cost (get_or S.sums to 0 + cost) bound

-- by a cost that goes from one part to another the larger of the two sums falls
unfoldable pub sums_even : PartSums → ℕ → ℕ → ℕ → Bool
sums_even S from to cost = ltb (get_or S.sums to 0 + cost) (get_or S.sums from 0)

-- r is the first part from `first` on and before `end` that evens the cost's own out, or one past them
pub record FirstEven (S : PartSums) (own cost first end r : ℕ) : Type 0 where
  pub none : (u : ℕ) → first ≤ u → u < r → u < end → sums_even S own u cost ≡ false
  pub some : r < end → (first ≤ r) × (sums_even S own r cost ≡ true)

-- the same of a search that finds none or one
abbrev pub EvenFound : PartSums → ℕ → ℕ → ℕ → ℕ → Option ℕ → Type 0
EvenFound S own cost first end None = FirstEven S own cost first end end
EvenFound S own cost first end (Some r) = (r < end) × FirstEven S own cost first end r

-- a cost that can go from one part to another
pub record Shifts (S : PartSums) (from to cost : ℕ) : Type 0 where
  pub from_in : from < 16
  pub to_in : to < 16
  pub held : cost ≤ get_or S.sums from 0
  pub fits : get_or S.sums to 0 + cost < 2 ^ 32

-- the record after a move
unfoldable pub shifted : PartSums → ℕ → ℕ → ℕ → PartSums
shifted S from to cost =
    record { sums = set (set S.sums from (get_or S.sums from 0 - cost)) to (get_or S.sums to 0 + cost); count = S.count }

-- r is that record: just two sums changed
pub record Shifted (S : PartSums) (from to cost : ℕ) (r : PartSums) : Type 0 where
  pub is : r ≡ shifted S from to cost
  pub counts : r.count ≡ S.count
  pub others : (u : ℕ) → (u ≡ from → ⊥) → (u ≡ to → ⊥) → get_or r.sums u 0 ≡ get_or S.sums u 0
