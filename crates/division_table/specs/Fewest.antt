-- How many intervals the positions before or after a place take at least.
use Rattle.std.specs.Prelude.{ℕ, ◌+◌, ◌≤◌, ◌<◌, ◌≡◌, ◌⊎◌, Bool, true, List, length, get_or}
use Rattle.division_table.specs.Promises.{span, within}

-- none before position 0; one more where an interval that passes the test leads there
pub record Before (g : ℕ) (ok : ℕ → ℕ → Bool) (before : List ℕ) : Type 0 where
  pub tall : length before ≡ 512
  pub first : get_or before 0 0 ≡ 0
  pub step : (y x : ℕ) → y ≤ x → x < g → ok y x ≡ true → get_or before x 0 ≤ get_or before y 0 + 1

-- from y on: one where an interval leads to the end, one more than where it leads to
pub record After (g : ℕ) (ok : ℕ → ℕ → Bool) (y : ℕ) (after : List ℕ) : Type 0 where
  pub tall : length after ≡ 512
  pub last : (z : ℕ) → y ≤ z → z < g → ok z g ≡ true → get_or after z 0 ≤ 1
  pub step : (z x : ℕ) → y ≤ z → z ≤ x → x < g → ok z x ≡ true → get_or after z 0 ≤ get_or after x 0 + 1

-- what a turn leaves of the count so far: a filled interval takes a position of cost c too, or it is past the bound and the next starts
abbrev pub Turned : ℕ → ℕ → ℕ → ℕ → ℕ → ℕ → Type 0
Turned bound c load load' count count' = ((bound < load + c) × (load' ≡ c) × (count' ≡ count + 1)) ⊎ ((load + c ≤ bound) × (load' ≡ load + c) × (count' ≡ count))

-- The loops. `count` filled intervals hold the positions below x, the last from `start` on:
pub record PackedBelow (cost : List ℕ) (bound x load count : ℕ) (before : List ℕ) : Type 0 where
  pub start : ℕ
  pub under : start < x
  pub sum : load ≡ span cost start x
  pub counts : Before x (within cost bound) before
  pub same : (y : ℕ) → start < y → y < x → get_or before y 0 ≡ count
  pub step : (y : ℕ) → y < x → within cost bound y x ≡ true → count ≤ get_or before y 0 + 1

-- `count` hold those from y on, the first up to `end`:
pub record PackedFrom (cost : List ℕ) (bound g y load count : ℕ) (after : List ℕ) : Type 0 where
  pub end : ℕ
  pub over : y ≤ end
  pub inside : end ≤ g
  pub sum : load ≡ span cost y end
  pub counts : After g (within cost bound) y after
  pub same : (x : ℕ) → y ≤ x → x < end → get_or after x 0 ≡ count
  pub step : (x : ℕ) → y ≤ x → x < g → within cost bound y x ≡ true → count ≤ get_or after x 0 + 1
  pub last : within cost bound y g ≡ true → count ≤ 1
