-- What the code finds of the intervals that start at y, by their weights.
use Rattle.std.specs.Prelude.{ℕ, ◌+◌, ◌≤◌, ◌<◌, ◌≡◌, List}
use Rattle.division_table.specs.Promises.{span, Lanes, ColumnsFilled, Column}
use Rattle.division_table.specs.declared.weights.Weights.{Weights}
use Rattle.division_table.specs.declared.End.{End}

-- an end of an interval from y on: what the interval costs, and what leaves it
pub record EndOf (w : Weights) (e : End) : Type 0 where
  pub past : w.y < e.x
  pub inside : e.x ≤ w.g
  pub loads : e.load ≡ span w.cost.now w.y e.x
  pub outs : e.out + span w.into.now w.y e.x ≡ span w.away.now w.y e.x

-- the ends from x on and below x' are within the bound, and their offers not below `most`
pub record PassedOver (w : Weights) (most x x' : ℕ) : Type 0 where
  pub upto : x ≤ x'
  pub each : (z : ℕ) → x ≤ z → z < x' → (span w.cost.now w.y z ≤ w.bound) × (most + span w.into.now w.y z ≤ span w.away.now w.y z)

-- n lanes of the cuts, of from + 1 starts on
abbrev pub LanesOf : Weights → ℕ → ℕ → List ℕ → List ℕ → Type 0
LanesOf w from n cuts lanes = Lanes w.bound w.y from n w.g w.cost.now w.away.now w.into.now cuts lanes

-- n columns filled, from `from` on
abbrev pub FilledOf : Weights → ℕ → ℕ → List ℕ → List ℕ → Type 0
FilledOf w from n cuts cuts' = ColumnsFilled w.bound w.y from n w.g w.cost.now w.away.now w.into.now cuts cuts'

-- the cuts that a division with n starts can have, where `before` intervals lie before y at least and `after` from it on
abbrev pub ColumnOf : Weights → ℕ → ℕ → ℕ → ℕ → List ℕ → List ℕ → Type 0
ColumnOf w rest n before after cuts cuts' = Column w.bound rest w.y n before after w.g w.cost.now w.away.now w.into.now cuts cuts'
