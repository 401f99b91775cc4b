-- What code that is handed a test of numbers knows of it.
use Rattle.std.specs.Prelude.{ℕ, ◌<◌, ◌≡◌, Bool}

-- it says of each number below n whether it has p
abbrev pub Tells : (ℕ → Bool → Type 0) → ℕ → (ℕ → Bool) → Type 0
Tells says n p = (j : ℕ) (r : Bool) → j < n → says j r → r ≡ p j
