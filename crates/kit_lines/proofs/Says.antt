-- Texts that do not say the same.
use Prim.Native.Nat.{ℕ}
use mathlib.Core.Path.{◌≡◌}
use native.Mathlib.Omega.{arith}
use Rattle.validity.specs.declared.Cause.{Cause}
use Rattle.kit_lines.specs.Kit.{Kit, accepted, refused}

pub refused_accepted : (c : Cause) (p : ℕ) (k : Kit) → refused c p ≡ accepted k → ⊥
refused_accepted c p k e = let z : ◌≡◌ {A = ℕ} 0 1 = cc in omega arith

pub same_refusal : (c d : Cause) (p q : ℕ) → refused c p ≡ refused d q → (c ≡ d) × (p ≡ q)
same_refusal c d p q e =
    let a : c ≡ d = cc in
    let b : p ≡ q = cc in
    (a, b)
