-- A place below 64 is a shift that keeps one bit.
use lib.Pow.{shl_exact}
use native.Mathlib.Nat.{one-mul}
use native.Mathlib.Omega.{arith}
use mathlib.Core.Path.{◌∙◌}
use Rattle.pool.proofs.bit.Goals as goal

pub returns : goal.returns
returns c = shl_exact {a = 1} 1 _ 64 (omega arith) (omega arith) ∙ one-mul _
