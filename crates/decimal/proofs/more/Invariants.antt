-- Invariant: what the digits from i on make of v is what those from the first place on make of first.
use Prim.Native.Nat.{◌≤◌}
use mathlib.Core.Path.{◌≡◌}
use lib.ListN.{drop}
use Rattle.decimal.specs.Read.{more_of}
use Rattle.decimal.proofs.more.Given as goal

abbrev pub invariant-loop-i : goal.invariant-loop-i
invariant-loop-i l = (l.v ≤ l.most) × (more_of l.most l.v l.i (drop l.i l.text) ≡ more_of l.most l.first l.from (drop l.from l.text))
