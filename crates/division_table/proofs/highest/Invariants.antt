-- none of the lanes so far is above m
use Prim.Native.Nat.{ℕ, ◌≤◌, ◌<◌}
use lib.ListN.{get_or}
use Rattle.division_table.specs.Promises.{no_cut}
use Rattle.division_table.proofs.highest.Given as goal

abbrev pub invariant-loop-b : goal.invariant-loop-b
invariant-loop-b g l = (l.m ≤ no_cut) × ((i : ℕ) → i < l.b-index → get_or l.best i 0 ≤ l.m)
