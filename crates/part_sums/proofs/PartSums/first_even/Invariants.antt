-- No sum from first on and before t is below rest.
use Rattle.std.proofs.Common.{◌≤◌, ◌<◌, ℕ, get_or}
use Rattle.part_sums.proofs.PartSums.first_even.Given as goal

abbrev pub invariant-loop-t : goal.invariant-loop-t
invariant-loop-t l = (u : ℕ) → l.first ≤ u → u < l.t → l.rest ≤ get_or l.self.sums u 0
