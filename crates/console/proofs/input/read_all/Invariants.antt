-- Invariant: the buffer keeps its length, and what was read is within it.
use Rattle.std.proofs.Common.{◌≡◌, ◌≤◌, length}
use Rattle.console.proofs.input.read_all.Given as goal

abbrev pub invariant-loop : goal.invariant-loop
invariant-loop g l = (length l.buf ≡ length l.fn.buf) × (l.at ≤ length l.fn.buf)
