-- Where the edges that are left form no cycle, none do.
use Rattle.std.proofs.Common.{sym}
use Rattle.cycle_test.proofs.Thins.{front_long, held_ended, rest_none}
use Rattle.cycle_test.proofs.is_rest_ranked.Goals as goal

pub returns-then-sieve-eq0 : goal.returns-then-sieve-eq0
returns-then-sieve-eq0 c = λ _. rest_none c.thin_all.ensures c.if-sieve-eq0.true

pub slice_bounds-rest-end : goal.slice_bounds-rest-end
slice_bounds-rest-end c = sym (front_long c.thin_all.ensures.held.starts)

pub slice_bounds-rest-end-2 : goal.slice_bounds-rest-end-2
slice_bounds-rest-end-2 c = sym (front_long c.thin_all.ensures.held.ends)

pub invariant_of-rest : goal.invariant_of-rest
invariant_of-rest c = record { ended = held_ended c.thin_all.ensures.held }

pub returns : goal.returns
returns c = λ r. c.thin_all.ensures.free (c.is_ranked.ensures r)
