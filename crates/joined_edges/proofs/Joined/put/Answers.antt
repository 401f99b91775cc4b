-- The joined edge stands after the n before it.
use mathlib.Core.Path.{refl}
use borrow.Author.Tests.{eq-eqb, ne_eqb}
use Rattle.joined_edges.proofs.Joined.put.Goals as goal

pub returns-then-w-eq0 : goal.returns-then-w-eq0
returns-then-w-eq0 c = record { sums_are = refl; froms_are = rw (eq-eqb _ _ c.if-w-eq0.true); tos_are = rw (eq-eqb _ _ c.if-w-eq0.true); ws_are = rw (eq-eqb _ _ c.if-w-eq0.true); count_is = rw (eq-eqb _ _ c.if-w-eq0.true) }

pub returns : goal.returns
returns c = record { sums_are = refl; froms_are = rw (ne_eqb _ _ c.if-w-eq0.false); tos_are = rw (ne_eqb _ _ c.if-w-eq0.false); ws_are = rw (ne_eqb _ _ c.if-w-eq0.false); count_is = rw (ne_eqb _ _ c.if-w-eq0.false) }
