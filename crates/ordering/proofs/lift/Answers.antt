-- an entry is raised where it is lower and not that of u itself; else it is written as it was
use Prim.Native.Nat.{ℕ, max}
use mathlib.Core.Path.{◌≡◌}
use mathlib.Core.List.{List}
use native.Mathlib.Omega.{arith}
use lib.Dec.{ltb}
use lib.ListN.{get_or, set}
use borrow.Author.Tests.{ltb-true, ltb-false, ne_eqb}
use Rattle.std.proofs.lemmas.List.{set-get_or}
use Rattle.folds.specs.Fold.{pick}
use Rattle.folds.proofs.Cases.{cases, by}
use Rattle.ordering.specs.Sweep.{raised_of}
use Rattle.ordering.proofs.lift.Goals as goal

written : (l : List ℕ) (b x : ℕ) → set l b (max (get_or l b 0) x) ≡ pick (ltb (get_or l b 0) x) (set l b x) l
written l b x =
    by (ltb (get_or l b 0) x) (λ t. let m : max (get_or l b 0) x ≡ x = omega (arith, ltb-true _ _ t) in rw (t, m))
    (λ t. let m : max (get_or l b 0) x ≡ get_or l b 0 = omega (arith, ltb-false _ _ t) in rw (t, m) (set-get_or l b 0))

pub returns-then-b-u : goal.returns-then-b-u
unfolding raised_of
returns-then-b-u c = search cases

pub returns : goal.returns
unfolding raised_of
returns c = rw (ne_eqb c.args.b c.args.u c.if-b-u.false, c.max.ensures) (written _ _ _)
