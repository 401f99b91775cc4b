-- the table has the least cut; where there is one, its starts follow
use native.Mathlib.Omega.{arith}
use Prim.Native.Nat.{ℕ}
use mathlib.Core.Path.{refl, ◌∙◌, ap}
use mathlib.Core.List.{List}
use Rattle.folds.specs.Fold.{over, zeros}
use lib.Seq.{length-take-le}
use Rattle.division_scan.specs.Placed.{starts_in}
use Rattle.initial.specs.Initial.{parts_of}
use Rattle.initial.proofs.Solves.{solved_none, solved_some}
use Rattle.initial.proofs.search.Goals as goal

pub returns-then-c-ge-NO_CUT : goal.returns-then-c-ge-NO_CUT
returns-then-c-ge-NO_CUT g c =
    rw (solved_none c.args.edges.positioned c.args.n c.requires.g_nonzero.1 (omega arith) c.tabulate.ensures c.if-c-ge-NO_CUT.true) (record { is = refl; table = refl })

pub returns : goal.returns
unfolding zeros
returns g c =
    rw (solved_some c.args.edges.positioned c.args.n c.requires.g_nonzero.1 (omega arith) c.tabulate.ensures c.if-c-ge-NO_CUT.false)
    (record { is = refl; table = c.label.ensures ∙ ap (λ (d : List ℕ). over (parts_of c.args.places.now d) c.args.table.now) (c.follow.ensures ∙ ap (λ (i : ℕ). starts_in c.args.edges c.tabulate.new.cut i) (length-take-le c.args.n (zeros 16) (omega arith))) })
