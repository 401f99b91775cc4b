-- The cuts of a position from those of the positions after it: a sweep leaves out no column that a division can use.
use Prim.Native.Nat.{ℕ, zero, suc, ◌+◌, ◌-◌, ◌*◌, ◌≤◌, ◌<◌}
use mathlib.Core.Path.{◌≡◌, ap, sym, ◌∙◌}
use mathlib.Core.Bool.{Bool}
use mathlib.Core.List.{List}
use native.Mathlib.Omega.{arith}
use lib.Dec.{ltb}
use lib.ListN.{get_or}
use borrow.Author.Tests.{ltb-true, lt-ltb}
use Rattle.folds.specs.Fold.{most_width}
use Rattle.folds.proofs.Cases.{by, either, eq_or_ne}
use Rattle.division_table.specs.Promises.{best, cut_in, span, within, onward, Table, Column, Blank, LeastFrom}
use Rattle.division_table.specs.Fewest.{Before, After}
use Rattle.division_table.proofs.Cells.{cut_next}
use Rattle.division_table.proofs.Tables.{lowest_ext, within_is}
use Rattle.division_table.proofs.Fills.{too_few}

pub done_none : {n g : ℕ} {ok : ℕ → ℕ → Bool} {out : ℕ → ℕ → ℕ} {before cuts : List ℕ} → Table g cuts → Blank g cuts → LeastFrom n g ok out before g cuts
done_none T E = record { table = T; below = E; done = λ x j l h k. absurd (omega arith) }

-- the cuts of y, filled by a sweep over weights that are those of the intervals from y on
pub done_next : {n g y bound rest : ℕ} {out : ℕ → ℕ → ℕ} {cost away into before after cuts cuts' : List ℕ} → n ≤ 16 → y < g → rest ≡ span cost y g → ((y x : ℕ) → out y x ≤ most_width)
    → ((x : ℕ) → y ≤ x → x ≤ g → span away y x ≡ out y x + span into y x) → Before g (within cost bound) before → After g (within cost bound) 0 after
    → LeastFrom n g (within cost bound) out before (y + 1) cuts → Column bound rest y n (get_or before y 0) (get_or after y 0) g cost away into cuts cuts' → LeastFrom n g (within cost bound) out before y cuts'
unfolding best onward
done_next {n} {g} {y} {bound} {rest} {out} {cost} {away} {into} {before} {after} {cuts} {cuts'} few ly e narrow leaves B A D C =
    record {
      table = C.table;
      below = record { blank = λ i h. C.other i (λ k. omega arith) ∙ D.below.blank i (omega arith) };
      done = λ x j l lx lj. either (eq_or_ne x y) (λ e. rw e (here j (rw e at lj))) (λ ne. C.other (x * 17 + j) (λ k. omega arith) ∙ D.done x j (omega arith) lx lj);
    }
  where
    here : (j : ℕ) → get_or before y 0 + j ≤ n → get_or cuts' (y * 17 + j) 0 ≡ cut_in (best g (within cost bound) out j y)
    here zero l =
        let q : y * 17 + 0 ≡ y * 17 = omega arith in
        rw (q, C.last, e, lt-ltb y g ly, ← within_is cost bound y g) (by (within cost bound y g) (λ t. rw t) (λ t. rw t))
    here (suc j) l =
        let q : y * 17 + suc j ≡ y * 17 + (j + 1) = omega arith in
        ap (λ (i : ℕ). get_or cuts' i 0) q
        ∙ either (C.here j (omega arith))
        (λ k.
        k
        ∙ lowest_ext g _ _ (λ x lx.
        by (ltb y x)
        (λ t.
        let h = ltb-true y x t in
        let w : span away y x - span into y x ≡ out y x = omega (arith, leaves x (omega arith) (omega arith)) in
        by (within cost bound y x)
        (λ u. rw (t, u, w, D.done x j (omega arith) lx (omega (arith, B.step y x (omega arith) lx u))))
        (λ u. rw (t, u)))
        (λ t. rw t))
        ∙ cut_next g (within cost bound) out narrow j y (omega arith))
        (λ k. k.0 ∙ D.below.blank _ (omega arith) ∙ sym (ap cut_in (too_few {j = suc j} out y A (omega (arith, k.1)))))
