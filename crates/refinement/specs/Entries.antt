-- Lists of moves down the rungs, whoever picked them (document 01, "The words of demand 3").
use Rattle.std.specs.Prelude.{ℕ, suc, ◌+◌, ◌-◌, ◌≤◌, ◌<◌, List, [], ◌∷◌, ℤ, pos, ◌+ℤ◌}
use Rattle.std.specs.Int.Signed.{lt_z}
use Rattle.folds.specs.Fold.{when}
use Rattle.graph.specs.Graph.{Graph, cut_of}
use Rattle.graph.specs.Table.{Good}
use Rattle.refinement.specs.Move.{moved_to, gain_to, Allowed, Improves}

-- the rung at hand, and each vertex's part
pub record State : Type 0 where
  pub rung : ℕ
  pub parts : List ℕ

abbrev pub state_of : ℕ → List ℕ → State
state_of rung parts = record { rung = rung; parts = parts }

-- cluster h of the rung at hand goes to part t, or one rung down
pub data Entry : Type 0 where
  move : ℕ → ℕ → Entry
  down : Entry

abbrev pub step : (ℕ → List ℕ) → Entry → State → State
step rows (move h t) s = state_of s.rung (moved_to (rows s.rung) h t s.parts)
step rows down s = state_of (s.rung - 1) s.parts

-- each entry gets the table that the last one left
abbrev pub after : (ℕ → List ℕ) → List Entry → State → State
after rows [] s = s
after rows (e ∷ es) s = after rows es (step rows e s)

-- an entry as the table then stands, whatever its gain
abbrev pub Admits : Graph → ℕ → ℕ → (ℕ → List ℕ) → Entry → State → Type 0
Admits G k bound rows (move h t) s = Allowed G k bound (rows s.rung) s.parts h t
Admits G k bound rows down s = 0 < s.rung

abbrev pub AllAllowed : Graph → ℕ → ℕ → (ℕ → List ℕ) → List Entry → State → Type 0
AllAllowed G k bound rows [] s = Unit {0}
AllAllowed G k bound rows (e ∷ es) s = Admits G k bound rows e s × AllAllowed G k bound rows es (step rows e s)

-- the cut of a state, and an entry's gain
abbrev pub cut_at : Graph → State → ℕ
cut_at G s = cut_of G s.parts

abbrev pub gain : Graph → (ℕ → List ℕ) → Entry → State → ℤ
gain G rows (move h t) s = gain_to G (rows s.rung) s.parts h t
gain G rows down s = pos 0

-- the sum of the gains, the moves of gain above 0, and the steps down
abbrev pub gains : Graph → (ℕ → List ℕ) → List Entry → State → ℤ
gains G rows [] s = pos 0
gains G rows (e ∷ es) s = gain G rows e s +ℤ gains G rows es (step rows e s)

abbrev pub gaining : Graph → (ℕ → List ℕ) → List Entry → State → ℕ
gaining G rows [] s = 0
gaining G rows (e ∷ es) s = when (lt_z (pos 0) (gain G rows e s)) 1 + gaining G rows es (step rows e s)

abbrev pub downs : List Entry → ℕ
downs [] = 0
downs (move h t ∷ es) = downs es
downs (down ∷ es) = suc (downs es)

-- each move gains, or evens out at the same cut
abbrev pub Betters : Graph → (ℕ → List ℕ) → Entry → State → Type 0
Betters G rows (move h t) s = Improves G (rows s.rung) s.parts h t
Betters G rows down s = Unit {0}

abbrev pub AllImprove : Graph → (ℕ → List ℕ) → List Entry → State → Type 0
AllImprove G rows [] s = Unit {0}
AllImprove G rows (e ∷ es) s = Betters G rows e s × AllImprove G rows es (step rows e s)

-- what holds at the first cut and after each entry of a list: a kept rung, and a table that is good on its row
pub record GoodAt (G : Graph) (k bound : ℕ) (rows : ℕ → List ℕ) (top : ℕ) (s : State) : Type 0 where
  pub kept : s.rung ≤ top
  pub table : Good G k bound (rows s.rung) s.parts
