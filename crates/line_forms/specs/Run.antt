-- Lines that a reader takes one after another.
use Rattle.std.specs.Prelude.{Option, Some, None, ℕ, ◌^◌, ◌<◌, ◌≡◌, List, ◌∷◌, ◌≤◌, get_or, length, drop}
use Rattle.std.proofs.Math.Option.{some, none}
use Rattle.std.proofs.Math.Option as math
use Rattle.line_forms.specs.Lines.{lines_of, leading, column, Ran}
use Rattle.folds.specs.Fold.{over}
use Rattle.line_forms.specs.Read.{Got, got, nope}
use Rattle.line_forms.specs.declared.Run as lent

-- what a reader at a place finds is the line there: `say` makes of the line with its number what `read` finds
pub record Reads (say : ℕ → List ℕ → math.Option (List ℕ)) (read : ℕ → ℕ → Got) (t : List ℕ) : Type 0 where
  pub found : (n i : ℕ) (vs : List ℕ) (j : ℕ) → read n i ≡ got vs j → (l : List ℕ) × (lines_of (drop i t) ≡ l ∷ lines_of (drop j t)) × (say n l ≡ some vs)
  pub missed : (n i : ℕ) → read n i ≡ nope → (l : List ℕ) (ls : List (List ℕ)) → lines_of (drop i t) ≡ l ∷ ls → say n l ≡ none

-- the place past a line that was read
abbrev pub place_of : Got → Option ℕ
place_of (Some (vs, j)) = Some j
place_of None = None

-- what a function answers of a line's number and place is the place past what a reader finds there
abbrev pub Passes : (ℕ → ℕ → Option ℕ → Type 0) → (ℕ → ℕ → Got) → Type 0
Passes post read = (n i : ℕ) (r : Option ℕ) → n < 2 ^ 64 → post n i r → r ≡ place_of (read n i)

-- the lines that a function passes from a place on, one after another, at most so many: whatever reader it follows
abbrev pub IsRun : (ℕ → ℕ → Option ℕ → Type 0) → ℕ → ℕ → lent.Run → Type 0
IsRun post at most run =
    (say : ℕ → List ℕ → math.Option (List ℕ)) (read : ℕ → ℕ → Got) (t : List ℕ) → Reads say read t → Passes post read → Ran say t most at run.count run.next

-- a column's entry of a line that was read, and the place past the line
abbrev pub entry_of : ℕ → Got → Option (ℕ × ℕ)
entry_of c (Some (vs, j)) = Some (get_or vs c 0, j)
entry_of c None = None

-- what a function answers of a line's number and place is the entry of what a reader finds there
abbrev pub Tells : (ℕ → ℕ → Option (ℕ × ℕ) → Type 0) → ℕ → (ℕ → ℕ → Got) → Type 0
Tells post c read = (n i : ℕ) (r : Option (ℕ × ℕ)) → n < 2 ^ 64 → post n i r → r ≡ entry_of c (read n i)

-- the entries of the lines that a function tells from a place on, at most so many, over the front of a list that is long enough
abbrev pub AreEntries : (ℕ → ℕ → Option (ℕ × ℕ) → Type 0) → ℕ → ℕ → List ℕ → List ℕ → Type 0
AreEntries post at most old new =
    (say : ℕ → List ℕ → math.Option (List ℕ)) (read : ℕ → ℕ → Got) (t : List ℕ) (c : ℕ) → Reads say read t → Tells post c read
    → length (leading say 0 most (lines_of (drop at t))) ≤ length old → new ≡ over (column c (leading say 0 most (lines_of (drop at t)))) old
