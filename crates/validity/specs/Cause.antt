-- Document 01's table of refusals: a number for each cause.
use Rattle.std.specs.Prelude.{ℕ, Result, Ok, Err, List, [], ◌∷◌}
use Rattle.validity.specs.declared.Cause.{Cause}
use Rattle.validity.specs.declared.Cause.TheVariants.{Vertices, Parts, Edges, Room, Cost, Ends, Repeat, Cycle, Uncut, Entry, Empty, Over, PartCycle, Length, Line, Lines}
use Rattle.validity.specs.declared.Refusal.{Refusal}

abbrev pub number_of : Cause → ℕ
number_of Vertices = 1
number_of Parts = 2
number_of Edges = 3
number_of Room = 4
number_of Cost = 5
number_of Ends = 6
number_of Repeat = 7
number_of Cycle = 8
number_of Uncut = 9
number_of Entry = 10
number_of Empty = 11
number_of Over = 12
number_of PartCycle = 13
number_of Length = 14
number_of Line = 15
number_of Lines = 16

-- What a public call answers, in document 01's terms: number 0 and the values named there, or the refusal's number and its place.
pub record Answer : Type 0 where
  pub number : ℕ
  pub values : List ℕ

abbrev pub refusal : Cause → ℕ → Answer
refusal cause place = record { number = number_of cause; values = place ∷ [] }

abbrev pub answered : List ℕ → Answer
answered values = record { number = 0; values = values }

-- what comes of a call that says a value or refuses: `next` of the value, or what the refusal leaves
abbrev pub if_answered : {A B : Type 0} → Result A Refusal → (A → B) → (Cause → ℕ → B) → B
if_answered (Ok value) next left = next value
if_answered (Err r) next left = left r.cause r.place

-- a verdict, which says no more than that the checks passed
abbrev pub Verdict : Type 0
Verdict = Result (Unit {0}) Refusal

abbrev pub Passed : Verdict
Passed = Ok tt

abbrev pub Refused : Cause → ℕ → Verdict
Refused cause place = Err (record { cause = cause; place = place })

-- what comes of a verdict: `next` where it passed, else what the refusal leaves
abbrev pub if_passed : {A : Type 0} → Verdict → A → (Cause → ℕ → A) → A
if_passed v next left = if_answered v (λ _. next) left

abbrev pub told : Verdict → List ℕ → Answer
told v values = if_passed v (answered values) refusal
