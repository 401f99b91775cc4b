-- What stands in the cells.
use Rattle.std.proofs.Common.{◌≡◌, ℕ, suc, zero, List, [], ◌∷◌, ◌++◌, ◌<◌, length, drop, replicate, set, refl, ap, arith}
use Rattle.std.specs.Prelude.{Result, Ok, Err}
use Rattle.folds.specs.Fold.{over}
use Rattle.std.specs.Result.{result_map_both, MatchResult, IsOkAnd}
use Rattle.validity.specs.Cause.{Verdict, answered, refusal}
use Rattle.validity.specs.Drawn.{answer_of}
use Rattle.validity.specs.declared.Checked.{Checked}
use Rattle.validity.specs.declared.Refusal.{Refusal}
use Rattle.validity.specs.declared.Cause.{Cause}
use Rattle.hatchraisin.specs.Told.{cells, answer_in}

all_gone : (n x : ℕ) → drop {A = ℕ} n (replicate n x) ≡ []
all_gone zero x = refl
all_gone (suc n) x = all_gone n x

append_none : (l : List ℕ) → l ≡ l ++ []
append_none [] = refl
append_none (x ∷ l) = ap (λ (s : List ℕ). x ∷ s) (append_none l)

-- as many values as there are cells
pub cells_full : (n : ℕ) (values : List ℕ) → length values ≡ n → values ≡ cells n (answered values)
unfolding cells over
cells_full n values e = rw (e, all_gone) (append_none values)

-- a place, and 0 in the cells past it
pub cells_place : (n : ℕ) (cause : Cause) (place : ℕ) → 0 < n → set (replicate n 0) 0 place ≡ cells n (refusal cause place)
unfolding cells over
cells_place zero cause place l = absurd (omega arith)
cells_place (suc n) cause place l = refl

-- what `map` makes of an answer, by what its closure computes
pub mapped : {A B E : Type 0} (f : A → B) (Says : A → B → Type 0) (v : Result A E) (r : Result B E) → MatchResult v (λ x. IsOkAnd r (Says x)) (λ e. r ≡ Err e)
    → ((x : A) (y : B) → Says x y → y ≡ f x) → r ≡ result_map_both f (λ e. e) v
mapped f Says (Ok x) (Ok y) h k = ap Ok (k x y h)
mapped f Says (Ok x) (Err e) h k = absurd h
mapped f Says (Err e) r h k = h
