-- Laws of a loop whose turn changes a state by a step.
use Prim.Native.Nat.{ℕ, zero, suc, ◌+◌, ◌≤◌, ◌<◌}
use mathlib.Core.Path.{◌≡◌, refl, ap, ◌∙◌}
use mathlib.Core.Logic.{⊎_elim}
use native.Mathlib.Nat.{eq-or-lt_of_le}
use native.Mathlib.Numerals.{add-one}
use native.Mathlib.Omega.{arith}
use Rattle.folds.specs.Fold.{turns}

pub turns_step : {S : Type 0} (i : ℕ) (f : ℕ → S → S) (s : S) → turns (i + 1) f s ≡ f i (turns i f s)
unfolding turns
turns_step i f s = rw add-one

-- the start, a turn, and the end
pub turns_zero : {S : Type 0} (f : ℕ → S → S) (s : S) → s ≡ turns 0 f s
unfolding turns
turns_zero f s = refl

pub turns_turn : {S : Type 0} {t u : S} {i : ℕ} (f : ℕ → S → S) (s : S) → t ≡ turns i f s → u ≡ f i t → u ≡ turns (i + 1) f s
turns_turn f s e h = rw turns_step (h ∙ ap (f _) e)

-- steps that change nothing do not count
pub turns_skip : {S : Type 0} (f : ℕ → S → S) (s : S) (j h : ℕ) → j ≤ h → ((i : ℕ) → j ≤ i → i < h → (t : S) → f i t ≡ t) → turns h f s ≡ turns j f s
unfolding turns
turns_skip f s j zero l z = let q : j ≡ 0 = omega arith in rw q
turns_skip f s j (suc h) l z =
    ⊎_elim (λ q. rw q) (λ q. z h (omega arith) (omega arith) _ ∙ turns_skip f s j h (omega arith) (λ i li gi. z i li (omega arith))) (eq-or-lt_of_le l)

-- what each turn keeps
pub turns_keep : {S : Type 0} (P : S → Type 0) (n : ℕ) (f : ℕ → S → S) (s : S) → P s → ((i : ℕ) (t : S) → i < n → P t → P (f i t)) → P (turns n f s)
unfolding turns
turns_keep P zero f s b h = b
turns_keep P (suc n) f s b h = h n (turns n f s) (omega arith) (turns_keep P n f s b (λ i t l. h i t (omega arith)))
