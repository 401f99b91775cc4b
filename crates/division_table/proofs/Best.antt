-- The suffix recurrence gives what the enumeration gives.
use Prim.Native.Nat.{ℕ, zero, suc, ◌+◌, ◌≤◌}
use mathlib.Core.Path.{◌≡◌, refl, ap, ap₂, sym, ◌∙◌}
use mathlib.Core.Bool.{Bool, true, false}
use mathlib.Core.List.{List, [], ◌∷◌, ◌++◌, map}
use native.Mathlib.Omega.{arith}
use lib.Dec.{ltb}
use borrow.Author.Tests.{ltb-true, ltb-false, lt-ltb, le-ltb}
use Rattle.folds.proofs.Cases.{by}
use Rattle.division_table.specs.Division.{Rising, fits, joined, gate, starts_from, divisions, Pick, none, some, better, given, least}
use Rattle.division_table.specs.Promises.{best_below, ahead, best}
use Rattle.division_table.proofs.Picks.{better_assoc, given-better, given_none, given_and, best_ext}

-- what leaves the intervals from y on, where `out` says what leaves one
unfoldable pub outs : (ℕ → ℕ → ℕ) → ℕ → List ℕ → ℕ
outs out y [] = 0
outs out y (x ∷ d) = out y x + outs out x d

-- P holds of each member
abbrev pub Every : (List ℕ → Type 0) → List (List ℕ) → Type 0
Every P [] = Unit {0}
Every P (d ∷ ds) = P d × Every P ds

every_append : (P : List ℕ → Type 0) (a b : List (List ℕ)) → Every P a → Every P b → Every P (a ++ b)
every_append P [] b p q = q
every_append P (d ∷ a) b p q = (p.0, every_append P a b p.1 q)

every_joined : (P : List ℕ → Type 0) (n : ℕ) (f : ℕ → List (List ℕ)) → ((x : ℕ) → Every P (f x)) → Every P (joined n f)
unfolding joined
every_joined P zero f h = tt
every_joined P (suc n) f h = every_append P (joined n f) (f n) (every_joined P n f h) (h n)

every_gate : (P : List ℕ → Type 0) (b : Bool) (l : List (List ℕ)) → (b ≡ true → Every P l) → Every P (gate b l)
every_gate P true l h = h refl
every_gate P false l h = tt

every_map : (P Q : List ℕ → Type 0) (x : ℕ) (l : List (List ℕ)) → ((d : List ℕ) → P d → Q (x ∷ d)) → Every P l → Every Q (map (λ d. x ∷ d) l)
every_map P Q x [] h p = tt
every_map P Q x (d ∷ l) h p = (h d p.0, every_map P Q x l h p.1)

-- the enumeration holds divisions alone
starts_rise : (g j y : ℕ) → Every (Rising g y) (starts_from g j y)
unfolding starts_from
starts_rise g zero y = every_gate (Rising g y) (ltb y g) ([] ∷ []) (λ t. (ltb-true y g t, tt))
starts_rise g (suc j) y =
    every_joined (Rising g y) g _ (λ x. every_gate (Rising g y) (ltb y x) _ (λ t.
    every_map (Rising g x) (Rising g y) x (starts_from g j x) (λ d r. (ltb-true y x t, r)) (starts_rise g j x)))

pub least_ext : (pass : List ℕ → Bool) (f h : List ℕ → ℕ) (P : List ℕ → Type 0) → ((d : List ℕ) → P d → f d ≡ h d) → (ds : List (List ℕ)) → Every P ds → least pass f ds ≡ least pass h ds
unfolding least
least_ext pass f h P e [] p = refl
least_ext pass f h P e (d ∷ ds) p = rw (e d p.0, least_ext pass f h P e ds p.1)

module _ (g : ℕ) (ok : ℕ → ℕ → Bool) (out : ℕ → ℕ → ℕ) where
  entry : ℕ → List ℕ → Pick (List ℕ)
  entry y d = given (fits g ok y d) (some (outs out y d) d)

  abbrev least_from : ℕ → List (List ℕ) → Pick (List ℕ)
  least_from y ds = least (fits g ok y) (outs out y) ds

  least_append : (y : ℕ) (a b : List (List ℕ)) → least_from y (a ++ b) ≡ better (least_from y a) (least_from y b)
  unfolding least entry
  least_append y [] b = refl
  least_append y (d ∷ a) b = ap (better (entry y d)) (least_append y a b) ∙ sym (better_assoc (entry y d) (least_from y a) (least_from y b))

  ltb_add : (w d c : ℕ) → ltb (w + d) (w + c) ≡ ltb d c
  ltb_add w d c =
      by (ltb d c) (λ e. lt-ltb (w + d) (w + c) (omega (arith, ltb-true d c e)) ∙ sym e) (λ e. le-ltb (w + d) (w + c) (omega (arith, ltb-false d c e)) ∙ sym e)

  ahead-better : (x w : ℕ) (p q : Pick (List ℕ)) → ahead x w (better p q) ≡ better (ahead x w p) (ahead x w q)
  ahead-better x w none q = refl
  ahead-better x w (some c l) none = refl
  ahead-better x w (some c l) (some d m) = by (ltb d c) (λ e. cc (ltb_add w d c)) (λ e. cc (ltb_add w d c))

  entry_cons : (y x : ℕ) (d : List ℕ) → entry y (x ∷ d) ≡ given (ok y x) (ahead x (out y x) (entry x d))
  unfolding entry fits outs
  entry_cons y x d = by (ok y x) (λ e. by (fits g ok x d) (λ t. cc) (λ t. cc)) (λ e. cc)

  least_map : (y x : ℕ) (ds : List (List ℕ)) → least_from y (map (λ d. x ∷ d) ds) ≡ given (ok y x) (ahead x (out y x) (least_from x ds))
  unfolding least entry
  least_map y x [] = sym (given_none (ok y x))
  least_map y x (d ∷ ds) =
      ap₂ better (entry_cons y x d) (least_map y x ds)
      ∙ sym (given-better (ok y x) (ahead x (out y x) (entry x d)) (ahead x (out y x) (least_from x ds)))
      ∙ ap (given (ok y x)) (sym (ahead-better x (out y x) (entry x d) (least_from x ds)))

  least_gate : (b : Bool) (y : ℕ) (ds : List (List ℕ)) → least_from y (gate b ds) ≡ given b (least_from y ds)
  unfolding least
  least_gate true y ds = refl
  least_gate false y ds = refl

  least_joined : (y n : ℕ) (f : ℕ → List (List ℕ)) (h : ℕ → Pick (List ℕ)) → ((x : ℕ) → least_from y (f x) ≡ h x) → least_from y (joined n f) ≡ best_below n h
  unfolding least joined best_below
  least_joined y zero f h e = refl
  least_joined y (suc n) f h e = least_append y (joined n f) (f n) ∙ ap₂ better (least_joined y n f h e) (e n)

  pub best_is_least : (j y : ℕ) → best g ok out j y ≡ least_from y (starts_from g j y)
  unfolding best starts_from least fits outs
  best_is_least zero y = by (ltb y g) (λ t. by (ok y g) (λ e. cc) (λ e. cc)) (λ t. cc)
  best_is_least (suc j) y =
      sym (least_joined y g _ _ (λ x.
      least_gate (ltb y x) y (map (λ d. x ∷ d) (starts_from g j x))
      ∙ rw (least_map y x (starts_from g j x), given_and, best_is_least j x)))

  -- the wanted one of all divisions, with a cut that is what leaves the intervals
  pub least-best : (cut : List ℕ → ℕ) → ((d : List ℕ) → Rising g 0 d → cut d ≡ outs out 0 d) → (j : ℕ) → least (fits g ok 0) cut (divisions g (suc j)) ≡ best g ok out j 0
  unfolding divisions
  least-best cut e j = least_ext (fits g ok 0) cut (outs out 0) (Rising g 0) e (starts_from g j 0) (starts_rise g j 0) ∙ sym (best_is_least j 0)

-- tests that agree give the same
pub best_same : (g : ℕ) (ok ok' : ℕ → ℕ → Bool) (out : ℕ → ℕ → ℕ) → ((y x : ℕ) → y ≤ x → x ≤ g → ok y x ≡ ok' y x) → (j y : ℕ) → best g ok out j y ≡ best g ok' out j y
unfolding best
best_same g ok ok' out e zero y = by (ltb y g) (λ t. let h = ltb-true y g t in rw (t, e y g (omega arith) (omega arith))) (λ t. rw t)
best_same g ok ok' out e (suc j) y =
    best_ext g _ _ (λ x l. by (ltb y x) (λ t. let h = ltb-true y x t in rw (t, e y x (omega arith) (omega arith), best_same g ok ok' out e j x)) (λ t. rw t))
