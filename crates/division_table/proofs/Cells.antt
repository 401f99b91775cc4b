-- The recurrence in numbers: the table holds the cuts, and the starts that these lead to are those of the division.
use Prim.Native.Nat.{ℕ, zero, suc, ◌+◌, ◌*◌, ◌≤◌, ◌<◌, min}
use mathlib.Core.Path.{◌≡◌, refl, ap, ap₂, sym, ◌∙◌}
use mathlib.Core.Bool.{Bool, true, false, ◌&&◌}
use mathlib.Core.List.{List, [], ◌∷◌}
use native.Mathlib.Numerals.{add-one}
use native.Mathlib.Omega.{arith}
use lib.Dec.{ltb}
use lib.ListN.{length, get_or}
use borrow.Author.Tests.{ltb-true, ltb-false, lt-ltb, eq-eqb, ne_eqb}
use Rattle.folds.specs.Fold.{pick, first_to, most_width}
use Rattle.folds.proofs.Cases.{by, both}
use Rattle.folds.proofs.Searches.{first_to_found, first_to_all}
use Rattle.division_table.specs.Division.{Pick, none, some, better, given}
use Rattle.division_table.specs.Promises.{best_below, ahead, best, no_cut, cut_in, lowest, LeastFrom, leads, next_by, starts_by}
use Rattle.division_table.specs.Fewest.{Before}
use Rattle.division_table.proofs.Picks.{best_first}
use Rattle.division_table.proofs.Best.{outs}
use Rattle.division_table.proofs.Wins.{ahead_some, best_holds}

-- an interval passes the test if one around it does
abbrev pub Monotone : (ℕ → ℕ → Bool) → Type 0
Monotone ok = (y z x w : ℕ) → y ≤ z → x ≤ w → ok y w ≡ true → ok z x ≡ true

cut_better : (p q : Pick (List ℕ)) → cut_in p ≤ no_cut → cut_in q ≤ no_cut → min (cut_in p) (cut_in q) ≡ cut_in (better p q)
cut_better none q a b = omega arith
cut_better (some c l) none a b = omega arith
cut_better (some c l) (some d m) a b = by (ltb d c) (λ t. rw t (omega (arith, ltb-true d c t))) (λ t. rw t (omega (arith, ltb-false d c t)))

cut_ahead : (t : Bool) (x w : ℕ) (p : Pick (List ℕ)) → cut_in (ahead x w p) ≤ no_cut → (cut_in (given t (ahead x w p)) ≤ no_cut) × (min no_cut (pick t (w + cut_in p) no_cut) ≡ cut_in (given t (ahead x w p)))
cut_ahead false x w p h = (omega arith, omega arith)
cut_ahead true x w none h = (omega arith, omega arith)
cut_ahead true x w (some c l) h = (omega arith, omega arith)

-- the least cut of a family
below_lowest : (n : ℕ) (f : ℕ → Pick (List ℕ)) (h : ℕ → ℕ) → ((x : ℕ) → x < n → (cut_in (f x) ≤ no_cut) × (min no_cut (h x) ≡ cut_in (f x)))
    → (cut_in (best_below n f) ≤ no_cut) × (lowest n h ≡ cut_in (best_below n f))
unfolding best_below lowest
below_lowest zero f h e = (omega arith, refl)
below_lowest (suc n) f h e =
    let (i, q) = below_lowest n f h (λ x l. e x (omega arith)) in
    let (a, b) = e n (omega arith) in
    let s = cut_better (best_below n f) (f n) i a in
    (omega arith, omega arith)

outs_small : (out : ℕ → ℕ → ℕ) (b : ℕ) → ((y x : ℕ) → out y x ≤ b) → (y : ℕ) (d : List ℕ) → outs out y d ≤ length d * b
unfolding outs
outs_small out b h y [] = omega arith
outs_small out b h y (x ∷ d) = omega (arith, h y x, outs_small out b h x d)

module _ (g : ℕ) (ok : ℕ → ℕ → Bool) (out : ℕ → ℕ → ℕ) (narrow : (y x : ℕ) → out y x ≤ most_width) where
  best_small : (j y c : ℕ) (l : List ℕ) → best g ok out j y ≡ some c l → c ≤ j * most_width
  best_small j y c l e =
      let (i, o) = best_holds g ok out j y c l e in
      let q = outs_small out most_width narrow y l in
      rw (o, i.1) at q

  -- none, or a cut that is below it by all that may leave one interval
  best_room : (j y x : ℕ) → j < 16 → cut_in (ahead x (out y x) (best g ok out j x)) ≤ no_cut
  best_room j y x h = go (best g ok out j x) refl
    where
      go : (p : Pick (List ℕ)) → best g ok out j x ≡ p → cut_in (ahead x (out y x) p) ≤ no_cut
      go none q = omega arith
      go (some c l) q = omega (arith, best_small j x c l q, narrow y x)

  pub cut_next : (j y : ℕ) → j < 16 → lowest g (λ x. pick (ltb y x && ok y x) (out y x + cut_in (best g ok out j x)) no_cut) ≡ cut_in (best g ok out (suc j) y)
  unfolding best
  cut_next j y h = (below_lowest g _ _ (λ x l. cut_ahead (ltb y x && ok y x) x (out y x) (best g ok out j x) (best_room j y x h))).1

  best_stop : (y c : ℕ) (l : List ℕ) → best g ok out 0 y ≡ some c l → [] ≡ l
  unfolding best
  best_stop y c l e = by (ltb y g && ok y g) (λ t. cc) (λ t. cc)

  -- reading the table
  module _ (mono : Monotone ok) (cuts : List ℕ) (n : ℕ) (few : n ≤ 16) (before : List ℕ) (B : Before g ok before) (D : LeastFrom n g ok out before 0 cuts) where
    -- the next start, to which an interval leads, and that those before it cut more
    best_next : (j y c : ℕ) (l : List ℕ) → best g ok out (suc j) y ≡ some c l
        → (x : ℕ) × (x < g) × (d : ℕ) × (m : List ℕ) × (y < x) × (ok y x ≡ true) × (best g ok out j x ≡ some d m) × (l ≡ x ∷ m) × (c ≡ out y x + d)
        × ((z : ℕ) → y < z → z < x → j < 16 → c < out y z + cut_in (best g ok out j z))
    unfolding best
    best_next j y c l e =
        let (x, lx, r, before) = best_first g _ c l e in
        let (d, m, t, b, q, s) = ahead_some (ltb y x && ok y x) x (out y x) (best g ok out j x) c l r in
        let (u, o) = both (ltb y x) (ok y x) t in
        (x, lx, d, m, ltb-true y x u, o, b, q, s, λ z h k lj. above z (best g ok out j z) refl lj (λ i f p. before z i f k (rw (lt-ltb y z h, mono y y z x (omega arith) (omega arith) o) p)))
      where
        above : (z : ℕ) (p : Pick (List ℕ)) → best g ok out j z ≡ p → j < 16 → ((i : ℕ) (f : List ℕ) → ahead z (out y z) (best g ok out j z) ≡ some i f → c < i) → c < out y z + cut_in (best g ok out j z)
        above z none q h k = omega (arith, ap cut_in q, best_small (suc j) y c l e)
        above z (some a f) q h k = omega (arith, ap cut_in q, k (out y z + a) (z ∷ f) (ap (ahead z (out y z)) q))

    next_is : (j y c : ℕ) (l : List ℕ) → get_or before y 0 + suc j ≤ n → y < g → best g ok out (suc j) y ≡ some c l
        → (d : ℕ) × (m : List ℕ) × (next_by g out cuts j y < g) × (get_or before (next_by g out cuts j y) 0 + j ≤ n) × (best g ok out j (next_by g out cuts j y) ≡ some d m) × (l ≡ next_by g out cuts j y ∷ m)
    unfolding next_by
    next_is j y c l h ly e =
        let (x, lx, d, m, u, o, b, q, s, first) = best_next j y c l e in
        let near : (z : ℕ) → y ≤ z → z ≤ x → get_or before z 0 + j ≤ n = λ z k i. omega (arith, B.step y z k (omega arith) (mono y y z x (omega arith) i o)) in
        let goal : get_or cuts (y * 17 + (j + 1)) 0 ≡ c = D.done y (j + 1) (omega arith) ly (omega arith) ∙ ap cut_in (ap (λ (i : ℕ). best g ok out i y) (add-one j) ∙ e) in
        let hit : out y x + get_or cuts (x * 17 + j) 0 ≡ get_or cuts (y * 17 + (j + 1)) 0 = omega (arith, goal, D.done x j (omega arith) lx (near x (omega arith) (omega arith)), ap cut_in b, s) in
        let here : leads out cuts j y x ≡ true = rw (lt-ltb y x u) (eq-eqb _ _ hit) in
        let skip : first_to x (leads out cuts j y) ≡ x = first_to_all x _ (λ z k.
        by (ltb y z)
        (λ t.
        let i = ltb-true y z t in
        rw t (ne_eqb _ _ (miss z (first z i k (omega arith)) goal (D.done z j (omega arith) (omega arith) (near z (omega arith) (omega arith))))))
        (λ t. rw t)) in
        let is : next_by g out cuts j y ≡ x = first_to_found g x _ skip here lx in
        (d, m, rw is lx, rw is (near x (omega arith) (omega arith)), rw is b, rw is q)
      where
        miss : (z : ℕ) → c < out y z + cut_in (best g ok out j z) → get_or cuts (y * 17 + (j + 1)) 0 ≡ c → get_or cuts (z * 17 + j) 0 ≡ cut_in (best g ok out j z)
            → out y z + get_or cuts (z * 17 + j) 0 ≡ get_or cuts (y * 17 + (j + 1)) 0 → ⊥
        miss z a b e i = omega arith

    starts_is : (j y c : ℕ) (l : List ℕ) → get_or before y 0 + j ≤ n → y < g → best g ok out j y ≡ some c l → starts_by g out cuts j y ≡ l
    unfolding starts_by
    starts_is zero y c l h ly e = best_stop y c l e
    starts_is (suc j) y c l h ly e =
        let (d, m, lx, k, b, q) = next_is j y c l h ly e in
        ap (λ l. next_by g out cuts j y ∷ l) (starts_is j (next_by g out cuts j y) d m k lx b) ∙ sym q

    -- a cell with a cut: the least division has it, and its starts follow; a cell with none: there is no division
    pub read_some : (j y : ℕ) → get_or before y 0 + j ≤ n → y < g → get_or cuts (y * 17 + j) 0 < no_cut → best g ok out j y ≡ some (get_or cuts (y * 17 + j) 0) (starts_by g out cuts j y)
    read_some j y h ly lt = go (best g ok out j y) refl
      where
        go : (p : Pick (List ℕ)) → best g ok out j y ≡ p → best g ok out j y ≡ some (get_or cuts (y * 17 + j) 0) (starts_by g out cuts j y)
        go none q = absurd (omega (arith, D.done y j (omega arith) ly h, ap cut_in q))
        go (some c l) q = q ∙ ap₂ some (sym (D.done y j (omega arith) ly h ∙ ap cut_in q)) (sym (starts_is j y c l h ly q))

    pub read_none : (j y : ℕ) → get_or before y 0 + j ≤ n → y < g → no_cut ≤ get_or cuts (y * 17 + j) 0 → best g ok out j y ≡ none
    read_none j y h ly le = go (best g ok out j y) refl
      where
        go : (p : Pick (List ℕ)) → best g ok out j y ≡ p → best g ok out j y ≡ none
        go none q = q
        go (some c l) q = absurd (omega (arith, D.done y j (omega arith) ly h, ap cut_in q, best_small j y c l q))
