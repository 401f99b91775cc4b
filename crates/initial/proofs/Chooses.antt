-- The loop over the rows, from the highest down.
use Prim.Native.Nat.{ℕ, suc, ◌+◌, ◌-◌, ◌<◌}
use mathlib.Core.Path.{◌≡◌, refl, ap, sym, ◌∙◌}
use mathlib.Core.List.{List}
use native.Mathlib.Numerals.{add-one}
use native.Mathlib.Omega.{arith}
use Rattle.folds.specs.Fold.{over}
use Rattle.graph.specs.Graph.{Graph}
use Rattle.graph.specs.Coarse.{LinkedAt}
use Rattle.division_table.specs.Division.{Pick, none, some}
use Rattle.initial.specs.Initial.{Chosen, found, uncut, or_lower, highest, initial_of, chosen_of}
use Rattle.initial.specs.Promises.{found_of, table_with, DividedAs, initial_as, chosen_after, Chooses, LinkedThere}
use Rattle.initial.specs.declared.FirstCut.{FirstCut}
use Rattle.std.specs.Prelude.{Option, Some, None}

-- what one row answers
pub answers_cut : {p : Pick (List ℕ)} {old new : List ℕ} {r : Option ℕ} {c : ℕ} → DividedAs p old new r → r ≡ Some c → (t : List ℕ) × (p ≡ some c t) × (new ≡ over t old)
answers_cut {p} {old} {new} {r} {c} A e = go p A.is A.table
  where
    go : (p : Pick (List ℕ)) → r ≡ found_of p → new ≡ table_with p old → (t : List ℕ) × (p ≡ some c t) × (new ≡ over t old)
    go none q h = let z : ◌≡◌ {A = ℕ} 0 1 = cc in absurd (omega arith)
    go (some d t) q h = (t, cc, h)

pub answers_nothing : {p : Pick (List ℕ)} {old new : List ℕ} {r : Option ℕ} → DividedAs p old new r → r ≡ None → (p ≡ none) × (new ≡ old)
answers_nothing {p} {old} {new} {r} A e = go p A.is A.table
  where
    go : (p : Pick (List ℕ)) → r ≡ found_of p → new ≡ table_with p old → (p ≡ none) × (new ≡ old)
    go none q h = (refl, h)
    go (some d t) q h = let z : ◌≡◌ {A = ℕ} 0 1 = cc in absurd (omega arith)

-- what an answer of `choose` holds
abbrev row_in_cut : Option FirstCut → ℕ
row_in_cut None = 0
row_in_cut (Some x) = x.row

abbrev cut_in_cut : Option FirstCut → ℕ
cut_in_cut None = 0
cut_in_cut (Some x) = x.cut

-- row r is next
module _ (f : ℕ → Pick (List ℕ)) (r : ℕ) (l : 0 < r) where
  next_row : highest f r ≡ or_lower (r - 1) (f (r - 1)) (highest f (r - 1))
  unfolding highest
  next_row = let q : r ≡ suc (r - 1) = omega arith in ap (highest f) q

  pub row_hit : {x : Chosen} {old old' new : List ℕ} {a : Option ℕ} {c : ℕ} → x ≡ highest f r → old' ≡ old → DividedAs (f (r - 1)) old' new a → a ≡ Some c → Chooses x old new (Some (record { row = r - 1; cut = c }))
  row_hit {x} {old} {old'} {new} {a} {c} e o A h =
      let (t, q, w) = answers_cut A h in
      let z : x ≡ found (r - 1) t c = e ∙ next_row ∙ ap (λ p. or_lower (r - 1) p (highest f (r - 1))) q in
      rw z (record { is = refl; table = w ∙ ap (over t) o })

  pub row_miss : {x : Chosen} {old old' new : List ℕ} {a : Option ℕ} → x ≡ highest f r → old' ≡ old → DividedAs (f (r - 1)) old' new a → a ≡ None → (new ≡ old) × (x ≡ highest f (r - 1))
  row_miss {x} {old} {old'} {new} {a} e o A h =
      let (q, w) = answers_nothing A h in (w ∙ o, e ∙ next_row ∙ ap (λ p. or_lower (r - 1) p (highest f (r - 1))) q)

pub rows_start : (G : Graph) (k bound : ℕ) (rows : ℕ → List ℕ) (top : ℕ) → chosen_of G k bound rows top ≡ highest (λ r. initial_of G k bound (rows r)) (top + 1)
unfolding chosen_of
rows_start G k bound rows top = rw add-one

pub rows_end : (f : ℕ → Pick (List ℕ)) (r : ℕ) {x : Chosen} {old new : List ℕ} → r ≡ 0 → x ≡ highest f r → new ≡ old → Chooses x old new None
unfolding highest
rows_end f r {x} z e o = let q : x ≡ uncut = e ∙ ap (highest f) z in rw q (record { is = refl; table = o })

-- the links where the loop ends
pub linked_at : {m r c : ℕ} {froms tos sizes head next : List ℕ} → LinkedAt m r froms tos sizes head next → LinkedThere m froms tos sizes head next (Some (record { row = r; cut = c }))
linked_at {r = r} K = record { there = λ f e. let i : r ≡ f.row = ap row_in_cut e in rw (← i) K }

-- for a caller: what an answer of `choose` says
pub chooses_at : {x : Chosen} {old new : List ℕ} {a : Option FirstCut} {f : FirstCut} → Chooses x old new a → a ≡ Some f → (t : List ℕ) × (x ≡ found f.row t f.cut) × (new ≡ over t old)
chooses_at {x} {old} {new} {a} {f} C e = go x C.is C.table
  where
    go : (x : Chosen) → a ≡ initial_as x → new ≡ chosen_after x old → (t : List ℕ) × (x ≡ found f.row t f.cut) × (new ≡ over t old)
    go uncut q h = let z : ◌≡◌ {A = ℕ} 0 1 = cc in absurd (omega arith)
    go (found s t d) q h = let i : f.row ≡ s = ap row_in_cut (sym e ∙ q) in let k : f.cut ≡ d = ap cut_in_cut (sym e ∙ q) in (t, rw (i, k), h)

pub chooses_uncut : {x : Chosen} {old new : List ℕ} {a : Option FirstCut} → Chooses x old new a → a ≡ None → (x ≡ uncut) × (new ≡ old)
chooses_uncut {x} {old} {new} {a} C e = go x C.is C.table
  where
    go : (x : Chosen) → a ≡ initial_as x → new ≡ chosen_after x old → (x ≡ uncut) × (new ≡ old)
    go uncut q h = (refl, h)
    go (found s t d) q h = let z : ◌≡◌ {A = ℕ} 0 1 = cc in absurd (omega arith)
