-- What the reading call answers, exactly: each answer of `reading_of`, in the words of document 01.
use Prim.Native.Nat.{ℕ, ◌+◌, ◌≤◌, ◌<◌}
use mathlib.Core.Path.{◌≡◌, refl, sym, ap, ◌∙◌}
use mathlib.Core.Bool.{true}
use mathlib.Core.Logic.{⊎_elim, ◌⊎◌, inl, inr, ◌↔◌}
use mathlib.Core.List.{List}
use native.Mathlib.Omega.{arith}
use lib.Dec.{ltb}
use lib.ListN.{length}
use borrow.Author.Tests.{lt-ltb, le-ltb, ltb-true, ltb-false}
use Rattle.folds.specs.Fold.{over}
use Rattle.folds.proofs.Cases.{by}
use Rattle.line_forms.specs.Lines.{lines_of}
use Rattle.line_forms.specs.Stand.{FirstBad, AllStand}
use Rattle.validity.specs.Cause.{number_of}
use Rattle.validity.specs.declared.Cause.{Cause}
use Rattle.validity.specs.declared.Cause.TheVariants.{Room, Length, Line, Lines}
use Rattle.kit_lines.proofs.Says.{refused_accepted, same_refusal}
use Rattle.kit_lines.specs.Kit.{Kit, Says, accepted, refused, kit_lines, kit_of}
use Rattle.kit_lines.specs.Grammar.{kit_text, InRanges, stands, Miscounted}
use Rattle.kit_text.specs.Reading.{Lists, lists, roomed, reading_of, written, ListsRoom}
use Rattle.kit_lines.proofs.Accepted.{accepted_own, accepted_sound}
use Rattle.kit_lines.proofs.Refused.{lines_fifteen, lines_sixteen, lines_causes}

-- ---------------------------------------------------------------- check 4
roomed_yes : (old : Lists) (k : Kit) → ListsRoom old k → roomed old (accepted k) ≡ accepted k
unfolding roomed
roomed_yes old k r = rw (le-ltb _ _ r.costs, le-ltb _ _ r.starts, le-ltb _ _ r.ends, le-ltb _ _ r.widths)

shorter : (a b : ℕ) → ltb a b ≡ true → b ≤ a → ⊥
shorter a b e h = omega (arith, ltb-true a b e)

-- it is passed, or refuses
roomed_or : (old : Lists) (k : Kit) → ListsRoom old k ⊎ ((roomed old (accepted k) ≡ refused Room 0) × (ListsRoom old k → ⊥))
unfolding roomed
roomed_or old k =
    by (ltb (length old.costs) (length k.costs)) (λ e. inr (rw e, λ r. shorter _ _ e r.costs))
    (λ a. by (ltb (length old.starts) (length k.starts)) (λ e. inr (rw (a, e), λ r. shorter _ _ e r.starts))
    (λ b. by (ltb (length old.ends) (length k.ends)) (λ e. inr (rw (a, b, e), λ r. shorter _ _ e r.ends))
    (λ c. by (ltb (length old.widths) (length k.widths)) (λ e. inr (rw (a, b, c, e), λ r. shorter _ _ e r.widths))
    (λ d. inl (record { costs = ltb-false _ _ a; starts = ltb-false _ _ b; ends = ltb-false _ _ c; widths = ltb-false _ _ d })))))

-- ---------------------------------------------------------------- check 14
data Long (t : List ℕ) : Type 0 where
  long : 65536 < length t → kit_of t ≡ refused Length 0 → Long t
  short : length t ≤ 65536 → kit_of t ≡ kit_lines (lines_of t) → Long t

long_or : (t : List ℕ) → Long t
unfolding kit_of
long_or t = by (ltb 65536 (length t)) (λ e. long (ltb-true 65536 (length t) e) (rw e)) (λ e. short (ltb-false 65536 (length t) e) (rw e))

-- a refusal of the lines
of_lines : (t : List ℕ) (c : Cause) (p : ℕ) → (c ≡ Length → ⊥) → (kit_of t ≡ refused c p) ↔ ((length t ≤ 65536) × (kit_lines (lines_of t) ≡ refused c p))
of_lines t c p h = (there (long_or t), λ x. back x.0 x.1 (long_or t))
  where
    there : Long t → kit_of t ≡ refused c p → (length t ≤ 65536) × (kit_lines (lines_of t) ≡ refused c p)
    there (long g q) e = absurd (h (sym (same_refusal Length c 0 p (sym q ∙ e)).0))
    there (short g q) e = (g, sym q ∙ e)

    back : length t ≤ 65536 → kit_lines (lines_of t) ≡ refused c p → Long t → kit_of t ≡ refused c p
    back g e (long l q) = absurd (omega arith)
    back g e (short l q) = q ∙ e

-- ---------------------------------------------------------------- each answer
-- accepted exactly if the text is that of a kit within the ranges, and the lists are long enough
pub accepted_exactly : (t : List ℕ) (old : Lists) (k : Kit) → (reading_of t old ≡ accepted k) ↔ ((t ≡ kit_text k) × InRanges k × ListsRoom old k)
unfolding reading_of roomed
accepted_exactly t old k = (λ e. there (kit_of t) refl e, λ x. rw (x.0, accepted_own k x.1) (roomed_yes old k x.2))
  where
    fine : (j : Kit) → kit_of t ≡ accepted j → roomed old (accepted j) ≡ accepted k → ListsRoom old j ⊎ ((roomed old (accepted j) ≡ refused Room 0) × (ListsRoom old j → ⊥)) → (t ≡ kit_text k) × InRanges k × ListsRoom old k
    fine j q e (inr x) = absurd (refused_accepted Room 0 k (sym x.0 ∙ e))
    fine j q e (inl r) =
        let z : j ≡ k = same_kit (sym (roomed_yes old j r) ∙ e) in
        let s = accepted_sound t k (q ∙ ap accepted z) in
        (s.0, s.1, rw z at r)
      where
        same_kit : accepted j ≡ accepted k → j ≡ k
        same_kit h = cc

    there : (a : Says) → kit_of t ≡ a → roomed old a ≡ accepted k → (t ≡ kit_text k) × InRanges k × ListsRoom old k
    there (refused c p) q e = absurd (refused_accepted c p k e)
    there (accepted j) q e = fine j q e (roomed_or old j)

not_fourteen : (ls : List (List ℕ)) (p : ℕ) → kit_lines ls ≡ refused Length p → ⊥
not_fourteen ls p e = ⊎_elim (λ z. omega (arith, ap number_of z)) (λ z. omega (arith, ap number_of z)) (lines_causes ls Length p e)

never_four : (t : List ℕ) (c : Cause) (p : ℕ) → kit_of t ≡ refused c p → c ≡ Room → ⊥
never_four t c p e z = go (long_or t)
  where
    go : Long t → ⊥
    go (long h q) = omega (arith, ap number_of ((same_refusal Length c 0 p (sym q ∙ e)).0 ∙ z))
    go (short h q) = ⊎_elim (λ y. omega (arith, ap number_of (sym y ∙ z))) (λ y. omega (arith, ap number_of (sym y ∙ z))) (lines_causes (lines_of t) c p (sym q ∙ e))

-- the round trip: reading the text of a kit gives its lists back
pub round_trip : (k : Kit) (old : Lists) → InRanges k → ListsRoom old k
    → (reading_of (kit_text k) old ≡ accepted k)
    × (written (reading_of (kit_text k) old) old ≡ lists (over k.costs old.costs) (over k.starts old.starts) (over k.ends old.ends) (over k.widths old.widths))
unfolding written
round_trip k old w r = let e = (accepted_exactly (kit_text k) old k).1 (refl, w, r) in (e, rw e)

-- 4, place 0, exactly if the text is that of a kit and some list is too short for it
pub four_exactly : (t : List ℕ) (old : Lists) (p : ℕ) → (reading_of t old ≡ refused Room p) ↔ ((p ≡ 0) × ((k : Kit) × (t ≡ kit_text k) × InRanges k × (ListsRoom old k → ⊥)))
unfolding reading_of roomed
four_exactly t old p = (λ e. there (kit_of t) refl e, λ x. back x.0 x.1.0 x.1.1 x.1.2 x.1.3 (roomed_or old x.1.0))
  where
    fine : (k : Kit) → kit_of t ≡ accepted k → roomed old (accepted k) ≡ refused Room p → ListsRoom old k ⊎ ((roomed old (accepted k) ≡ refused Room 0) × (ListsRoom old k → ⊥)) → (p ≡ 0) × ((k : Kit) × (t ≡ kit_text k) × InRanges k × (ListsRoom old k → ⊥))
    fine k q e (inl r) = absurd (refused_accepted Room p k (sym e ∙ roomed_yes old k r))
    fine k q e (inr x) = let s = accepted_sound t k q in (sym (same_refusal Room Room 0 p (sym x.0 ∙ e)).1, (k, s.0, s.1, x.1))

    there : (a : Says) → kit_of t ≡ a → roomed old a ≡ refused Room p → (p ≡ 0) × ((k : Kit) × (t ≡ kit_text k) × InRanges k × (ListsRoom old k → ⊥))
    there (accepted k) q e = fine k q e (roomed_or old k)
    there (refused c m) q e = absurd (never_four t c m q (same_refusal c Room m p e).0)

    back : p ≡ 0 → (k : Kit) → t ≡ kit_text k → InRanges k → (ListsRoom old k → ⊥) → ListsRoom old k ⊎ ((roomed old (accepted k) ≡ refused Room 0) × (ListsRoom old k → ⊥)) → roomed old (kit_of t) ≡ refused Room p
    back z k q w h (inl r) = absurd (h r)
    back z k q w h (inr x) = rw (q, accepted_own k w, z) x.0

-- the other refusals are those of the text alone
pub other_exactly : (t : List ℕ) (old : Lists) (c : Cause) (p : ℕ) → (c ≡ Room → ⊥) → (reading_of t old ≡ refused c p) ↔ (kit_of t ≡ refused c p)
unfolding reading_of roomed
other_exactly t old c p h = (λ e. there (kit_of t) refl e, λ e. rw e)
  where
    fine : (k : Kit) → roomed old (accepted k) ≡ refused c p → ListsRoom old k ⊎ ((roomed old (accepted k) ≡ refused Room 0) × (ListsRoom old k → ⊥)) → ⊥
    fine k e (inl r) = refused_accepted c p k (sym e ∙ roomed_yes old k r)
    fine k e (inr x) = h (sym (same_refusal Room c 0 p (sym x.0 ∙ e)).0)

    there : (a : Says) → kit_of t ≡ a → roomed old a ≡ refused c p → kit_of t ≡ refused c p
    there (refused m q) z e = z ∙ e
    there (accepted k) z e = absurd (fine k e (roomed_or old k))

-- 14, place 0, exactly if the text is above 65,536 bytes
pub fourteen_exactly : (t : List ℕ) (old : Lists) (p : ℕ) → (reading_of t old ≡ refused Length p) ↔ ((p ≡ 0) × (65536 < length t))
unfolding kit_of
fourteen_exactly t old p = (λ e. there (long_or t) (o.0 e), λ x. o.1 (rw (lt-ltb 65536 (length t) x.1, x.0)))
  where
    o : (reading_of t old ≡ refused Length p) ↔ (kit_of t ≡ refused Length p)
    o = other_exactly t old Length p (λ z. omega (arith, ap number_of z))

    there : Long t → kit_of t ≡ refused Length p → (p ≡ 0) × (65536 < length t)
    there (long h q) e = (sym (same_refusal Length Length 0 p (sym q ∙ e)).1, h)
    there (short h q) e = absurd (not_fourteen (lines_of t) p (sym q ∙ e))

-- 15 at p exactly if line p, from 1, is the first that may not stand where it does
pub fifteen_exactly : (t : List ℕ) (old : Lists) (p : ℕ) → (reading_of t old ≡ refused Line p) ↔ ((length t ≤ 65536) × ((q : ℕ) × (p ≡ q + 1) × FirstBad (stands (lines_of t)) (length (lines_of t)) q))
fifteen_exactly t old p = let o = other_exactly t old Line p (λ z. omega (arith, ap number_of z)) in let l = of_lines t Line p (λ z. omega (arith, ap number_of z)) in
    (λ e. let x = l.0 (o.0 e) in (x.0, (lines_fifteen (lines_of t) p).0 x.1), λ x. o.1 (l.1 (x.0, (lines_fifteen (lines_of t) p).1 x.1)))

-- 16, place 0, exactly if every line may stand where it does and the kit line gives another number of block lines
pub sixteen_exactly : (t : List ℕ) (old : Lists) (p : ℕ) → (reading_of t old ≡ refused Lines p) ↔ ((length t ≤ 65536) × ((p ≡ 0) × AllStand (stands (lines_of t)) (length (lines_of t)) × Miscounted (lines_of t)))
sixteen_exactly t old p = let o = other_exactly t old Lines p (λ z. omega (arith, ap number_of z)) in let l = of_lines t Lines p (λ z. omega (arith, ap number_of z)) in
    (λ e. let x = l.0 (o.0 e) in (x.0, (lines_sixteen (lines_of t) p).0 x.1), λ x. o.1 (l.1 (x.0, (lines_sixteen (lines_of t) p).1 x.1)))
