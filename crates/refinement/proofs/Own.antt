-- The passes' own moves are a list of allowed moves that gain or even out, and the passes end.
use Prim.Native.Nat.{ℕ, zero, suc, ◌+◌, ◌-◌, ◌≤◌, ◌<◌}
use mathlib.Core.Path.{◌≡◌, refl, sym, ap, ◌∙◌}
use mathlib.Core.Bool.{Bool, true, false}
use mathlib.Core.List.{List, [], ◌∷◌, ◌++◌}
use native.Mathlib.Nat.{not-suc-le-zero}
use native.Mathlib.Omega.{arith}
use lib.IntN.{pos}
use lib.Signed.{lt_z}
use borrow.Author.Tests.{eq-eqb, ne_eqb}
use Rattle.folds.specs.Fold.{pick, when, turns}
use Rattle.folds.proofs.Cases.{no_bool, either, eq_or_ne}
use Rattle.graph.specs.Graph.{Graph, cut_of, Proper}
use Rattle.graph.specs.Rows.{clusters}
use Rattle.refinement.specs.Move.{part_of, gain_to, Allowed, Improves}
use Rattle.refinement.specs.Entries.{State, state_of, Entry, move, down, step, after, AllAllowed, AllImprove, cut_at, gaining, downs, GoodAt}
use Rattle.refinement.specs.Pass.{target, Tally, tally_of, settled_at, visited, pass_of, measure, passes, repeated, refined_on, refined_below}
use Rattle.refinement.specs.Own.{visit_moves, turn_moves, pass_moves, repeated_moves, moves_on, moves_from, Took}
use Rattle.refinement.proofs.Entries.{Nested, good_step, cut_falls, move_falls, cut_total}
use Rattle.refinement.proofs.Visits.{target_improves}

-- one list after another
module _ (G : Graph) (k bound : ℕ) (rows : ℕ → List ℕ) where
  after_append : (a b : List Entry) (s : State) → after rows (a ++ b) s ≡ after rows b (after rows a s)
  after_append [] b s = refl
  after_append (e ∷ a) b s = after_append a b (step rows e s)

  allowed_append : (a b : List Entry) (s : State) → AllAllowed G k bound rows a s → AllAllowed G k bound rows b (after rows a s) → AllAllowed G k bound rows (a ++ b) s
  allowed_append [] b s p q = q
  allowed_append (e ∷ a) b s p q = (p.0, allowed_append a b (step rows e s) p.1 q)

  improve_append : (a b : List Entry) (s : State) → AllImprove G rows a s → AllImprove G rows b (after rows a s) → AllImprove G rows (a ++ b) s
  improve_append [] b s p q = q
  improve_append (e ∷ a) b s p q = (p.0, improve_append a b (step rows e s) p.1 q)

  gaining_append : (a b : List Entry) (s : State) → gaining G rows (a ++ b) s ≡ gaining G rows a s + gaining G rows b (after rows a s)
  gaining_append [] b s = omega arith
  gaining_append (e ∷ a) b s = omega (arith, gaining_append a b (step rows e s))

  downs_append : (a b : List Entry) → downs (a ++ b) ≡ downs a + downs b
  downs_append [] b = omega arith
  downs_append (move h t ∷ a) b = downs_append a b
  downs_append (down ∷ a) b = omega (arith, downs_append a b)

  took_none : (a : State) → Took G k bound rows [] a a 0 0
  took_none a = record { allowed = tt; improve = tt; ends = refl; counted = refl; stepped = refl }

  took_join : {es fs : List Entry} {a b c : State} {m n d e : ℕ} → Took G k bound rows es a b m d → Took G k bound rows fs b c n e → Took G k bound rows (es ++ fs) a c (m + n) (d + e)
  took_join {es} {fs} {a} x y =
      record {
        allowed = allowed_append es fs a x.allowed (rw x.ends y.allowed);
        improve = improve_append es fs a x.improve (rw x.ends y.improve);
        ends = after_append es fs a ∙ rw x.ends y.ends;
        counted = gaining_append es fs a ∙ rw x.ends (omega (arith, x.counted, y.counted));
        stepped = downs_append es fs ∙ omega (arith, x.stepped, y.stepped);
      }

  took_move : (s : State) (h t : ℕ) → Allowed G k bound (rows s.rung) s.parts h t → Improves G (rows s.rung) s.parts h t
      → Took G k bound rows (move h t ∷ []) s (step rows (move h t) s) (when (lt_z (pos 0) (gain_to G (rows s.rung) s.parts h t)) 1) 0
  took_move s h t a b = record { allowed = (a, tt); improve = (b, tt); ends = refl; counted = omega arith; stepped = refl }

  took_down : (r : ℕ) (parts : List ℕ) → Took G k bound rows (down ∷ []) (state_of (suc r) parts) (state_of r parts) 0 1
  took_down r parts =
      let q : suc r - 1 ≡ r = omega arith in
      record { allowed = (omega arith, tt); improve = (tt, tt); ends = ap (λ (x : ℕ). state_of x parts) q; counted = refl; stepped = refl }

module _ (G : Graph) (P : Proper G) (k bound : ℕ) (rows : ℕ → List ℕ) (top : ℕ) (H : Nested G rows top) where
  pub took_good : {es : List Entry} {a b : State} {m d : ℕ} → GoodAt G k bound rows top a → Took G k bound rows es a b m d → GoodAt G k bound rows top b
  took_good {es} {a} I x = rw x.ends at (cut_total G P k bound rows top H es a I x.allowed).0

  -- with each move of gain above 0 the cut falls
  few_gains : (es : List Entry) (s : State) → GoodAt G k bound rows top s → AllAllowed G k bound rows es s → AllImprove G rows es s → gaining G rows es s + cut_at G (after rows es s) ≤ cut_at G s
  few_gains [] s I a b = omega arith
  few_gains (move h t ∷ es) s I a b =
      omega (
        arith,
        few_gains es (step rows (move h t) s) (good_step G P k bound rows top H (move h t) s I a.0) a.1 b.1,
        cut_falls G P k bound rows top H s I h t a.0 b.0,
      )
  few_gains (down ∷ es) s I a b = omega (arith, few_gains es (step rows down s) (good_step G P k bound rows top H down s I a.0) a.1 b.1)

  pub took_few : {es : List Entry} {a b : State} {m d : ℕ} → GoodAt G k bound rows top a → Took G k bound rows es a b m d → m + cut_at G b ≤ cut_at G a
  took_few {es} {a} I x = rw (← x.counted, ← x.ends) (few_gains es a I x.allowed x.improve)

  -- the work on rung r makes s' of s by the entries es
  pub record Steps (r : ℕ) (es : List Entry) (s s' : Tally) : Type 0 where
    pub made : ℕ
    pub took : Took G k bound rows es (state_of r s.parts) (state_of r s'.parts) made 0
    pub count : s'.moves ≡ s.moves + made

  steps_none : (r : ℕ) (s : Tally) → Steps r [] s s
  steps_none r s = record { made = 0; took = took_none G k bound rows (state_of r s.parts); count = omega arith }

  steps_join : {r : ℕ} {es fs : List Entry} {s t u : Tally} → Steps r es s t → Steps r fs t u → Steps r (es ++ fs) s u
  steps_join x y =
      record { made = x.made + y.made; took = took_join G k bound rows x.took y.took; count = omega (arith, x.count, y.count) }

  pub steps_good : {r : ℕ} {es : List Entry} {s t : Tally} → GoodAt G k bound rows top (state_of r s.parts) → Steps r es s t → GoodAt G k bound rows top (state_of r t.parts)
  steps_good I x = took_good I x.took

  -- each move that counts lowers the cut
  pub steps_fall : {r : ℕ} {es : List Entry} {s t : Tally} → GoodAt G k bound rows top (state_of r s.parts) → Steps r es s t → t.moves + cut_of G t.parts ≤ s.moves + cut_of G s.parts
  steps_fall I x = omega (arith, took_few I x.took, x.count)

  -- visits of clusters: where nothing has moved at their end, nothing has changed; where something has, it had before, or the measure is lower
  pub record Visits (r : ℕ) (es : List Entry) (s s' : Tally) : Type 0 where
    pub steps : Steps r es s s'
    pub still : s'.moved ≡ false → s' ≡ s
    pub falls : GoodAt G k bound rows top (state_of r s.parts) → measure G k s'.parts + when s'.moved 1 ≤ measure G k s.parts + when s.moved 1

  visits_none : (r : ℕ) (s : Tally) → Visits r [] s s
  visits_none r s = record { steps = steps_none r s; still = λ e. refl; falls = λ I. omega arith }

  visits_join : {r : ℕ} {es fs : List Entry} {s t u : Tally} → Visits r es s t → Visits r fs t u → Visits r (es ++ fs) s u
  visits_join x y =
      record {
        steps = steps_join x.steps y.steps;
        still = λ e. let q = y.still e in q ∙ x.still (sym (ap (λ (t : Tally). t.moved) q) ∙ e);
        falls = λ I. omega (arith, x.falls I, y.falls (steps_good I x.steps));
      }

  -- a visit, a pass, and the passes on rung r, each by its own moves
  visit_steps : (r h : ℕ) (s : Tally) → h < clusters (rows r) → Visits r (visit_moves G k bound (rows r) h s) s (visited G k bound (rows r) h s)
  unfolding visited settled_at visit_moves
  visit_steps r h s l =
      let t = target G k bound (rows r) s.parts h in
      either (eq_or_ne t (part_of (rows r) s.parts h))
      (λ e. rw (eq-eqb _ _ e) (visits_none r s))
      (λ n. rw (ne_eqb _ _ n)
      (either (target_improves G (rows r) s.parts h k bound l) (λ e. absurd (n e))
      (λ w. record {
        steps = record {
          made = when (lt_z (pos 0) (gain_to G (rows r) s.parts h t)) 1;
          took = took_move G k bound rows (state_of r s.parts) h t w.0 w.1;
          count = refl;
        };
        still = λ e. absurd (no_bool (sym e));
        falls = λ I. omega (arith, move_falls G P k bound rows top H (state_of r s.parts) I h t w.0 w.1);
      })))

  pub turn_steps : (r i : ℕ) (s : Tally) → i ≤ clusters (rows r) → Visits r (turn_moves G k bound (rows r) i s) s (turns i (visited G k bound (rows r)) s)
  unfolding turns turn_moves
  turn_steps r zero s l = visits_none r s
  turn_steps r (suc i) s l = visits_join (turn_steps r i s (omega arith)) (visit_steps r i (turns i (visited G k bound (rows r)) s) l)

  pass_visits : (r : ℕ) (s : Tally) → Visits r (pass_moves G k bound (rows r) s) (tally_of s.parts s.moves) (pass_of G k bound (rows r) s)
  unfolding pass_of pass_moves
  pass_visits r s = turn_steps r (clusters (rows r)) (tally_of s.parts s.moves) (omega arith)

  pub pass_steps : (r : ℕ) (s : Tally) → Steps r (pass_moves G k bound (rows r) s) s (pass_of G k bound (rows r) s)
  pass_steps r s = let x = (pass_visits r s).steps in record { made = x.made; took = x.took; count = x.count }

  -- whatever moved before, a pass starts anew
  pass_anew : (r : ℕ) (s : Tally) → pass_of G k bound (rows r) (tally_of s.parts s.moves) ≡ pass_of G k bound (rows r) s
  unfolding pass_of
  pass_anew r s = refl

  pass_still : (r : ℕ) (s : Tally) → (pass_of G k bound (rows r) s).moved ≡ false → pass_of G k bound (rows r) (pass_of G k bound (rows r) s) ≡ pass_of G k bound (rows r) s
  pass_still r s e = ap (pass_of G k bound (rows r)) ((pass_visits r s).still e) ∙ pass_anew r s

  repeat_steps : (r fuel : ℕ) (s : Tally) → Steps r (repeated_moves G k bound (rows r) fuel s) s (repeated G k bound (rows r) fuel s)
  unfolding repeated repeated_moves
  repeat_steps r zero s = steps_none r s
  repeat_steps r (suc fuel) s =
      let t = pass_of G k bound (rows r) s in steps_join (pass_steps r s) (go t.moved (repeat_steps r fuel t))
    where
      go : (b : Bool) {es : List Entry} {t u : Tally} → Steps r es t u → Steps r (pick b es []) t (pick b u t)
      go true x = x
      go false {t = t} x = steps_none r t

  pub refined_steps : (r : ℕ) (s : Tally) → Steps r (moves_on G k bound (rows r) s) s (refined_on G k bound (rows r) s)
  unfolding refined_on moves_on
  refined_steps r s = repeat_steps r (passes G k s.parts) s

  -- a pass that moves something lowers the measure
  pub pass_falls : (r : ℕ) (s : Tally) → GoodAt G k bound rows top (state_of r s.parts) → (pass_of G k bound (rows r) s).moved ≡ true
      → measure G k (pass_of G k bound (rows r) s).parts < measure G k s.parts
  pass_falls r s I m = omega (arith, rw m at ((pass_visits r s).falls I))

  pub repeat_ends : (r fuel : ℕ) (s : Tally) → GoodAt G k bound rows top (state_of r s.parts) → measure G k s.parts < fuel
      → pass_of G k bound (rows r) (repeated G k bound (rows r) fuel s) ≡ repeated G k bound (rows r) fuel s
  unfolding repeated
  repeat_ends r zero s I l = absurd (not-suc-le-zero l)
  repeat_ends r (suc fuel) s I l =
      go (pass_of G k bound (rows r) s).moved (λ e. repeat_ends r fuel (pass_of G k bound (rows r) s) (steps_good I (pass_steps r s)) (omega (arith, pass_falls r s I e)))
      (pass_still r s)
    where
      go : (b : Bool) {t u : Tally} → (b ≡ true → pass_of G k bound (rows r) u ≡ u) → (b ≡ false → pass_of G k bound (rows r) t ≡ t) → pass_of G k bound (rows r) (pick b u t) ≡ pick b u t
      go true x y = x refl
      go false x y = y refl

  -- down the rungs
  pub own_from : (r : ℕ) (s : Tally) → (made : ℕ)
      × Took G k bound rows (moves_from G k bound rows r s) (state_of r s.parts) (state_of 0 (refined_below G k bound rows (suc r) s).parts) made r
      × ((refined_below G k bound rows (suc r) s).moves ≡ s.moves + made)
  unfolding refined_below moves_from
  own_from zero s = let x = refined_steps 0 s in (x.made, x.took, x.count)
  own_from (suc r) s =
      let x = refined_steps (suc r) s in
      let t = refined_on G k bound (rows (suc r)) s in
      let (n, y, c) = own_from r t in
      let z = took_join G k bound rows x.took (took_join G k bound rows (took_down G k bound rows r t.parts) y) in
      let p : 0 + (1 + r) ≡ suc r = omega arith in (x.made + (0 + n), rw p at z, omega (arith, x.count))
