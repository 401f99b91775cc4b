-- What the recurrence finds is feasible, beats every feasible division, and comes first among equals; none exactly if none is feasible.
use Prim.Native.Nat.{ℕ, zero, suc, ◌+◌, ◌<◌}
use mathlib.Core.Path.{◌≡◌, refl, ap, sym, ◌∙◌, subst}
use mathlib.Core.Bool.{Bool, true, false, ◌&&◌}
use mathlib.Core.Logic.{◌⊎◌, inl, inr}
use mathlib.Core.List.{List, [], ◌∷◌}
use native.Mathlib.Omega.{arith}
use native.Mathlib.Nat.{not-suc-le-zero, suc_inj}
use lib.ListN.{length}
use lib.Dec.{ltb}
use borrow.Author.Tests.{ltb-true, ltb-false, lt-ltb}
use Rattle.folds.proofs.Cases.{by, either, both, both_i}
use Rattle.division_table.specs.Division.{Rising, fits, Feasible, NotAfter, divisions, Pick, none, some, better, given, least}
use Rattle.division_table.specs.Promises.{best_below, ahead, best}
use Rattle.division_table.proofs.Picks.{best_at, some_none}
use Rattle.division_table.proofs.Best.{outs, least-best}

-- the pick cuts less than c, or cuts c and does not come after e
abbrev pub Beats : ℕ → List ℕ → Pick (List ℕ) → Type 0
Beats c e none = ⊥
Beats c e (some b d) = (b < c) ⊎ ((b ≡ c) × NotAfter d e)

at_left : (c : ℕ) (m : List ℕ) (p q : Pick (List ℕ)) → Beats c m p → Beats c m (better p q)
at_left c m none q h = absurd h
at_left c m (some d l) none h = h
at_left c m (some d l) (some e k) h =
    by (ltb e d) (λ t. rw t (inl (either h (λ a. omega (arith, ltb-true e d t)) (λ a. omega (arith, ltb-true e d t, a.0))))) (λ t. rw t h)

at_right : (c : ℕ) (m : List ℕ) (p q : Pick (List ℕ)) → Beats c m q → ((d : ℕ) (l : List ℕ) → p ≡ some d l → NotAfter l m) → Beats c m (better p q)
at_right c m none q h L = h
at_right c m (some d l) none h L = absurd h
at_right c m (some d l) (some e k) h L =
    by (ltb e d) (λ t. rw t h)
    (λ t. rw t
    (by (ltb d c) (λ u. inl (ltb-true d c u))
    (λ u.
    either h (λ a. absurd (omega (arith, ltb-false e d t, ltb-false d c u)))
    (λ a. inr (omega (arith, ltb-false e d t, ltb-false d c u, a.0), L d l refl)))))

below_beats : (n : ℕ) (f : ℕ → Pick (List ℕ)) (c : ℕ) (m : List ℕ) (x : ℕ) → x < n → Beats c m (f x)
    → ((z d : ℕ) (l : List ℕ) → z < x → f z ≡ some d l → NotAfter l m) → Beats c m (best_below n f)
unfolding best_below
below_beats zero f c m x h b L = absurd (not-suc-le-zero h)
below_beats (suc n) f c m x h b L =
    by (ltb x n) (λ t. at_left c m (best_below n f) (f n) (below_beats n f c m x (ltb-true x n t) b L))
    (λ t.
    let e : x ≡ n = omega (arith, ltb-false x n t) in
    at_right c m (best_below n f) (f n) (rw e at b) (λ d l q. let r = best_at n f d l q in L r.0 d l (omega arith) r.2))

beats_ahead : (c x w : ℕ) (m : List ℕ) (p : Pick (List ℕ)) → Beats c m p → Beats (w + c) (x ∷ m) (ahead x w p)
beats_ahead c x w m none h = h
beats_ahead c x w m (some d l) h = either h (λ a. inl (omega arith)) (λ a. inr (omega (arith, a.0), inr (refl, a.1)))

-- what a pick through x is
pub ahead_some : (b : Bool) (x w : ℕ) (p : Pick (List ℕ)) (c : ℕ) (l : List ℕ) → given b (ahead x w p) ≡ some c l
    → (d : ℕ) × (m : List ℕ) × (b ≡ true) × (p ≡ some d m) × (l ≡ x ∷ m) × (c ≡ w + d)
ahead_some false x w p c l e = absurd (some_none e)
ahead_some true x w none c l e = absurd (some_none e)
ahead_some true x w (some d m) c l e = (d, m, refl, refl, cc, cc)

least_zero : (g : ℕ) (pass : List ℕ → Bool) (cut : List ℕ → ℕ) → least pass cut (divisions g 0) ≡ none
unfolding divisions least
least_zero g pass cut = refl

module _ (g : ℕ) (ok : ℕ → ℕ → Bool) (out : ℕ → ℕ → ℕ) where
  -- d is a feasible division of y to g - 1 with j starts after y
  abbrev pub From : ℕ → ℕ → List ℕ → Type 0
  From j y d = Rising g y d × (length d ≡ j) × (fits g ok y d ≡ true)

  best_beats : (j y : ℕ) (m : List ℕ) → Rising g y m → length m ≡ j → fits g ok y m ≡ true → Beats (outs out y m) m (best g ok out j y)
  unfolding best outs fits
  best_beats zero y [] r n f = rw (lt-ltb y g r, f) (inr (refl, tt))
  best_beats zero y (x ∷ m) r n f = absurd (omega (arith, n))
  best_beats (suc j) y [] r n f = absurd (omega (arith, n))
  best_beats (suc j) y (x ∷ m) r n f =
      let a = both (ok y x) (fits g ok x m) f in
      below_beats g _ _ (x ∷ m) x (below x m r.1)
      (rw (lt-ltb y x r.0, a.0) (beats_ahead (outs out x m) x (out y x) m (best g ok out j x) (best_beats j x m r.1 (suc_inj n) a.1)))
      (λ z d l h e. let s = ahead_some (ltb y z && ok y z) z (out y z) (best g ok out j z) d l e in subst (λ k. NotAfter k (x ∷ m)) (sym s.4) (inl h))
    where
      below : (x : ℕ) (m : List ℕ) → Rising g x m → x < g
      below x [] r = r
      below x (z ∷ m) r = omega (arith, below z m r.1, r.0)

  pub best_holds : (j y c : ℕ) (l : List ℕ) → best g ok out j y ≡ some c l → From j y l × (outs out y l ≡ c)
  unfolding best outs fits
  best_holds zero y c l e =
      by (ltb y g && ok y g)
      (λ t.
      let a : [] ≡ l = cc in
      let b : 0 ≡ c = cc in
      let (lt, f) = both (ltb y g) (ok y g) t in
      subst (λ k. From 0 y k × (outs out y k ≡ c)) a ((ltb-true y g lt, refl, f), b))
      (λ t. let z : ◌≡◌ {A = ℕ} 0 1 = cc in absurd (omega arith))
  best_holds (suc j) y c l e =
      let (x, h, r) = best_at g _ c l e in
      let s = ahead_some (ltb y x && ok y x) x (out y x) (best g ok out j x) c l r in
      let a = both (ltb y x) (ok y x) s.2 in
      let (i, o) = best_holds j x s.0 s.1 s.3 in
      subst (λ k. From (suc j) y k × (outs out y k ≡ c)) (sym s.4)
      (((ltb-true y x a.0, i.0), ap suc i.1, both_i (ok y x) (fits g ok x s.1) a.1 i.2), omega (arith, o, s.5))

  module _ (cut : List ℕ → ℕ) (cut_outs : (d : List ℕ) → Rising g 0 d → cut d ≡ outs out 0 d) (k : ℕ) where
    -- THE LEAST DIVISION: what is picked is feasible and has that cut; each feasible one cuts more, or as much and does not come before it
    pub least_holds : (c : ℕ) (d : List ℕ) → least (fits g ok 0) cut (divisions g k) ≡ some c d → Feasible g ok k d × (cut d ≡ c)
    least_holds = go k
      where
        go : (k c : ℕ) (d : List ℕ) → least (fits g ok 0) cut (divisions g k) ≡ some c d → Feasible g ok k d × (cut d ≡ c)
        go zero c d e = absurd (some_none (sym (least_zero g (fits g ok 0) cut) ∙ e))
        go (suc j) c d e =
            let ((r, n, f), o) = best_holds j 0 c d (sym (least-best g ok out cut cut_outs j) ∙ e) in
            (record { rising = r; count = ap suc n; passes = f }, cut_outs d r ∙ o)

    pub least_beats : (e : List ℕ) → Feasible g ok k e → Beats (cut e) e (least (fits g ok 0) cut (divisions g k))
    least_beats = go k
      where
        go : (k : ℕ) (e : List ℕ) → Feasible g ok k e → Beats (cut e) e (least (fits g ok 0) cut (divisions g k))
        go zero e F = absurd (omega (arith, F.count))
        go (suc j) e F =
            rw (cut_outs e F.rising, least-best g ok out cut cut_outs j) (best_beats j 0 e F.rising (suc_inj F.count) F.passes)
