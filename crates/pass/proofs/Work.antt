-- The choice of a part and the visit of a cluster, from what the code's branches say.
use Prim.Native.Nat.{ℕ, ◌+◌, ◌-◌, ◌≤◌, ◌<◌, ◌^◌, min}
use mathlib.Core.Path.{◌≡◌, refl, sym, ap, subst, ◌∙◌}
use mathlib.Core.Bool.{Bool, true, false, not, ◌&&◌, ◌||◌}
use mathlib.Core.List.{List}
use Rattle.std.specs.Prelude.{Option, Some, None, unwrap_or}
use mathlib.Core.Logic.{◌⊎◌, inl, inr}
use native.Mathlib.Omega.{arith}
use lib.Dec.{eqb, ltb, leb}
use lib.ListN.{get_or, set, length-set}
use lib.Seq.{get_or-set_same, get_or-set_other}
use borrow.Author.Tests.{lt-ltb, le-ltb, le-leb, ltb-true, ltb-false, leb-true, eqb-true, eqb-false, eq-eqb, ne_eqb}
use Rattle.folds.specs.Fold.{pick, when, turns, Read}
use Rattle.folds.proofs.Cases.{by, both, both_i, one_of, or_l, or_r, either, eq_or_ne, and_false, and_true, not_yes, no_bool}
use Rattle.folds.proofs.Best.{Best, best_none, best_one, best_to_lem, best_below_lem, best_alike}
use Rattle.folds.proofs.Loops.{turns_zero, turns_turn}
use Rattle.neighbours.specs.Visit.{Placed, Listed, pull_to, Pulled, Seated}
use Rattle.neighbours.specs.declared.Mark.{Mark}
use Rattle.neighbours.specs.declared.Mark.TheVariants.{Closed, Stale}
use Rattle.neighbours.specs.Known.{open_to, mark_at, Known, Fresh}
use Rattle.neighbours.proofs.Laws.{pull_between, pull_high, pull_low}
use Rattle.part_sums.specs.declared.PartSums.{PartSums}
use Rattle.pass.specs.declared.Target.{Target}
use Rattle.part_sums.specs.Sums.{sums_allow, sums_even, FirstEven, EvenFound, Shifts, shifted}
use Rattle.part_sums.proofs.Sums.{allowed_shifts}
use Rattle.pass.specs.Work.{gains_by, open_of, choice_of, beats_of, better_of, Around, back_allowed, ahead_allowed, back_of, ends_of, evenly, NoneEvens, FirstEvens, EvenPart, PickedPart, Aims, Work, choice_at, gain_at, moved_by, worked, Paid, Visitable, Goal, WorkDone}

-- a chain of tests in the code's order
reorder : (a b g l : Bool) → (a && (b && (g && l))) ≡ (((a && true) && (l && g)) && b)
reorder false b g l = refl
reorder true b false true = and_false b
reorder true b false false = and_false b
reorder true b true true = and_true b
reorder true b true false = and_false b

module _ (f : ℕ → ℕ) (S : PartSums) (own cost bound low high : ℕ) where
  -- what an open part is
  open_e : (t : ℕ) → open_of f S own cost bound low high t ≡ true
      → (own ≡ t → ⊥) × (high ≤ t + 1) × (t ≤ low) × (sums_allow S own t cost bound ≡ true) × (gains_by f S own cost t ≡ true)
  unfolding open_of
  open_e t e =
      let (c, g) = both (not (eqb own t) && (leb high (t + 1) && leb t low)) _ e in
      let (n, r) = both (not (eqb own t)) _ c in
      let (h, l) = both (leb high (t + 1)) _ r in
      let (a, b) = both (sums_allow S own t cost bound) _ g in
      (eqb-false own t (not_yes _ n), leb-true high (t + 1) h, leb-true t low l, a, b)

  closed_i : (t : ℕ) → (open_of f S own cost bound low high t ≡ true → ⊥) → open_of f S own cost bound low high t ≡ false
  closed_i t n = by (open_of f S own cost bound low high t) (λ e. absurd (n e)) (λ e. e)

  gains_e : (t : ℕ) → gains_by f S own cost t ≡ true → (f own < f t) ⊎ ((f t ≡ f own) × (sums_even S own t cost ≡ true))
  unfolding gains_by
  gains_e t e =
      either (one_of (ltb (f own) (f t)) _ e) (λ l. inl (ltb-true (f own) (f t) l))
      (λ q. let (x, y) = both (eqb (f t) (f own)) _ q in inr (eqb-true (f t) (f own) x, y))

  -- what is chosen in place of the cluster's own part is open
  choice_open : (choice_of f S own cost bound low high ≡ own → ⊥) → open_of f S own cost bound low high (choice_of f S own cost bound low high) ≡ true
  unfolding choice_of
  choice_open n = either (best_one _ _ own S.count) (λ e. absurd (n e)) (λ (_, e). e)

  choice_allowed : (choice_of f S own cost bound low high ≡ own → ⊥) → sums_allow S own (choice_of f S own cost bound low high) cost bound ≡ true
  choice_allowed n = (open_e _ (choice_open n)).3

  -- what is chosen is no less tied to the cluster than its own part
  pub choice_gains : {r : ℕ} → PickedPart f S own cost bound low high r → f own ≤ f r
  choice_gains C =
      rw C.is
      (either (eq_or_ne (choice_of f S own cost bound low high) own) (λ e. rw e (omega arith))
      (λ n. either (gains_e _ (open_e _ (choice_open n)).4) (λ l. omega arith) (λ (e, _). omega arith)))

  -- a cluster to which no candidate is open stays, whatever its widths are
  closed_idle : open_to own low high S.count ≡ false → choice_of f S own cost bound low high ≡ own
  unfolding choice_of open_to
  closed_idle e =
      sym
      (best_none _ _ own S.count
      (λ u l. closed_i u (λ o. let (n, h, w, _, _) = open_e u o in
      by (ltb own u)
      (λ t. let g = ltb-true own u t in
      no_bool (sym e ∙ or_l (ltb own low && ltb (own + 1) S.count) _ (both_i (ltb own low) _ (lt-ltb own low (omega arith)) (lt-ltb (own + 1) S.count (omega arith)))))
      (λ t. let g = ltb-false own u t in
      no_bool (sym e ∙ or_r (ltb own low && ltb (own + 1) S.count) _ (both_i (ltb 0 own) _ (lt-ltb 0 own (omega arith)) (le-leb high own (omega arith))))))))

  abbrev less : ℕ → ℕ → Bool
  less a b = ltb (f a) (f b)

  less_mix : (a b c : ℕ) → less a b ≡ false → less a c ≡ true → (less b c ≡ true) × (less c b ≡ false)
  less_mix a b c x y =
      let p = ltb-false (f a) (f b) x in let q = ltb-true (f a) (f c) y in (lt-ltb (f b) (f c) (omega arith), le-ltb (f c) (f b) (omega arith))

  own_closed : open_of f S own cost bound low high own ≡ false
  own_closed = closed_i own (λ o. (open_e own o).0 refl)

  choice_is : ((choice_of f S own cost bound low high ≡ own) × ((u : ℕ) → u < S.count → open_of f S own cost bound low high u ≡ false))
      ⊎ Best S.count (open_of f S own cost bound low high) less (choice_of f S own cost bound low high)
  unfolding choice_of
  choice_is = best_to_lem _ less own own_closed (λ a. le-ltb (f a) (f a) (omega arith)) less_mix S.count

  -- the cluster stays where nothing is open
  all_closed : ((u : ℕ) → u < S.count → open_of f S own cost bound low high u ≡ true → ⊥) → own ≡ choice_of f S own cost bound low high
  unfolding choice_of
  all_closed n = best_none _ _ own S.count (λ u l. closed_i u (n u l))

  -- part t of the range in place of the best so far
  better_open : (t b : ℕ) → high ≤ t + 1 → t ≤ low → better_of f S own cost bound t b ≡ pick (open_of f S own cost bound low high t && (eqb b own || less b t)) t b
  unfolding better_of beats_of open_of
  better_open t b g l =
      rw (le-leb high (t + 1) g, le-leb t low l)
      (ap (λ (x : Bool). pick x t b) (reorder (not (eqb own t)) (eqb b own || ltb (f b) (f t)) (gains_by f S own cost t) (sums_allow S own t cost bound)))

  -- what is known of the widths without a look at them
  module _ (A : Around f S.count own low high) where
    -- an open part is that of the highest predecessor, that of the lowest successor, or one between that evens, where there is no width to own
    open_where : (u : ℕ) → u < S.count → open_of f S own cost bound low high u ≡ true
        → ((u + 1 ≡ high) × (back_allowed S own cost bound high ≡ true))
        ⊎ (((u ≡ low) × (ahead_allowed S own cost bound low ≡ true))
        ⊎ ((high ≤ u) × (u < low) × (f own ≡ 0) × (evenly S own cost bound u ≡ true)))
    unfolding back_allowed ahead_allowed evenly
    open_where u lu o =
        let (n, h, l, a, g) = open_e u o in
        either (eq_or_ne (u + 1) high)
        (λ e. let q : high - 1 ≡ u = omega arith in
        let x : high ≤ own = either (eq_or_ne high (own + 1)) (λ z. absurd (n (omega arith))) (λ z. omega (arith, A.after)) in
        inl (e, rw (q, lt-ltb 0 high (omega arith), le-leb high own x) a))
        (λ m. inr
        (either (eq_or_ne u low)
        (λ e. let x : own < low = either (eq_or_ne own u) (λ z. absurd (n z)) (λ z. omega (arith, A.before)) in
        inl (e, rw (← e, lt-ltb own u (omega arith), lt-ltb u S.count lu) a))
        (λ z. inr
        (let zero = A.between u (omega arith) (omega arith) in
        either (gains_e u g) (λ w. absurd (omega arith)) (λ (w, y). (omega arith, omega arith, omega arith, rw (y, a)))))))

    -- the two ends are open where they are allowed and gain
    back_open : back_allowed S own cost bound high ≡ true → f own < f (high - 1) → (high - 1 < S.count) × (open_of f S own cost bound low high (high - 1) ≡ true)
    unfolding back_allowed open_of gains_by
    back_open e g =
        let (r, a) = both (ltb 0 high && leb high own) _ e in
        let (x, y) = both (ltb 0 high) _ r in
        let lx = ltb-true 0 high x in
        let ly = leb-true high own y in
        (omega (arith, A.inside), rw (ne_eqb own (high - 1) (λ q. omega arith), le-leb high (high - 1 + 1) (omega arith), le-leb (high - 1) low (omega (arith, A.before)), a, lt-ltb (f own) (f (high - 1)) g))

    ahead_open : ahead_allowed S own cost bound low ≡ true → f own < f low → (low < S.count) × (open_of f S own cost bound low high low ≡ true)
    unfolding ahead_allowed open_of gains_by
    ahead_open e g =
        let (r, a) = both (ltb own low && ltb low S.count) _ e in
        let (x, y) = both (ltb own low) _ r in
        let lx = ltb-true own low x in
        (ltb-true low S.count y, rw (ne_eqb own low (λ q. omega arith), le-leb high (low + 1) (omega (arith, A.after)), le-leb low low (omega arith), a, lt-ltb (f own) (f low) g))

    back_width : back_allowed S own cost bound high ≡ true → 0 < f (high - 1)
    unfolding back_allowed
    back_width e = A.at_high (ltb-true 0 high (both (ltb 0 high) _ (both (ltb 0 high && leb high own) _ e).0).0)

    ahead_width : ahead_allowed S own cost bound low ≡ true → 0 < f low
    unfolding ahead_allowed
    ahead_width e = A.at_low (ltb-true low S.count (both (ltb own low) _ (both (ltb own low && ltb low S.count) _ e).0).1)

    -- the choice among the ends, by what is open
    back_yes : 0 < high → open_of f S own cost bound low high (high - 1) ≡ true → back_of f S own cost bound high ≡ high - 1
    unfolding back_of
    back_yes l o = rw (lt-ltb 0 high l, better_open (high - 1) own (omega arith) (omega (arith, A.after, A.before)), o, eq-eqb own own refl)

    back_no : (0 < high → open_of f S own cost bound low high (high - 1) ≡ false) → back_of f S own cost bound high ≡ own
    unfolding back_of
    back_no n =
        by (ltb 0 high)
        (λ e. let l = ltb-true 0 high e in rw (e, better_open (high - 1) own (omega arith) (omega (arith, A.after, A.before)), n l))
        (λ e. rw e)

    ends_low : low < S.count → open_of f S own cost bound low high low ≡ true → (eqb (back_of f S own cost bound high) own || less (back_of f S own cost bound high) low) ≡ true
        → ends_of f S own cost bound low high ≡ low
    unfolding ends_of
    ends_low l o w = rw (lt-ltb low S.count l, better_open low (back_of f S own cost bound high) (omega (arith, A.after, A.before)) (omega arith), o, w)

    ends_back : (low < S.count → open_of f S own cost bound low high low ≡ true → (eqb (back_of f S own cost bound high) own || less (back_of f S own cost bound high) low) ≡ false)
        → ends_of f S own cost bound low high ≡ back_of f S own cost bound high
    unfolding ends_of
    ends_back w =
        by (ltb low S.count)
        (λ e. let l = ltb-true low S.count e in
        rw (e, better_open low (back_of f S own cost bound high) (omega (arith, A.after, A.before)) (omega arith))
        (by (open_of f S own cost bound low high low) (λ o. rw (o, w l o)) (λ o. rw o)))
        (λ e. rw e)

    module _ {x : ℕ} (w : Best S.count (open_of f S own cost bound low high) less x) where
      at_back : x + 1 ≡ high → ends_of f S own cost bound low high ≡ x
      at_back e =
          let q : high - 1 ≡ x = omega arith in
          let b : back_of f S own cost bound high ≡ x = back_yes (omega arith) (rw q w.has) ∙ q in
          ends_back (λ l o. rw (b, ne_eqb x own (λ z. (open_e x w.has).0 (sym z))) (w.largest low l o)) ∙ b

      at_low : (x + 1 ≡ high → ⊥) → x ≡ low → ends_of f S own cost bound low high ≡ x
      at_low n e = ends_low (omega (arith, w.below)) (subst (λ (u : ℕ). open_of f S own cost bound low high u ≡ true) e w.has) beaten ∙ sym e
        where
          stays : back_of f S own cost bound high ≡ own → (eqb (back_of f S own cost bound high) own || less (back_of f S own cost bound high) low) ≡ true
          stays b = or_l _ _ (eq-eqb (back_of f S own cost bound high) own b)

          beaten : (eqb (back_of f S own cost bound high) own || less (back_of f S own cost bound high) low) ≡ true
          beaten =
              by (ltb 0 high)
              (λ t. let l = ltb-true 0 high t in
              by (open_of f S own cost bound low high (high - 1))
              (λ o. rw (back_yes l o) (or_r (eqb (high - 1) own) (less (high - 1) low) (subst (λ (u : ℕ). less (high - 1) u ≡ true) e (w.lowest (high - 1) (omega (arith, A.after, A.before)) o)))) (λ o. stays (back_no (λ _. o))))
              (λ t. let l = ltb-false 0 high t in stays (back_no (λ m. absurd (omega arith))))

      -- one between is not the best where an end is allowed
      no_end : f own ≡ 0 → high ≤ x → x < low → (back_allowed S own cost bound high || ahead_allowed S own cost bound low) ≡ true → ⊥
      no_end z a b e =
          let zero = A.between x a b in
          either (one_of (back_allowed S own cost bound high) _ e)
          (λ y. let g = back_width y in let (l, o) = back_open y (omega arith) in no_bool (sym (w.largest (high - 1) l o) ∙ lt-ltb (f x) (f (high - 1)) (omega arith)))
          (λ y. let g = ahead_width y in let (l, o) = ahead_open y (omega arith) in no_bool (sym (w.largest low l o) ∙ lt-ltb (f x) (f low) (omega arith)))

    -- the choice is among the ends where the cluster has width to its own part, or one of the ends is allowed
    pub ends_choice : (0 < f own) ⊎ ((back_allowed S own cost bound high || ahead_allowed S own cost bound low) ≡ true)
        → ends_of f S own cost bound low high ≡ choice_of f S own cost bound low high
    ends_choice some =
        either choice_is
        (λ (e, z).
        ends_back (λ l o. absurd (no_bool (sym (z low l) ∙ o))) ∙ back_no (λ l. z (high - 1) (omega (arith, A.after, A.inside))) ∙ sym e)
        (λ w. either (open_where _ w.below w.has) (λ v. at_back w v.0)
        (λ v. either v
        (λ v. either (eq_or_ne (choice_of f S own cost bound low high + 1) high) (at_back w) (λ n. at_low w n v.0))
        (λ v. absurd (either some (λ l. omega (arith, v.2)) (no_end w v.2 v.0 v.1)))))

    -- with width to its own part and no end allowed the cluster stays
    pub held_stays : 0 < f own → (back_allowed S own cost bound high || ahead_allowed S own cost bound low) ≡ false → own ≡ choice_of f S own cost bound low high
    held_stays l e =
        all_closed (λ u lu o. either (open_where u lu o) (λ v. no_bool (sym e ∙ or_l _ _ v.1))
        (λ v. either v (λ v. no_bool (sym e ∙ or_r (back_allowed S own cost bound high) _ v.1)) (λ v. omega (arith, v.2))))

    -- between its neighbours' parts, with no end allowed, it evens out or stays
    module _ (a : high ≤ own) (b : own < low) (e : (back_allowed S own cost bound high || ahead_allowed S own cost bound low) ≡ false) where
      only_even : (u : ℕ) → u < S.count → open_of f S own cost bound low high u ≡ true → (high ≤ u) × (u < low) × (evenly S own cost bound u ≡ true)
      only_even u lu o =
          either (open_where u lu o) (λ v. absurd (no_bool (sym e ∙ or_l _ _ v.1)))
          (λ v. either v (λ v. absurd (no_bool (sym e ∙ or_r (back_allowed S own cost bound high) _ v.1))) (λ v. (v.0, v.1, v.3)))

      even_open : (u : ℕ) → high ≤ u → u < low → evenly S own cost bound u ≡ true → open_of f S own cost bound low high u ≡ true
      unfolding evenly sums_even open_of gains_by
      even_open u g l y =
          let (x, z) = both (ltb (get_or S.sums u 0 + cost) (get_or S.sums own 0)) _ y in
          let m = ltb-true (get_or S.sums u 0 + cost) (get_or S.sums own 0) x in
          rw (ne_eqb own u (λ q. let k = rw (← q) at m in omega arith), le-leb high (u + 1) (omega arith), le-leb u low (omega arith), z, eq-eqb (f u) (f own) (A.between u g l ∙ sym (A.between own a b)), x)
          (or_r (ltb (f own) (f u)) true refl)

      pub even_choice : (r : Option ℕ) → EvenPart S own cost bound low high r → unwrap_or r own ≡ choice_of f S own cost bound low high
      even_choice None n =
          all_closed (λ u lu o. let (g, l, y) = only_even u lu o in no_bool (sym (n.at u g (omega arith)) ∙ y))
      even_choice (Some r) F =
          either choice_is (λ (_, z). absurd (no_bool (sym (z r F.inside) ∙ here)))
          (λ w. let (g, l, y) = only_even _ w.below w.has in
          let x = choice_of f S own cost bound low high in
          by (ltb x r) (λ t. absurd (no_bool (sym (F.first.at x g (ltb-true x r t)) ∙ y)))
          (λ t. let m = ltb-false x r t in
          by (ltb r x)
          (λ t. let k = ltb-true (f r) (f x) (w.lowest r (ltb-true r x t) here) in absurd (omega (arith, A.between x g l)))
          (λ t. let k = ltb-false r x t in omega arith)))
        where
          here : open_of f S own cost bound low high r ≡ true
          here = even_open r F.from F.below F.evens

      pub even_gain : (r : Option ℕ) → EvenPart S own cost bound low high r → 0 ≡ f (unwrap_or r own) - f own
      even_gain None n = omega arith
      even_gain (Some r) F = omega (arith, A.between _ F.from F.below)

-- a cluster in the part of a neighbour has width to it
module _ {f : ℕ → ℕ} {k own low high : ℕ} (A : Around f k own low high) where
  pub held_low : own ≡ low → 0 < f own
  held_low e = rw e (A.at_low (omega (arith, A.inside)))

  pub held_high : own + 1 ≡ high → 0 < f own
  held_high e = let q : own ≡ high - 1 = omega arith in rw q (A.at_high (omega arith))

-- the choice depends on the widths to the 16 parts alone
module _ (f g : ℕ → ℕ) (S : PartSums) (own cost bound : ℕ) (same : (u : ℕ) → u < 16 → f u ≡ g u) where
  open_ext : (low high : ℕ) → own < 16 → (u : ℕ) → u < 16 → open_of f S own cost bound low high u ≡ open_of g S own cost bound low high u
  unfolding open_of gains_by
  open_ext low high lo u l = rw (same own lo, same u l)

  better_ext : (t b : ℕ) → own < 16 → t < 16 → b < 16 → better_of f S own cost bound t b ≡ better_of g S own cost bound t b
  unfolding better_of beats_of gains_by
  better_ext t b lo lt lb = rw (same own lo, same t lt, same b lb)

  better_below : (t b : ℕ) → t < 16 → b < 16 → better_of f S own cost bound t b < 16
  unfolding better_of
  better_below t b lt lb = below (not (eqb own t) && (beats_of f own t b && (gains_by f S own cost t && sums_allow S own t cost bound)))
    where
      below : (x : Bool) → pick x t b < 16
      below true = lt
      below false = lb

  back_ext : (high : ℕ) → own < 16 → high ≤ own + 1 → (back_of f S own cost bound high ≡ back_of g S own cost bound high) × (back_of f S own cost bound high < 16)
  unfolding back_of
  back_ext high lo lh =
      by (ltb 0 high) (λ e. rw e (better_ext (high - 1) own lo (omega arith) lo, better_below (high - 1) own (omega arith) lo)) (λ e. rw e (refl, lo))

  ends_ext : (low high : ℕ) → own < 16 → high ≤ own + 1 → S.count ≤ 16 → ends_of f S own cost bound low high ≡ ends_of g S own cost bound low high
  unfolding ends_of
  ends_ext low high lo lh lc =
      let (b, lb) = back_ext high lo lh in
      by (ltb low S.count) (λ e. let l = ltb-true low S.count e in rw (e, ← b) (better_ext low _ lo (omega arith) lb)) (λ e. rw e b)

  pub choice_below : (low high : ℕ) → own < 16 → S.count ≤ 16 → choice_of f S own cost bound low high < 16
  unfolding choice_of
  choice_below low high lo lc = best_below_lem _ _ own S.count 16 lc lo

  pub choice_ext : (low high : ℕ) → own < 16 → S.count ≤ 16 → choice_of f S own cost bound low high ≡ choice_of g S own cost bound low high
  unfolding choice_of
  choice_ext low high lo lc =
      best_alike _ _ (λ a b. ltb (f a) (f b)) (λ a b. ltb (g a) (g b)) own 16 S.count lo lc (λ u l. open_ext low high lo u (omega arith)) (λ a b la lb. rw (same a la, same b lb))

-- the same by the sums of a walk, where an end is allowed
module _ {froms tos widths table toward : List ℕ} (S : PartSums) {own : ℕ} (cost bound : ℕ) {low high h : ℕ} (lo : own < 16) (lc : S.count ≤ 16)
    (A : Around (pull_to froms tos widths table h) S.count own low high) (some : (back_allowed S own cost bound high || ahead_allowed S own cost bound low) ≡ true)
    (P : Pulled froms tos widths table h toward) {t : ℕ} (e : t ≡ ends_of (λ u. get_or toward u 0) S own cost bound low high) (lt : t < 16) where
  picked_ends : PickedPart (pull_to froms tos widths table h) S own cost bound low high t
  picked_ends =
      record {
        is = e ∙ ends_ext (λ u. get_or toward u 0) _ S own cost bound P.is low high lo A.after lc ∙ ends_choice (pull_to froms tos widths table h) S own cost bound low high A (inr some);
        within = lt;
      }

  pub ends_gain : get_or toward own 0 ≤ get_or toward t 0
  ends_gain = omega (arith, P.is own lo, P.is t lt, choice_gains (pull_to froms tos widths table h) S own cost bound low high picked_ends)

  pub aims_ends : Aims (pull_to froms tos widths table h) S own cost bound low high (record { part = t; gain = get_or toward t 0 - get_or toward own 0 })
  aims_ends = record { chosen = picked_ends; gain_is = rw (P.is t lt, P.is own lo) }

-- where none is
module _ (f : ℕ → ℕ) (S : PartSums) (own cost bound low high : ℕ) (lo : own < 16) (A : Around f S.count own low high)
    (none : (back_allowed S own cost bound high || ahead_allowed S own cost bound low) ≡ false) where
  pub aims_held : 0 < f own → Aims f S own cost bound low high (record { part = own; gain = 0 })
  aims_held l = record { chosen = record { is = held_stays f S own cost bound low high A l none; within = lo }; gain_is = omega arith }

  even_low : S.count ≤ 16 → (r : Option ℕ) → EvenPart S own cost bound low high r → unwrap_or r own < 16
  even_low l None n = lo
  even_low l (Some r) F = omega (arith, F.inside)

  pub aims_even : S.count ≤ 16 → (own ≡ low → ⊥) → (own + 1 ≡ high → ⊥) → (r : Option ℕ) {t : ℕ} → EvenPart S own cost bound low high r → t ≡ unwrap_or r own
      → Aims f S own cost bound low high (record { part = t; gain = 0 })
  aims_even l n m r E e =
      let a : high ≤ own = omega (arith, A.after) in
      let b : own < low = omega (arith, A.before) in
      rw e
      record { chosen = record { is = even_choice f S own cost bound low high A a b none r E; within = even_low l r E }; gain_is = even_gain f S own cost bound low high A a b none r E }

-- the choice among the two ends, from what the branches say
module _ (S : PartSums) (own cost bound high : ℕ) where
  pub back_none : (f : ℕ → ℕ) → high ≡ 0 → own ≡ back_of f S own cost bound high
  unfolding back_of
  back_none f e = rw e

  pub back_tried : (f : ℕ → ℕ) {r : ℕ} → (high ≡ 0 → ⊥) → r ≡ better_of f S own cost bound (high - 1) own → r ≡ back_of f S own cost bound high
  unfolding back_of
  back_tried f n e = rw (lt-ltb 0 high (omega arith)) e

module _ (S : PartSums) (own cost bound low : ℕ) (f : ℕ → ℕ) (high : ℕ) {b : ℕ} (e : b ≡ back_of f S own cost bound high) where
  pub ends_none : S.count ≤ low → b ≡ ends_of f S own cost bound low high
  unfolding ends_of
  ends_none l = rw (le-ltb low S.count l) e

  pub ends_tried : {r : ℕ} → low < S.count → r ≡ better_of f S own cost bound low b → r ≡ ends_of f S own cost bound low high
  unfolding ends_of
  ends_tried l q = rw (lt-ltb low S.count l, ← e) q

-- no part from high on evens and is allowed, up to where the search goes on
pub none_yet : (S : PartSums) (own cost bound high end : ℕ) → NoneEvens S own cost bound high (min high end)
none_yet S own cost bound high end = record { at = λ u g l. absurd (omega arith) }

module _ {S : PartSums} {own cost bound high end : ℕ} where
  pub none_first : {t : ℕ} → FirstEven S own cost high end t → NoneEvens S own cost bound high (min t end)
  unfolding evenly
  none_first F = record { at = λ u g l. rw (F.none u g (omega arith) (omega arith)) }

  none_below : {first t : ℕ} → NoneEvens S own cost bound high (min first end) → t ≤ end → FirstEven S own cost first end t → NoneEvens S own cost bound high t
  unfolding evenly
  none_below {first} N lt F =
      record {
        at = λ u g h.
            by (ltb u first) (λ x. let y = ltb-true u first x in N.at u g (omega arith))
            (λ x. rw (F.none u (ltb-false u first x) h (omega arith)));
      }

  pub none_next : {first t : ℕ} → NoneEvens S own cost bound high (min first end) → EvenFound S own cost first end (Some t) → sums_allow S own t cost bound ≡ false
      → NoneEvens S own cost bound high (min (t + 1) end)
  unfolding evenly
  none_next {first} {t} N (l, F) e =
      record { at = λ u g h. either (eq_or_ne u t) (λ q. rw (q, e) (and_false (sums_even S own t cost))) (λ n. (none_below N (omega arith) F).at u g (omega arith)) }

  pub none_end : (low : ℕ) {first : ℕ} → end ≡ min low S.count → NoneEvens S own cost bound high (min first end) → EvenFound S own cost first end None
      → NoneEvens S own cost bound high (min low S.count)
  none_end low q N F = rw (← q) (none_below N (omega arith) F)

  pub found_first : {low first t : ℕ} → end ≡ min low S.count → high ≤ first → NoneEvens S own cost bound high (min first end) → EvenFound S own cost first end (Some t)
      → sums_allow S own t cost bound ≡ true → FirstEvens S own cost bound low high t
  unfolding evenly
  found_first {low} {first} {t} q g N (l, F) a =
      let (f, y) = F.some l in
      record { from = omega arith; below = omega arith; inside = omega arith; evens = rw (y, a); first = none_below N (omega arith) F }

pub placed_set : {table : List ℕ} (h t : ℕ) → Placed table → t < 16 → Placed (set table h t)
placed_set {table} h t p l =
    record {
      long = length-set table h t ∙ p.long;
      low = λ c lc.
          either (eq_or_ne c h) (λ e. rw (e, get_or-set_same table h t 0 (omega (arith, p.long))) l)
          (λ n. rw (get_or-set_other table h c t 0 n) (p.low c lc));
    }

-- what is known of a cluster where its part is one from its predecessors' to its successors'
pub around_fresh : {froms tos widths table low high : List ℕ} {marks : List Mark} {k h own lo hi : ℕ} → h < 512 → Listed froms tos widths → Seated froms tos table k h → Read table h 16 own
    → Fresh froms tos table k h low high marks → lo ≡ get_or low h 0 → hi ≡ get_or high h 0 → Around (pull_to froms tos widths table h) k own lo hi
around_fresh {froms} {tos} {widths} {table} {k = k} {h = h} l L X o F el eh =
    let ln = el ∙ F.known.low_is h l F.right in
    let hn = eh ∙ F.known.high_is h l F.right in
    record {
      inside = omega (arith, X.inside, o.is);
      after = omega (arith, X.after, o.is);
      before = omega (arith, X.before, o.is);
      at_high = λ g. rw hn (pull_high froms tos widths table h L.wide (omega arith));
      at_low = λ g. rw ln (pull_low froms tos widths table h k L.wide (omega arith));
      between = λ u a b. pull_between froms tos widths table h k u (omega arith) (omega arith);
    }

module _ (froms tos widths costs : List ℕ) (bound h : ℕ) where
  -- a cluster to which nothing is open stays
  closed_stays : {table low high : List ℕ} {marks : List Mark} (S : PartSums) → h < 512 → Known froms tos table S.count low high marks → mark_at marks h ≡ Closed
      → choice_at froms tos widths costs bound h table S ≡ get_or table h 0
  unfolding choice_at
  closed_stays {marks = marks} S l K z =
      let n : mark_at marks h ≡ Stale → ⊥ = λ e. cc in
      rw (← K.low_is h l n, ← K.high_is h l n) (closed_idle _ S _ _ bound _ _ (K.closed h l z))

  -- what is known of a cluster decides where it goes
  pub goal_fresh : {own lo hi : ℕ} {r : Target} {table low high : List ℕ} {marks : List Mark} (S : PartSums) → h < 512 → Read table h 16 own → Fresh froms tos table S.count h low high marks
      → lo ≡ get_or low h 0 → hi ≡ get_or high h 0 → Aims (pull_to froms tos widths table h) S own (get_or costs h 0) bound lo hi r
      → Goal froms tos widths costs bound h table S low high marks r
  unfolding choice_at gain_at
  goal_fresh S l o F el eh C =
      record {
        is = C.chosen.is ∙ rw (o.is, el, eh, F.known.low_is h l F.right, F.known.high_is h l F.right);
        within = C.chosen.within;
        gain_is = C.gain_is ∙ rw o.is;
        known = F.known;
      }

  -- where a cluster goes elsewhere: the sums allow it, and its mark is not Closed
  module _ {r : Target} {table low high : List ℕ} {marks : List Mark} {S : PartSums} (G : Goal froms tos widths costs bound h table S low high marks r) (n : r.part ≡ get_or table h 0 → ⊥) where
    pub goal_allowed : get_or table h 0 < 16 → bound < 2 ^ 32 → Shifts S (get_or table h 0) r.part (get_or costs h 0)
    unfolding choice_at
    goal_allowed lo lb =
        rw G.is (allowed_shifts _ _ _ _ _ (choice_allowed _ _ _ _ _ _ _ (rw G.is at n)) lo (rw G.is at G.within) lb)

    pub goal_marked : h < 512 → mark_at marks h ≡ Closed → ⊥
    goal_marked l z = n (G.is ∙ closed_stays S l G.known z)

  pub goal_paid : {r : Target} {low high : List ℕ} {marks : List Mark} (w : Work) → Goal froms tos widths costs bound h w.table w.sums low high marks r
      → Visitable froms tos widths costs bound h w → r.gain ≤ w.cut
  unfolding Paid
  goal_paid w G p = rw (G.gain_is, G.is) p.paid

  pub worked_stay : (w : Work) (t : ℕ) → t ≡ choice_at froms tos widths costs bound h w.table w.sums → t ≡ get_or w.table h 0 → w ≡ worked froms tos widths costs bound h w
  unfolding worked moved_by
  worked_stay w t e n = rw (← e, eq-eqb _ _ n)

  pub worked_move : (w : Work) (own cost t gain counted : ℕ) (S : PartSums) → own ≡ get_or w.table h 0 → cost ≡ get_or costs h 0
      → t ≡ choice_at froms tos widths costs bound h w.table w.sums → (t ≡ own → ⊥) → S ≡ shifted w.sums own t cost
      → gain ≡ gain_at froms tos widths h w.table t → counted ≡ when (ltb 0 gain) 1
      → ◌≡◌ {A = Work} (record { table = set w.table h t; sums = S; cut = w.cut - gain; moves = w.moves + counted; moved = true }) (worked froms tos widths costs bound h w)
  unfolding worked moved_by
  worked_move w own cost t gain counted S eo ec e n es eg en = rw (← e, ← eo, ← ec, ne_eqb t own n, es, en, eg)

  -- a visit that is left out
  pub done_closed : {low high : List ℕ} {marks : List Mark} (w : Work) → h < 512 → Placed w.table → Known froms tos w.table w.sums.count low high marks → mark_at marks h ≡ Closed
      → WorkDone w w 1 (worked froms tos widths costs bound h w)
  done_closed w l p K z = record { is_so = worked_stay w _ (sym (closed_stays w.sums l K z)) refl; placed = p; counts = refl; few = omega arith }

-- a loop of visits: the start, and a turn
pub done_none : (f : ℕ → Work → Work) (w : Work) → Placed w.table → WorkDone w w 0 (turns 0 f w)
done_none f w p = record { is_so = turns_zero f w; placed = p; counts = refl; few = omega arith }

pub done_turn : (f : ℕ → Work → Work) {w u v : Work} {i : ℕ} → WorkDone w u i (turns i f w) → WorkDone u v 1 (f i u) → WorkDone w v (i + 1) (turns (i + 1) f w)
done_turn f {w} a b =
    record { is_so = turns_turn f w a.is_so b.is_so; placed = b.placed; counts = b.counts ∙ a.counts; few = omega (arith, a.few, b.few) }
