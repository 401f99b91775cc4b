-- The next row: constant exactly on what is joined, onto its numbers, numbered in the order of lowest vertices.
use Prim.Native.Nat.{ℕ, suc, ◌-◌, ◌<◌, ◌≤◌}
use mathlib.Core.Path.{◌≡◌, refl, sym, ap, ◌∙◌}
use mathlib.Core.Bool.{Bool, true, false, ◌||◌}
use mathlib.Core.Logic.{◌⊎◌, inl, inr, ◌↔◌}
use mathlib.Core.List.{List}
use native.Mathlib.Omega.{arith}
use lib.Dec.{eqb, ltb}
use lib.ListN.{length, get_or}
use borrow.Author.Tests.{eqb-true, eq-eqb, ltb-true, ltb-false}
use Rattle.folds.specs.Fold.{count_to, first_to, max_to}
use Rattle.folds.proofs.Cases.{no_bool, by, either, eq_or_ne, one_of, or_l, or_r}
use Rattle.folds.proofs.Sums.{count_to_up}
use Rattle.folds.proofs.Searches.{first_to_hit, first_to_below, first_to_ext, max_ge, max_le}
use Rattle.folds.proofs.Lists.{get_d_list_to, length-list_to}
use Rattle.folds.proofs.Counts.{count_onto, count_inj, count_order}
use Rattle.graph.specs.Rows.{clusters}
use Rattle.contraction.specs.Next.{together, lowest_of, leads, numbered, joined_row}

-- each number below the count of clusters is that of some vertex
abbrev pub Onto : List ℕ → Type 0
Onto row = (c : ℕ) → c < clusters row → (v : ℕ) × (v < length row) × (get_or row v 0 ≡ c)

pub below_clusters : (row : List ℕ) (v : ℕ) → v < length row → get_or row v 0 < clusters row
unfolding clusters
below_clusters row v l = max_ge (length row) (λ i. suc (get_or row i 0)) v l

or_swap : (a b : Bool) → (a || b) ≡ (b || a)
or_swap true true = refl
or_swap true false = refl
or_swap false true = refl
or_swap false false = refl

pub together_self : (m : ℕ → ℕ) (a : ℕ) → together m a a ≡ true
unfolding together
together_self m a = or_l (eqb a a) _ (eq-eqb a a refl)

pub together_e : (m : ℕ → ℕ) (a b : ℕ) → together m a b ≡ true → (a ≡ b) ⊎ (a ≡ m b)
unfolding together
together_e m a b t = either (one_of (eqb a b) _ t) (λ e. inl (eqb-true a b e)) (λ e. inr (eqb-true a _ e))

-- the lowest vertex whose cluster is joined with c
unfoldable pub lowest : List ℕ → (ℕ → ℕ) → ℕ → ℕ
lowest row m c = first_to (length row) (λ w. together m (get_or row w 0) c)

-- the number of c's group in the next row
unfoldable pub number : List ℕ → (ℕ → ℕ) → ℕ → ℕ
number row m c = count_to (lowest row m c) (leads (lowest_of row m))

module _ (row : List ℕ) (m : ℕ → ℕ) where
  pub length_lowest : length (lowest_of row m) ≡ length row
  unfolding lowest_of
  length_lowest = length-list_to _ _

  pub length_next : length (joined_row row m) ≡ length row
  unfolding joined_row numbered
  length_next = length-list_to _ _ ∙ length_lowest

  pub lowest_at : (v : ℕ) → v < length row → get_or (lowest_of row m) v 0 ≡ lowest row m (get_or row v 0)
  unfolding lowest_of lowest
  lowest_at v l = get_d_list_to (length row) _ v l

  pub next_at : (v : ℕ) → v < length row → get_or (joined_row row m) v 0 ≡ number row m (get_or row v 0)
  unfolding joined_row numbered number
  next_at v l =
      get_d_list_to (length (lowest_of row m)) (λ i. count_to (get_or (lowest_of row m) i 0) (leads (lowest_of row m))) v (rw length_lowest l)
      ∙ ap (λ (z : ℕ). count_to z (leads (lowest_of row m))) (lowest_at v l)

  pub leads_at : (w : ℕ) → w < length row → leads (lowest_of row m) w ≡ eqb (lowest row m (get_or row w 0)) w
  unfolding leads
  leads_at w l = rw (lowest_at w l)

  pub number_at : (c v : ℕ) → lowest row m c ≡ v → number row m c ≡ count_to v (leads (lowest_of row m))
  unfolding number
  number_at c v e = rw e

  -- a vertex is no lower than the lowest of its group
  pub lowest_le : (v : ℕ) → v < length row → lowest row m (get_or row v 0) ≤ v
  unfolding lowest
  lowest_le v l =
      by (ltb v (lowest row m (get_or row v 0)))
      (λ t. absurd (no_bool (sym (first_to_below (length row) (λ w. together m (get_or row w 0) (get_or row v 0)) v (ltb-true v _ t)) ∙ together_self m (get_or row v 0))))
      (λ t. ltb-false v _ t)

  module _ (back : (x : ℕ) → m (m x) ≡ x) where
    pub lowest_mate : (c : ℕ) → lowest row m (m c) ≡ lowest row m c
    unfolding lowest together
    lowest_mate c =
        first_to_ext (length row) _ _ (λ w l. rw (back c) (or_swap (eqb (get_or row w 0) (m c)) (eqb (get_or row w 0) c)))

    pub lowest-together : (a b : ℕ) → together m a b ≡ true → lowest row m a ≡ lowest row m b
    lowest-together a b t = either (together_e m a b t) (λ e. ap (lowest row m) e) (λ e. ap (lowest row m) e ∙ lowest_mate b)

    pub lowest_hit : (c : ℕ) → lowest row m c < length row → together m (get_or row (lowest row m c) 0) c ≡ true
    unfolding lowest
    lowest_hit c h = first_to_hit (length row) _ h

    -- the lowest vertex of a cluster that has one leads
    pub lowest-leads : (c : ℕ) → lowest row m c < length row → leads (lowest_of row m) (lowest row m c) ≡ true
    unfolding leads
    lowest-leads c l = eq-eqb _ _ (lowest_at (lowest row m c) l ∙ lowest-together _ c (lowest_hit c l))

    pub leads_e : (w : ℕ) → w < length row → leads (lowest_of row m) w ≡ true → lowest row m (get_or row w 0) ≡ w
    unfolding leads
    leads_e w l t = sym (lowest_at w l) ∙ eqb-true _ _ t

    -- joined clusters have one number ..
    pub number_mate : (c : ℕ) → number row m (m c) ≡ number row m c
    unfolding number
    number_mate c = ap (λ (z : ℕ). count_to z (leads (lowest_of row m))) (lowest_mate c)

    lowest_in : (c v : ℕ) → v < length row → get_or row v 0 ≡ c → lowest row m c < length row
    lowest_in c v l e = let q : lowest row m c ≤ v = rw e at (lowest_le v l) in omega arith

    number_lowest : (a b : ℕ) → lowest row m a < length row → lowest row m b < length row → number row m a ≡ number row m b → lowest row m a ≡ lowest row m b
    unfolding number
    number_lowest a b la lb e = count_inj _ _ (leads (lowest_of row m)) (lowest-leads a la) (lowest-leads b lb) e

    hit_at : (c : ℕ) → lowest row m c < length row → (get_or row (lowest row m c) 0 ≡ c) ⊎ (get_or row (lowest row m c) 0 ≡ m c)
    hit_at c l = together_e m _ c (lowest_hit c l)

    pub lowest_apart : (a b : ℕ) → lowest row m a < length row → lowest row m b < length row → lowest row m a ≡ lowest row m b → (b ≡ a) ⊎ (b ≡ m a)
    lowest_apart a b la lb e =
        let x = get_or row (lowest row m a) 0 in
        let y : get_or row (lowest row m b) 0 ≡ x = ap (λ (z : ℕ). get_or row z 0) (sym e) in
        either (hit_at a la)
        (λ p. either (hit_at b lb) (λ q. inl (sym q ∙ y ∙ p)) (λ q. inr (sym (back b) ∙ ap (m) (sym q ∙ y ∙ p))))
        (λ p. either (hit_at b lb) (λ q. inr (sym q ∙ y ∙ p)) (λ q. inl (sym (back b) ∙ ap (m) (sym q ∙ y ∙ p) ∙ back a)))

    -- .. and only those
    pub number_apart : (a b v w : ℕ) → v < length row → w < length row → get_or row v 0 ≡ a → get_or row w 0 ≡ b
        → number row m a ≡ number row m b → (b ≡ a) ⊎ (b ≡ m a)
    number_apart a b v w lv lw ea eb e =
        let la = lowest_in a v lv ea in
        let lb = lowest_in b w lw eb in
        lowest_apart a b la lb (number_lowest a b la lb e)

    -- THE NEXT ROW joins two vertices exactly where their clusters are one or a pair
    pub next_joins : (v w : ℕ) → v < length row → w < length row
        → (get_or (joined_row row m) v 0 ≡ get_or (joined_row row m) w 0) ↔ (together m (get_or row w 0) (get_or row v 0) ≡ true)
    unfolding together
    next_joins v w lv lw = (
      (λ e. either (number_apart _ _ v w lv lw refl refl (sym (next_at v lv) ∙ e ∙ next_at w lw))
          (λ q. or_l (eqb (get_or row w 0) (get_or row v 0)) _ (eq-eqb _ _ q)) (λ q. or_r (eqb (get_or row w 0) (get_or row v 0)) _ (eq-eqb _ _ q))),
      (λ t. next_at v lv ∙ sym (either (together_e m (get_or row w 0) (get_or row v 0) t) (λ q. ap (number row m) q) (λ q. ap (number row m) q ∙ number_mate (get_or row v 0))) ∙ sym (next_at w lw)),
    )

    -- its numbers come in the order of the groups' lowest vertices
    pub next_order : (v w : ℕ) → v < length row → w < length row
        → (get_or (joined_row row m) v 0 < get_or (joined_row row m) w 0) ↔ (get_or (lowest_of row m) v 0 < get_or (lowest_of row m) w 0)
    unfolding number
    next_order v w lv lw =
        rw (next_at v lv, next_at w lw, lowest_at v lv, lowest_at w lw)
        (count_order _ _ (leads (lowest_of row m)), λ h. count_to_up _ _ (leads (lowest_of row m)) h (lowest-leads _ (lowest_in _ v lv refl)))

    -- how many numbers there are
    pub next_clusters : clusters (joined_row row m) ≡ count_to (length row) (leads (lowest_of row m))
    unfolding clusters number
    next_clusters = rw length_next (at_least (eq_or_ne total 0))
      where
        total : ℕ
        total = count_to (length row) (leads (lowest_of row m))

        most : max_to (length row) (λ v. suc (get_or (joined_row row m) v 0)) ≤ total
        most = max_le (length row) total _ (λ v l. rw (next_at v l) (count_to_up _ (length row) (leads (lowest_of row m)) (lowest_in _ v l refl) (lowest-leads _ (lowest_in _ v l refl))))

        at_least : (total ≡ 0) ⊎ (total ≡ 0 → ⊥) → max_to (length row) (λ v. suc (get_or (joined_row row m) v 0)) ≡ total
        at_least (inl z) = omega (arith, most)
        at_least (inr n) =
            let (w, l, t, e) = count_onto (length row) (leads (lowest_of row m)) (total - 1) (omega arith) in
            let q : get_or (joined_row row m) w 0 ≡ total - 1 = next_at w l ∙ ap (λ (z : ℕ). count_to z (leads (lowest_of row m))) (leads_e w l t) ∙ e in
            omega (arith, most, max_ge (length row) (λ v. suc (get_or (joined_row row m) v 0)) w l)

    -- each number is that of some vertex
    pub next_onto : Onto (joined_row row m)
    unfolding number
    next_onto c h =
        let (w, l, t, e) = count_onto (length row) (leads (lowest_of row m)) c (rw next_clusters at h) in
        (w, rw length_next l, next_at w l ∙ ap (λ (z : ℕ). count_to z (leads (lowest_of row m))) (leads_e w l t) ∙ e)
