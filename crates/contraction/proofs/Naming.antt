-- The loop that numbers the groups: a cluster has its number once the lowest vertex of its group is passed.
use Prim.Native.Nat.{ℕ, suc, ◌+◌, ◌≤◌, ◌<◌}
use mathlib.Core.Path.{◌≡◌, refl, sym, ap, ◌∙◌}
use mathlib.Core.Bool.{Bool, true, false}
use mathlib.Core.List.{List}
use native.Mathlib.Omega.{arith}
use lib.Dec.{eqb, ltb}
use lib.ListN.{length, get_or, set, length-set}
use lib.Seq.{get_or-set_same, get_or-set_other}
use borrow.Author.Tests.{eq-eqb, ne_eqb, ltb-true, ltb-false, lt-ltb, le-ltb}
use Rattle.folds.specs.Fold.{when, count_to, list_to, over, zeros, Filled}
use Rattle.folds.proofs.Cases.{by, either, eq_or_ne}
use Rattle.folds.proofs.Sums.{sum_to_zero, count_to_step, count_to_le}
use Rattle.folds.proofs.Lists.{get_d_zeros, length-zeros, listed}
use Rattle.folds.proofs.Slices.{filled_end}
use Rattle.contraction.specs.Next.{leads, lowest_of, joined_row}
use Rattle.contraction.specs.Promises.{mate_in, Mated, Short, NamesGiven, Joined, Renamed}
use Rattle.contraction.proofs.Next.{lowest, number, length_next, next_at, lowest_le, leads_at, number_at, lowest-together, lowest_hit, lowest_mate, lowest_apart, number_mate, next_clusters}

-- after the first v vertices
pub record Numbering (row : List ℕ) (m : ℕ → ℕ) (v : ℕ) (names : List ℕ) (count : ℕ) : Type 0 where
  pub tall : length names ≡ 512
  pub counts : count ≡ count_to v (leads (lowest_of row m))
  pub is : (c : ℕ) → c < 512 → get_or names c 0 ≡ when (ltb (lowest row m c) v) (suc (number row m c))

pub numbering_none : (row : List ℕ) (m : ℕ → ℕ) → Numbering row m 0 (zeros 512) 0
unfolding count_to zeros
numbering_none row m = record { tall = refl; counts = sym (sum_to_zero _); is = λ c l. get_d_zeros 512 c ∙ rw (le-ltb (lowest row m c) 0 (omega arith)) }

pub numbering_low : {row : List ℕ} {m : ℕ → ℕ} {v count : ℕ} {names : List ℕ} → Numbering row m v names count → count ≤ v
numbering_low {row} {m} {v} N = omega (arith, N.counts, count_to_le v (leads (lowest_of row m)))

-- c has no number yet: it and its mate d get the next one
pub named_new : {mates names : List ℕ} {c d count : ℕ} → d ≡ get_or mates c 0 → get_or names c 0 ≡ 0 → NamesGiven mates c count names (set (set names c (count + 1)) d (count + 1)) (count + 1)
named_new {mates} {names} {c} e z = let t = eq-eqb (get_or names c 0) 0 z in rw e (record { names_are = rw t; count_is = rw t })

mate_at : {mates : List ℕ} {c : ℕ} → Mated mates → c < 512 → mate_in mates c ≡ get_or mates c 0
unfolding mate_in
mate_at {mates} {c} M l = rw (lt-ltb c (length mates) (omega (arith, M.tall)))

module _ (row mates : List ℕ) (S : Short row) (M : Mated mates) where
  abbrev m : ℕ → ℕ
  m c = mate_in mates c

  pub numbering_turn : {v count r : ℕ} {names names' : List ℕ} → v < length row → Numbering row m v names count
      → NamesGiven mates (get_or row v 0) count names names' r → Numbering row m (v + 1) names' r
  numbering_turn {v} {count} {r} {names} {names'} l N W =
      either (eq_or_ne (lowest row m c) v) fresh seen
    where
      c : ℕ
      c = get_or row v 0

      lc : c < 512
      lc = S.low v l

      -- another group does not begin at v, unless c's does
      not_here : (lowest row m c ≡ v → ⊥) → (d : ℕ) → lowest row m d ≡ v → ⊥
      not_here n d e = n (lowest-together row m M.back c d (rw e at (lowest_hit row m M.back d (omega arith))) ∙ e)

      passed : (d : ℕ) → (lowest row m d ≡ v → ⊥) → ltb (lowest row m d) (v + 1) ≡ ltb (lowest row m d) v
      passed d n =
          by (ltb (lowest row m d) v) (λ t. lt-ltb (lowest row m d) (v + 1) (omega (arith, ltb-true (lowest row m d) v t)) ∙ sym t)
          (λ t. le-ltb (lowest row m d) (v + 1) (omega (arith, ltb-false (lowest row m d) v t)) ∙ sym t)

      lead_is : leads (lowest_of row m) v ≡ eqb (lowest row m c) v
      lead_is = leads_at row m v l

      seen : (lowest row m c ≡ v → ⊥) → Numbering row m (v + 1) names' r
      seen n =
          let t : ltb (lowest row m c) v ≡ true = lt-ltb (lowest row m c) v (omega (arith, lowest_le row m v l)) in
          let z : eqb (get_or names c 0) 0 ≡ false = ne_eqb (get_or names c 0) 0 (λ q. let e = rw t at (N.is c lc) in omega arith) in
          let en : names' ≡ names = rw z at W.names_are in
          let ec : r ≡ count = rw z at W.count_is in
          rw (en, ec)
          (record {
            tall = N.tall;
            counts = N.counts ∙ sym (count_to_step v (leads (lowest_of row m)) ∙ rw (lead_is, ne_eqb (lowest row m c) v n) (omega arith));
            is = λ d ld. N.is d ld ∙ ap (λ (b : Bool). when b (suc (number row m d))) (sym (passed d (not_here n d)));
          })

      fresh : lowest row m c ≡ v → Numbering row m (v + 1) names' r
      fresh e =
          let t : ltb (lowest row m c) v ≡ false = le-ltb (lowest row m c) v (omega arith) in
          let z : eqb (get_or names c 0) 0 ≡ true = eq-eqb (get_or names c 0) 0 (N.is c lc ∙ rw t) in
          let en : names' ≡ set (set names c (count + 1)) (get_or mates c 0) (count + 1) = rw z at W.names_are in
          let ec : r ≡ count + 1 = rw z at W.count_is in
          rw (en, ec)
          (record {
            tall = length-set (set names c (count + 1)) (get_or mates c 0) (count + 1) ∙ length-set names c (count + 1) ∙ N.tall;
            counts = sym (count_to_step v (leads (lowest_of row m)) ∙ rw (lead_is, eq-eqb (lowest row m c) v e) (omega (arith, N.counts)));
            is = λ d ld. entry d ld;
          })
        where
          x : ℕ
          x = count + 1

          number_c : x ≡ suc (number row m c)
          number_c = omega (arith, N.counts, number_at row m c v e)

          now_passed : (d : ℕ) → lowest row m d ≡ v → ltb (lowest row m d) (v + 1) ≡ true
          now_passed d q = lt-ltb (lowest row m d) (v + 1) (omega arith)

          entry : (d : ℕ) → d < 512 → get_or (set (set names c x) (get_or mates c 0) x) d 0 ≡ when (ltb (lowest row m d) (v + 1)) (suc (number row m d))
          entry d ld =
              either (eq_or_ne d (get_or mates c 0))
              (λ q.
              let mc : d ≡ m c = q ∙ sym (mate_at M lc) in
              let low : lowest row m d ≡ v = ap (lowest row m) mc ∙ lowest_mate row m M.back c ∙ e in
              let num : number row m d ≡ number row m c = ap (number row m) mc ∙ number_mate row m M.back c in
              rw (now_passed d low, num, q, get_or-set_same (set names c x) (get_or mates c 0) x 0 (rw (length-set names c x, N.tall) (M.low c lc))) number_c)
              (λ nq. get_or-set_other (set names c x) (get_or mates c 0) d x 0 nq
              ∙ either (eq_or_ne d c)
              (λ q. rw (q, now_passed c e, get_or-set_same names c x 0 (rw N.tall lc)) number_c)
              (λ nc. get_or-set_other names c d x 0 nc ∙ N.is d ld
              ∙ ap (λ (b : Bool). when b (suc (number row m d)))
              (sym (passed d (λ q. either (lowest_apart row m M.back c d (omega arith) (omega arith) (e ∙ sym q)) nc (λ k. nq (k ∙ mate_at M lc)))))))

  -- the same at the code's cluster, and what is then written for v
  pub name_turn : {v c count r : ℕ} {names names' : List ℕ} → v < length row → c ≡ get_or row v 0 → Numbering row m v names count
      → NamesGiven mates c count names names' r → Numbering row m (v + 1) names' r
  name_turn l k N W = numbering_turn l N (rw k at W)

  pub name_at : {v c count : ℕ} {names : List ℕ} → v < length row → c ≡ get_or row v 0 → Numbering row m (v + 1) names count → get_or names c 0 ≡ suc (number row m (get_or row v 0))
  name_at {v} l k N = rw k (N.is (get_or row v 0) (S.low v l) ∙ rw (lt-ltb (lowest row m (get_or row v 0)) (v + 1) (omega (arith, lowest_le row m v l))))

  pub cluster_low : {v c : ℕ} → v < length row → c ≡ get_or row v 0 → c < 512
  cluster_low l k = rw k (S.low _ l)

  pub joined_end : {v count : ℕ} {names out₀ out : List ℕ} → v ≤ length row → length row ≤ v → Numbering row m v names count
      → Filled out₀ out v (λ w. number row m (get_or row w 0)) → Joined row m out₀ out count
  joined_end {v} {count} {names} {out₀} {out} l g N F =
      let e : v ≡ length row = omega arith in
      let q : joined_row row m ≡ list_to v (λ w. number row m (get_or row w 0)) =
      listed (joined_row row m) v (λ w. number row m (get_or row w 0)) (length_next row m ∙ sym e) (λ w lw. next_at row m w (omega arith)) in
      record {
        count_is = N.counts ∙ ap (λ (z : ℕ). count_to z (leads (lowest_of row m))) e ∙ sym (next_clusters row m M.back);
        row_is = filled_end F ∙ ap (λ (z : List ℕ). over z out₀) (sym q);
      }

-- the clusters of the first v vertices have their new numbers in map
pub record Mapped (row : List ℕ) (f : ℕ → ℕ) (v : ℕ) (map : List ℕ) : Type 0 where
  pub tall : length map ≡ 512
  pub is : (w : ℕ) → w < v → get_or map (get_or row w 0) 0 ≡ f (get_or row w 0)

pub mapped_none : (row : List ℕ) (f : ℕ → ℕ) → Mapped row f 0 (zeros 512)
mapped_none row f = record { tall = length-zeros 512; is = λ w l. absurd (omega arith) }

pub mapped_turn : {row map : List ℕ} {f : ℕ → ℕ} {v c x : ℕ} → Mapped row f v map → c ≡ get_or row v 0 → c < 512 → x ≡ f (get_or row v 0) → Mapped row f (v + 1) (set map c x)
mapped_turn {row} {map} {f} {v} {c} {x} M k l e =
    record {
      tall = length-set map c x ∙ M.tall;
      is = λ w lw. either (eq_or_ne (get_or row w 0) c)
          (λ q. rw (q, get_or-set_same map c x 0 (omega (arith, M.tall))) (e ∙ ap f (sym k)))
          (λ n. get_or-set_other map c (get_or row w 0) x 0 n ∙ M.is w (omega (arith, at_other w lw n)));
    }
  where
    at_other : (w : ℕ) → w < v + 1 → (get_or row w 0 ≡ c → ⊥) → w < v
    at_other w lw n = either (eq_or_ne w v) (λ q. absurd (n (ap (λ (z : ℕ). get_or row z 0) q ∙ sym k))) (λ q. omega arith)

pub renamed_end : {row map : List ℕ} (m : ℕ → ℕ) {v : ℕ} → length row ≤ v → Mapped row (number row m) v map → Renamed row (joined_row row m) map
renamed_end {row} {map} m l M = record { tall = M.tall; is = λ w lw. M.is w (omega arith) ∙ sym (next_at row m w lw) }
