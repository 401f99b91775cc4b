-- Joining the edges of one cluster: what each turn of the loops keeps.
use Prim.Native.Nat.{ℕ, ◌+◌, ◌≤◌, ◌<◌}
use mathlib.Core.Path.{◌≡◌, refl, sym, ap, ◌∙◌}
use mathlib.Core.Bool.{Bool, false, not, ◌&&◌}
use mathlib.Core.List.{List}
use native.Mathlib.Omega.{arith}
use lib.Dec.{eqb, ltb, leb}
use lib.ListN.{length, get_or, set, length-set}
use lib.Seq.{get_or-set_same, get_or-set_other, ext_get_or}
use borrow.Author.Tests.{eqb-true, eq-eqb, ne_eqb, ltb-true, ltb-false, lt-ltb, le-ltb, le-leb, lt-leb}
use Rattle.folds.specs.Fold.{when, sum_to, zeros, most_width}
use Rattle.folds.proofs.Cases.{by, either, eq_or_ne, when_zero, when_le}
use Rattle.folds.proofs.Sums.{sum_to_zero, sum_to_step, sum_to_mono, sum_to_less, sum_to_ext, sum_to_none, sum_to_add, sum_to_le}
use Rattle.folds.proofs.Lists.{get_d_zeros, length-zeros, set_add}
use Rattle.graph.specs.Graph.{Arcs, crossing, Inside}
use Rattle.graph.specs.Links.{Linked, leave}
use Rattle.graph.specs.Coarse.{sent, Narrow}
use Rattle.graph.proofs.Links.{leave_from, stays, On, Only, sum_on, sum_next}
use Rattle.joined_edges.specs.Joining.{between, pair_sum, Widths, ListedUpTo, Written, Writing, Put}

module _ (A : Arcs) (widths : List ℕ) (u : ℕ) where
  -- an edge that leaves u counts in full
  cross_width : (j : ℕ) → leave A j ≡ u → u < 512 → crossing A widths j ≡ get_or widths j 0
  unfolding crossing leave
  cross_width j e l = by (eqb (A.from j) (A.to j)) (λ t. let z : 512 ≡ u = rw t at e in absurd (omega arith)) (λ t. rw t)

  inner : (i : ℕ) → (leave A i ≡ u → ⊥) → A.from i ≡ u → crossing A widths i ≡ 0
  unfolding crossing
  inner i n e = rw (eq-eqb (A.from i) (A.to i) (e ∙ sym (stays A i n e)))

  sent_only : (b : ℕ) → Only (leave A) u (sent A widths u b)
  unfolding sent
  sent_only b i n = either (eq_or_ne (A.from i) u) (λ e. rw (inner i n e) (when_zero (eqb (A.from i) u && eqb (A.to i) b))) (λ o. rw (ne_eqb (A.from i) u o))

  sent_at : (j b c : ℕ) → leave A j ≡ u → u < 512 → c ≡ A.to j → when (eqb c b) (get_or widths j 0) ≡ sent A widths u b j
  unfolding sent
  sent_at j b c e l ec = rw (ec, cross_width j e l, eq-eqb (A.from j) u (leave_from A j e l))

  sent_le : (b j : ℕ) → sent A widths u b j ≤ get_or widths j 0
  unfolding sent crossing
  sent_le b j =
      omega (arith, when_le (eqb (A.from j) u && eqb (A.to j) b) (when (not (eqb (A.from j) (A.to j))) (get_or widths j 0)), when_le (not (eqb (A.from j) (A.to j))) (get_or widths j 0))

  -- the sums stay below the sum of all widths
  pub sums_room : {j b : ℕ} {sums : List ℕ} → Widths A widths u j sums → b < 512 → j < length widths → Narrow widths → get_or sums b 0 + get_or widths j 0 ≤ most_width
  sums_room {j} {b} W l lj N =
      omega (arith, W.is b l, sum_to_mono j (sent A widths u b) (λ i. get_or widths i 0) (λ i _. sent_le b i), sum_to_step j (λ i. get_or widths i 0), sum_to_less (λ i. get_or widths i 0) (j + 1) (length widths) (omega arith))

  module _ {m : ℕ} {head next : List ℕ} (L : Linked (leave A) m head next) (lu : u < 512) where
    pub widths_none : {sums : List ℕ} → sums ≡ zeros 512 → Widths A widths u (get_or head u 0) sums
    unfolding zeros
    widths_none {sums} e = rw e (record { tall = refl; is = λ b lb. get_d_zeros 512 b ∙ sum_on L u (sent A widths u b) (sent_only b) lu })

    pub widths_turn : {j b : ℕ} {sums : List ℕ} → On (leave A) m u j → j < m → b ≡ A.to j → b < 512
        → Widths A widths u j sums → Widths A widths u (get_or next j 0) (set sums b (get_or sums b 0 + get_or widths j 0))
    widths_turn {j} {b} {sums} o l eb lb W =
        record {
          tall = length-set sums b (get_or sums b 0 + get_or widths j 0) ∙ W.tall;
          is = λ d ld. set_add sums b (get_or widths j 0) d (omega (arith, W.tall)) ∙ sum_next L u j _ _ (sent A widths u d) (sent_only d) o l (W.is d ld) (sent_at j d b (o.at l) lu eb);
        }

-- one more is listed
pub pair_more : (froms tos ws : List ℕ) (k u b w a d : ℕ) → k < length froms → k < length tos → k < length ws
    → pair_sum (set froms k u) (set tos k b) (set ws k w) (k + 1) a d ≡ pair_sum froms tos ws k a d + when (eqb u a && eqb b d) w
unfolding pair_sum
pair_more froms tos ws k u b w a d lf lt lw =
    let old : sum_to k (λ i. when (eqb (get_or (set froms k u) i 0) a && eqb (get_or (set tos k b) i 0) d) (get_or (set ws k w) i 0)) ≡ sum_to k (λ i. when (eqb (get_or froms i 0) a && eqb (get_or tos i 0) d) (get_or ws i 0)) =
    sum_to_ext k _ _ (λ i l. rw (get_or-set_other froms k i u 0 (λ e. omega arith), get_or-set_other tos k i b 0 (λ e. omega arith), get_or-set_other ws k i w 0 (λ e. omega arith))) in
    rw (sum_to_step k (λ i. when (eqb (get_or (set froms k u) i 0) a && eqb (get_or (set tos k b) i 0) d) (get_or (set ws k w) i 0)), old, get_or-set_same froms k u 0 lf, get_or-set_same tos k b 0 lt, get_or-set_same ws k w 0 lw)

-- a list with one entry more, at what is listed
at_or : (l : List ℕ) (k x : ℕ) {i : ℕ} (P : ℕ → Type 0) → k < length l → i < k + 1 → (i < k → P (get_or l i 0)) → (i ≡ k → P x) → P (get_or (set l k x) i 0)
at_or l k x {i} P lk li old new =
    either (eq_or_ne i k) (λ e. rw (e, get_or-set_same l k x 0 lk) (new e)) (λ n. rw (get_or-set_other l k i x 0 n) (old (omega arith)))

module _ {g u k b w : ℕ} {froms tos ws : List ℕ} (L : ListedUpTo g (u + 1) k froms tos ws) (lk : k < 1024) (lb : b < g) (n : u ≡ b → ⊥) (lw : 0 < w)
    (new : (i : ℕ) → i < k → get_or froms i 0 ≡ u → get_or tos i 0 ≡ b → ⊥) where
  kf : k < length froms
  kf = omega (arith, L.tall_from)

  kt : k < length tos
  kt = omega (arith, L.tall_to)

  kw : k < length ws
  kw = omega (arith, L.tall_width)

  old_f : (i : ℕ) → (i ≡ k → ⊥) → get_or (set froms k u) i 0 ≡ get_or froms i 0
  old_f i e = get_or-set_other froms k i u 0 e

  old_t : (i : ℕ) → (i ≡ k → ⊥) → get_or (set tos k b) i 0 ≡ get_or tos i 0
  old_t i e = get_or-set_other tos k i b 0 e

  listed_more : ListedUpTo g (u + 1) (k + 1) (set froms k u) (set tos k b) (set ws k w)
  listed_more =
      record {
        tall_from = length-set froms k u ∙ L.tall_from;
        tall_to = length-set tos k b ∙ L.tall_to;
        tall_width = length-set ws k w ∙ L.tall_width;
        from_in = λ i l. at_or froms k u (λ z. z < u + 1) kf l (λ h. L.from_in i h) (λ _. omega arith);
        to_in = λ i l. at_or tos k b (λ z. z < g) kt l (λ h. L.to_in i h) (λ _. lb);
        apart = λ i l. either (eq_or_ne i k)
            (λ e. rw (e, get_or-set_same froms k u 0 kf, get_or-set_same tos k b 0 kt) n)
            (λ e. rw (old_f i e, old_t i e) (L.apart i (omega arith)));
        wide = λ i l. at_or ws k w (λ z. 0 < z) kw l (λ h. L.wide i h) (λ _. lw);
        once = λ i j l h. either (eq_or_ne j k)
            (λ e. rw (e, get_or-set_same froms k u 0 kf, get_or-set_same tos k b 0 kt, old_f i (λ z. omega arith), old_t i (λ z. omega arith)) (new i (omega arith)))
            (λ e. rw (old_f i (λ z. omega arith), old_t i (λ z. omega arith), old_f j e, old_t j e) (L.once i j l (omega arith)));
      }

module _ (A : Arcs) (widths : List ℕ) (g u : ℕ) {head next : List ℕ} (L : Linked (leave A) A.count head next) (lu : u < 512) where
  leaving_only : Only (leave A) u (λ i. when (eqb (leave A i) u) 1)
  leaving_only i n = rw (ne_eqb (leave A i) u n)

  -- the edges that leave u, and those that leave a lower one
  one_more : (x : ℕ) → when (ltb x u) 1 + when (eqb x u) 1 ≡ when (ltb x (u + 1)) 1
  one_more x =
      either (eq_or_ne x u) (λ e. rw (e, le-ltb u u (omega arith), eq-eqb u u refl, lt-ltb u (u + 1) (omega arith)))
      (λ n. rw (ne_eqb x u n) (by (ltb x u) (λ t. rw (t, lt-ltb x (u + 1) (omega (arith, ltb-true x u t)))) (λ t. rw (t, le-ltb x (u + 1) (omega (arith, ltb-false x u t))))))

  both_counts : sum_to A.count (λ i. when (ltb (leave A i) u) 1) + sum_to A.count (λ i. when (eqb (leave A i) u) 1) ≡ sum_to A.count (λ i. when (ltb (leave A i) (u + 1)) 1)
  both_counts =
      sym (sum_to_add A.count (λ i. when (ltb (leave A i) u) 1) (λ i. when (eqb (leave A i) u) 1))
      ∙ sum_to_ext A.count _ _ (λ i _. one_more (leave A i))

  counted : {j : ℕ} → On (leave A) A.count u j → j < A.count → sum_to j (λ i. when (eqb (leave A i) u) 1) + 1 ≡ sum_to (get_or next j 0) (λ i. when (eqb (leave A i) u) 1)
  counted {j} o l = sum_next L u j _ 1 (λ i. when (eqb (leave A i) u) 1) leaving_only o l refl (rw (eq-eqb (leave A j) u (o.at l)))

  -- no more edges are listed than were read
  pub writing_room : {j k : ℕ} {sums froms tos ws : List ℕ} → On (leave A) A.count u j → j < A.count → A.count ≤ 1024 → Writing A widths g u j k sums froms tos ws → k < 1024
  writing_room {j} o l h W =
      omega (arith, W.few, counted o l, both_counts, sum_to_less (λ i. when (eqb (leave A i) u) 1) (get_or next j 0) A.count (L.nexts j l).within, sum_to_le A.count 1 (λ i. when (ltb (leave A i) (u + 1)) 1) (λ i. when_le (ltb (leave A i) (u + 1)) 1))

  leb_is : (a : ℕ) → leb a u ≡ ltb a (u + 1)
  leb_is a = by (ltb a (u + 1)) (λ t. le-leb a u (omega (arith, ltb-true a (u + 1) t)) ∙ sym t) (λ t. lt-leb a u (omega (arith, ltb-false a (u + 1) t)) ∙ sym t)

  -- no edge from the first of u on goes to b
  unsent : (b : ℕ) → ((i : ℕ) → get_or head u 0 ≤ i → i < A.count → leave A i ≡ u → A.to i ≡ b → ⊥) → (j : ℕ) → j < A.count → sent A widths u b j ≡ 0
  unfolding sent
  unsent b n j lj =
      either (eq_or_ne (leave A j) u)
      (λ e. either (eq_or_ne (A.to j) b)
      (λ q. by (ltb j (get_or head u 0))
      (λ t. absurd ((L.heads u lu).skips j (omega arith) (ltb-true j _ t) e))
      (λ t. absurd (n j (ltb-false j _ t) lj e q)))
      (λ q. rw (eq-eqb (A.from j) u (leave_from A j e lu), ne_eqb (A.to j) b q)))
      (λ e. sent_only A widths u b j e)

  leaves_other : (j : ℕ) → leave A j ≡ u → A.from j ≡ A.to j → ⊥
  unfolding leave
  leaves_other j q z = let y : 512 ≡ u = rw (eq-eqb (A.from j) (A.to j) z) at q in omega arith

  -- all sums are there, and nothing of u is listed
  pub writing_none : {k : ℕ} {sums froms tos ws : List ℕ} → Written A widths g u k froms tos ws → Widths A widths u A.count sums
      → Writing A widths g u (get_or head u 0) k sums froms tos ws
  unfolding between
  writing_none {k} {sums} {froms} {tos} {ws} R W =
      record {
        listed = record {
          tall_from = R.listed.tall_from;
          tall_to = R.listed.tall_to;
          tall_width = R.listed.tall_width;
          from_in = λ i l. omega (arith, R.listed.from_in i l);
          to_in = R.listed.to_in;
          apart = R.listed.apart;
          wide = R.listed.wide;
          once = R.listed.once;
        };
        tall = W.tall;
        few = omega (arith, R.few);
        spent = λ i l e. absurd (omega (arith, R.listed.from_in i l));
        done = λ b lb n. W.is b lb ∙ sum_to_none A.count (sent A widths u b) (λ j lj. unsent b n j lj);
        is = λ a b lb. either (eq_or_ne a u)
            (λ e. rw (R.is a b lb, e, eq-eqb u u refl, le-ltb u u (omega arith), le-leb u u (omega arith)) (omega (arith, W.is b lb)))
            (λ n. rw (R.is a b lb, ne_eqb a u n) (by (ltb a u)
            (λ t. rw (t, le-leb a u (omega (arith, ltb-true a u t))) (omega arith))
            (λ t. rw (t, lt-leb a u (omega (arith, ltb-false a u t))))));
      }

  pub writing_turn : {j b k r : ℕ} {sums froms tos ws sums' froms' tos' ws' : List ℕ} → Inside A g → On (leave A) A.count u j → j < A.count → b ≡ A.to j → b < 512
      → k < 1024 → Put u b k sums froms tos ws sums' froms' tos' ws' r → Writing A widths g u j k sums froms tos ws
      → Writing A widths g u (get_or next j 0) r sums' froms' tos' ws'
  writing_turn {j} {b} {k} {r} {sums} {froms} {tos} {ws} I o l eb lb lk P W =
      by (eqb (get_or sums b 0) 0)
      (λ t.
      let z = eqb-true (get_or sums b 0) 0 t in
      rw (P.sums_are, P.froms_are, P.tos_are, P.ws_are, P.count_is, t)
      (record {
        listed = W.listed;
        tall = length-set sums b 0 ∙ W.tall;
        few = omega (arith, W.few, counted o l);
        spent = λ i li e. cleared (get_or tos i 0) (λ _. W.spent i li e);
        done = done;
        is = λ a d ld. rw (same z d) (W.is a d ld);
      }))
      (λ t.
      let lw : 0 < get_or sums b 0 = positive t in
      let K = listed_more {g = g} {u = u} {k = k} {b = b} {w = get_or sums b 0} W.listed lk (rw eb (I j l).1) apart lw (λ i li e q. omega (arith, W.spent i li e, ap (λ (x : ℕ). get_or sums x 0) q)) in
      rw (P.sums_are, P.froms_are, P.tos_are, P.ws_are, P.count_is, t)
      (record {
        listed = K;
        tall = length-set sums b 0 ∙ W.tall;
        few = omega (arith, W.few, counted o l);
        spent = λ i li. either (eq_or_ne i k)
            (λ e. rw (e, get_or-set_same tos k b 0 (omega (arith, W.listed.tall_to)), get_or-set_same sums b 0 0 room) (λ _. refl))
            (λ e. rw (get_or-set_other froms k i u 0 e, get_or-set_other tos k i b 0 e) (λ q. cleared (get_or tos i 0) (λ _. W.spent i (omega arith) q)));
        done = done;
        is = λ a d ld. rw (pair_more froms tos ws k u b (get_or sums b 0) a d (omega (arith, W.listed.tall_from)) (omega (arith, W.listed.tall_to)) (omega (arith, W.listed.tall_width)))
            (shift a d ∙ W.is a d ld);
      }))
    where
      room : b < length sums
      room = omega (arith, W.tall)

      near : A.from j ≡ u
      near = leave_from A j (o.at l) lu

      apart : u ≡ b → ⊥
      apart e = leaves_other j (o.at l) (near ∙ e ∙ eb)

      positive : eqb (get_or sums b 0) 0 ≡ false → 0 < get_or sums b 0
      positive t = either (eq_or_ne (get_or sums b 0) 0) (λ e. absurd (omega (arith, ap (λ (x : Bool). when x 1) (sym t ∙ eq-eqb (get_or sums b 0) 0 e)))) (λ n. omega arith)

      cleared : (d : ℕ) → ((d ≡ b → ⊥) → get_or sums d 0 ≡ 0) → get_or (set sums b 0) d 0 ≡ 0
      cleared d h = either (eq_or_ne d b) (λ e. rw e (get_or-set_same sums b 0 0 room)) (λ n. get_or-set_other sums b d 0 0 n ∙ h n)

      done : (d : ℕ) → d < 512 → ((i : ℕ) → get_or next j 0 ≤ i → i < A.count → leave A i ≡ u → A.to i ≡ d → ⊥) → get_or (set sums b 0) d 0 ≡ 0
      done d ld n =
          cleared d (λ ne. W.done d ld (λ i li h e q.
          either (eq_or_ne i j) (λ z. ne (sym q ∙ ap A.to z ∙ sym eb))
          (λ z. by (ltb i (get_or next j 0)) (λ t. (L.nexts j l).skips i (omega arith) (ltb-true i _ t) (e ∙ sym (o.at l))) (λ t. n i (ltb-false i _ t) h e q))))

      same : get_or sums b 0 ≡ 0 → (d : ℕ) → get_or (set sums b 0) d 0 ≡ get_or sums d 0
      same z d = either (eq_or_ne d b) (λ e. rw e (get_or-set_same sums b 0 0 room ∙ sym z)) (λ n. get_or-set_other sums b d 0 0 n)

      -- what goes to the list goes from the sums
      shift : (a d : ℕ) → pair_sum froms tos ws k a d + when (eqb u a && eqb b d) (get_or sums b 0) + when (eqb a u) (get_or (set sums b 0) d 0) ≡ pair_sum froms tos ws k a d + when (eqb a u) (get_or sums d 0)
      shift a d =
          either (eq_or_ne a u)
          (λ e. either (eq_or_ne d b)
          (λ q. rw (e, q, eq-eqb u u refl, eq-eqb b b refl, get_or-set_same sums b 0 0 room) (omega arith))
          (λ q. rw (e, eq-eqb u u refl, ne_eqb b d (λ z. q (sym z)), get_or-set_other sums b d 0 0 q) (omega arith)))
          (λ n. rw (ne_eqb a u n, ne_eqb u a (λ z. n (sym z))) (omega arith))

  pub writing_end : {j k : ℕ} {sums froms tos ws : List ℕ} → A.count ≤ j → j ≤ A.count → Writing A widths g u j k sums froms tos ws
      → Written A widths g (u + 1) k froms tos ws × (sums ≡ zeros 512)
  writing_end {j} {k} {sums} lj hj W = (
    record {
      listed = W.listed;
      few = omega (arith, W.few, both_counts, ap (λ (z : ℕ). sum_to z (λ i. when (eqb (leave A i) u) 1)) (let e : j ≡ A.count = omega arith in e));
      is = λ a b lb. let h = rw (none b lb, when_zero (eqb a u), leb_is a) at (W.is a b lb) in omega arith;
    },
    ext_get_or 0 sums (zeros 512) (W.tall ∙ sym (length-zeros 512)) (λ b lb. none b (omega (arith, W.tall)) ∙ sym (get_d_zeros 512 b)),
  )
    where
      none : (b : ℕ) → b < 512 → get_or sums b 0 ≡ 0
      none b lb = W.done b lb (λ i li h e q. omega arith)

-- nothing is listed yet
pub written_none : (A : Arcs) (widths : List ℕ) (g : ℕ) {froms tos ws : List ℕ} → length froms ≡ 1024 → length tos ≡ 1024 → length ws ≡ 1024 → Written A widths g 0 0 froms tos ws
unfolding pair_sum
written_none A widths g lf lt lw =
    record {
      listed = record {
        tall_from = lf;
        tall_to = lt;
        tall_width = lw;
        from_in = λ i l. absurd (omega arith);
        to_in = λ i l. absurd (omega arith);
        apart = λ i l. absurd (omega arith);
        wide = λ i l. absurd (omega arith);
        once = λ i j l h. absurd (omega arith);
      };
      few = omega arith;
      is = λ a b lb. sum_to_zero _ ∙ rw (le-ltb a 0 (omega arith));
    }
