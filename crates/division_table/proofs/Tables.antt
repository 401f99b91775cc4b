-- Laws of the code's table: the offers of a next start, a sweep over the next starts, the cuts of a position stored.
use Prim.Native.Nat.{ℕ, zero, suc, ◌+◌, ◌-◌, ◌*◌, ◌≤◌, ◌<◌, min}
use mathlib.Core.Path.{◌≡◌, refl, ap, sym, ◌∙◌}
use mathlib.Core.Bool.{true, false}
use mathlib.Core.Logic.{inl, inr}
use mathlib.Core.List.{List, [], ◌∷◌}
use native.Mathlib.Nat.{eq-or-lt_of_le}
use native.Mathlib.Numerals.{add-one}
use native.Mathlib.Omega.{arith}
use lib.Dec.{ltb, leb, eqb}
use lib.ListN.{length, get_or, take, drop, length-drop, get_or-append, replicate, length-replicate, get_or-replicate}
use lib.Seq.{length-take-le, take_all, get_or-take, get_or-append_right, get_or-drop}
use borrow.Author.Tests.{ltb-true, ltb-false, lt-ltb, le-ltb, le-leb, lt-leb, leb-true, leb-false, eqb-true, eqb-false}
use Rattle.folds.specs.Fold.{when, most_cost, most_width}
use Rattle.folds.proofs.Searches.{first_to_le}
use Rattle.folds.proofs.Lists.{get_d_past}
use Rattle.folds.proofs.Cases.{by, either, when_more}
use Rattle.folds.proofs.Sums.{sum_to_step, sum_to_none, sum_to_less, sum_to_mono, sum_to_ext, sum_to_add, sum_to_only}
use Rattle.division_table.specs.Promises.{no_cut, lowest, LowCuts, Relaxed, Topped, span, within, RunWeights, onward, lowest_from, Lanes, LanesStored, Table, ColumnsFilled, next_by, starts_by, InInterval}
use Rattle.division_table.proofs.Intervals.{interval_first}
use borrow.Rule.Slice.PartMut.{put_mid, same_len_mid}
use Rattle.std.specs.Prelude.{position}
use Rattle.std.specs.List.{position_or_len}
use Rattle.std.specs.Option.{unwrap_or}
use Rattle.division_table.specs.Division.{interval_of}

-- from y up to g
pub upward : (P : ℕ → Type 0) (y g : ℕ) → P y → ((x : ℕ) → y ≤ x → x < g → P x → P (x + 1)) → (x : ℕ) → y ≤ x → x ≤ g → P x
upward P y g b s zero l h = let q : y ≡ 0 = omega arith in rw q at b
upward P y g b s (suc x) l h =
    either (eq-or-lt_of_le l) (λ e. rw e at b) (λ k. rw add-one at (s x (omega arith) (omega arith) (upward P y g b s x (omega arith) (omega arith))))

-- offers to the lanes
pub relaxed_low : {at w n : ℕ} {cuts l l' : List ℕ} → LowCuts l → Relaxed at w cuts n l l' → LowCuts l'
relaxed_low {at} {w} {n} {cuts} {l} {l'} L R =
    record {
      low = λ i.
          by (ltb i n)
          (λ t. omega (arith, L.low i, R.here i (ltb-true i n t)))
          (λ t. omega (arith, L.low i, R.other i (ltb-false i n t)));
    }

-- offers at or above every lane
pub relaxed_same : {at w n m : ℕ} {cuts l : List ℕ} → Topped n l m → m ≤ w → Relaxed at w cuts n l l
relaxed_same T h = record { tall = refl; here = λ j k. omega (arith, T.top j k); other = λ j k. refl }

pub topped_none : (n : ℕ) → Topped n (replicate n no_cut) no_cut
topped_none n = record { top = λ j k. omega (arith, get_or-replicate n j no_cut 0 k) }

-- the least of a family: members that are none do not count
lowest_le : (n : ℕ) (f : ℕ → ℕ) → lowest n f ≤ no_cut
unfolding lowest
lowest_le zero f = omega arith
lowest_le (suc n) f = omega (arith, lowest_le n f)

lowest_skip : (f : ℕ → ℕ) (j n : ℕ) → j ≤ n → ((i : ℕ) → j ≤ i → i < n → f i ≡ no_cut) → lowest n f ≡ lowest j f
unfolding lowest
lowest_skip f j zero l z = let q : j ≡ 0 = omega arith in rw q
lowest_skip f j (suc n) l z =
    by (ltb j (suc n))
    (λ t. let h = ltb-true j (suc n) t in
    omega (arith, z n (omega arith) (omega arith), lowest_le n f, lowest_skip f j n (omega arith) (λ i li gi. z i li (omega arith))))
    (λ t. let q : j ≡ suc n = omega (arith, ltb-false j (suc n) t) in rw q)

pub lowest_ext : (n : ℕ) (f h : ℕ → ℕ) → ((x : ℕ) → x < n → f x ≡ h x) → lowest n f ≡ lowest n h
unfolding lowest
lowest_ext zero f h e = refl
lowest_ext (suc n) f h e = omega (arith, lowest_ext n f h (λ x l. e x (omega arith)), e n (omega arith))

lowest_step : (n : ℕ) (f : ℕ → ℕ) → lowest (n + 1) f ≡ min (lowest n f) (f n)
unfolding lowest
lowest_step n f = let q : n + 1 ≡ suc n = omega arith in ap (λ (i : ℕ). lowest i f) q

-- sums of entries from y on
pub span_start : (l : List ℕ) (y : ℕ) → get_or l y 0 ≡ span l y (y + 1)
unfolding span
span_start l y =
    let z = sum_to_none y (λ i. when (leb y i) (get_or l i 0)) (λ i h. rw (lt-leb y i h)) in
    sym (sum_to_step y (λ i. when (leb y i) (get_or l i 0)) ∙ rw (z, le-leb y y (omega arith)) (omega arith))

pub span_next : (l : List ℕ) (y x : ℕ) → y ≤ x → span l y x + get_or l x 0 ≡ span l y (x + 1)
unfolding span
span_next l y x h = sym (sum_to_step x (λ i. when (leb y i) (get_or l i 0)) ∙ rw (le-leb y x h))

pub span_mono : (l : List ℕ) (y x z : ℕ) → x ≤ z → span l y x ≤ span l y z
unfolding span
span_mono l y x z h = sum_to_less (λ i. when (leb y i) (get_or l i 0)) x z h

pub span_narrow : (l : List ℕ) (y z x : ℕ) → y ≤ z → span l z x ≤ span l y x
unfolding span
span_narrow l y z x h = sum_to_mono x _ _ (λ i _. when_more (leb z i) (leb y i) (get_or l i 0) (λ t. le-leb y i (omega (arith, leb-true z i t))))

pub span_front : (l : List ℕ) (y x : ℕ) → y < x → span l y x ≡ get_or l y 0 + span l (y + 1) x
unfolding span
span_front l y x h = sum_to_ext x _ _ (λ i _. one i (get_or l i 0)) ∙ sum_to_add x _ _ ∙ ap (λ (s : ℕ). s + span l (y + 1) x) (sum_to_only x y (λ i. get_or l i 0) h)
  where
    one : (i w : ℕ) → when (leb y i) w ≡ when (eqb y i) w + when (leb (y + 1) i) w
    one i w =
        by (eqb y i)
        (λ t. let e = eqb-true y i t in rw (t, le-leb y i (omega arith), lt-leb (y + 1) i (omega arith)) (omega arith))
        (λ t.
        let n = eqb-false y i t in
        by (leb y i)
        (λ u. let a = leb-true y i u in rw (t, u, le-leb (y + 1) i (omega arith)) (omega arith))
        (λ u. let a = leb-false y i u in rw (t, u, lt-leb (y + 1) i (omega arith))))

pub within_yes : (cost : List ℕ) (bound y x : ℕ) → span cost y x ≤ bound → within cost bound y x ≡ true
unfolding within
within_yes cost bound y x h = le-leb (span cost y x) bound h

pub within_no : (cost : List ℕ) (bound y x : ℕ) → bound < span cost y x → within cost bound y x ≡ false
unfolding within
within_no cost bound y x h = lt-leb (span cost y x) bound h

pub within_is : (cost : List ℕ) (bound y x : ℕ) → within cost bound y x ≡ leb (span cost y x) bound
unfolding within
within_is cost bound y x = refl

-- the interval from y on, as it grows: what it costs, and what leaves it
module _ {g y : ℕ} {cost away into : List ℕ} (W : RunWeights g y cost away into) where
  pub load_next : (x load : ℕ) → y < x → x < g → load ≡ span cost y x → (load + get_or cost x 0 ≡ span cost y (x + 1)) × (load + get_or cost x 0 ≤ most_cost)
  load_next x load l h e = let q = span_next cost y x (omega arith) in (omega arith, omega (arith, W.light (x + 1) (omega arith) (omega arith)))

  pub out_first : y < g → get_or into y 0 ≤ get_or away y 0
  out_first h = omega (arith, W.covers (y + 1) (omega arith) (omega arith), span_start away y, span_start into y)

  pub out_next : (x out : ℕ) → y < x → x < g → out + span into y x ≡ span away y x
      → (out ≤ most_width) × (out + get_or away x 0 ≤ most_width + most_width) × (get_or into x 0 ≤ out + get_or away x 0) × (out + get_or away x 0 - get_or into x 0 + span into y (x + 1) ≡ span away y (x + 1))
  out_next x out l h e =
      let a = span_next away y x (omega arith) in
      let b = span_next into y x (omega arith) in
      let n = W.narrow (x + 1) (omega arith) (omega arith) in
      let k = W.narrow x (omega arith) (omega arith) in
      let v = W.covers (x + 1) (omega arith) (omega arith) in
      (omega arith, omega arith, omega arith, omega arith)

pub low_none : (k : ℕ) → LowCuts (replicate k no_cut)
low_none k =
    record {
      low = λ i.
          by (ltb i k)
          (λ t. omega (arith, get_or-replicate k i no_cut 0 (ltb-true i k t)))
          (λ t. omega (arith, get_d_past (replicate k no_cut) i (rw length-replicate (ltb-false i k t))));
    }

module _ (bound y from n : ℕ) (cost away into cuts : List ℕ) where
  abbrev going : ℕ → ℕ → ℕ
  going j = onward bound y cost away into (λ z. get_or cuts (z * 17 + j) 0)

  pub lanes_none : Lanes bound y from n (y + 1) cost away into cuts (replicate n no_cut)
  unfolding onward lowest
  lanes_none =
      record {
        tall = length-replicate n no_cut;
        low = low_none n;
        here = λ j h.
            get_or-replicate n j no_cut 0 h
            ∙ sym (lowest_skip (going (from + j)) 0 (y + 1) (omega arith) (λ i li k. rw (le-ltb y i (omega arith))));
      }

  module _ (x : ℕ) (l : List ℕ) (lt : y < x) (L : Lanes bound y from n x cost away into cuts l) where
    pub lanes_turn : (w : ℕ) (l' : List ℕ) → span cost y x ≤ bound → w + span into y x ≡ span away y x → Relaxed (x * 17 + from) w cuts n l l' → Lanes bound y from n (x + 1) cost away into cuts l'
    unfolding onward
    lanes_turn w l' h e R =
        let q : span away y x - span into y x ≡ w = omega arith in
        record {
          tall = R.tall ∙ L.tall;
          low = relaxed_low L.low R;
          here = λ j k.
              let p : x * 17 + (from + j) ≡ x * 17 + from + j = omega arith in
              let here : going (from + j) x ≡ w + get_or cuts (x * 17 + from + j) 0 = rw (lt-ltb y x lt, within_yes cost bound y x h, q, p) in
              omega (arith, R.here j k, L.here j k, lowest_step x (going (from + j)), here);
        }

    -- the interval has grown past the bound
    pub lanes_over : (g : ℕ) → x ≤ g → bound < span cost y x → Lanes bound y from n g cost away into cuts l
    unfolding onward
    lanes_over g k h =
        record {
          tall = L.tall;
          low = L.low;
          here = λ j lj.
              L.here j lj
              ∙ sym (lowest_skip (going (from + j)) x g k (λ i li gi. rw (lt-ltb y i (omega arith), within_no cost bound y i (omega (arith, span_mono cost y x i li)))));
        }

-- ends passed over offer no lane anything
pub lanes_pass : {bound y from n x x' m : ℕ} {cost away into cuts l : List ℕ} → y < x → x ≤ x' → Lanes bound y from n x cost away into cuts l → Topped n l m
    → ((z : ℕ) → x ≤ z → z < x' → (span cost y z ≤ bound) × (m + span into y z ≤ span away y z)) → Lanes bound y from n x' cost away into cuts l
lanes_pass {bound} {y} {from} {n} {x} {x'} {m} {cost} {away} {into} {cuts} {l} lt le L T each =
    upward (λ z. Lanes bound y from n z cost away into cuts l) x x' L
    (λ z a b K.
    let w = span away y z - span into y z in
    let h = each z a b in
    lanes_turn bound y from n cost away into cuts z l (omega arith) K w l h.0 (omega (arith, h.1)) (relaxed_same T (omega (arith, h.1))))
    x' le (omega arith)

-- lanes stored: a part put into the cuts
module _ (a k : ℕ) (xs ys : List ℕ) (e : length ys ≡ k) (h : a + k ≤ length xs) where
  front : length (take a xs) ≡ a
  front = length-take-le a xs (omega arith)

  put_below : (i : ℕ) → i < a → get_or (put_mid a k xs ys) i 0 ≡ get_or xs i 0
  put_below i l = get_or-append (take a xs) _ 0 i (omega (arith, front)) ∙ get_or-take a xs i 0 l

  put_within : (i : ℕ) → i < k → get_or (put_mid a k xs ys) (a + i) 0 ≡ get_or ys i 0
  put_within i l =
      let q : a + i - length (take a xs) ≡ i = omega (arith, front) in
      get_or-append_right (take a xs) _ (a + i) 0 (omega (arith, front)) ∙ rw q (get_or-append ys _ 0 i (omega arith))

  put_past : (i : ℕ) → a + k ≤ i → get_or (put_mid a k xs ys) i 0 ≡ get_or xs i 0
  put_past i l =
      let q : i - length (take a xs) ≡ i - a = omega (arith, front) in
      let r : a + (k + (i - a - length ys)) ≡ i = omega arith in
      get_or-append_right (take a xs) _ i 0 (omega (arith, front)) ∙ rw q (get_or-append_right ys _ (i - a) 0 (omega arith))
      ∙ get_or-drop k (drop a xs) (i - a - length ys) 0 ∙ get_or-drop a xs (k + (i - a - length ys)) 0 ∙ rw r

pub lanes_stored : {at k n : ℕ} {lanes cuts part : List ℕ} → LowCuts lanes → LowCuts cuts → length lanes ≡ n → at + n < length cuts → part ≡ lanes → k ≡ n
    → LanesStored at n lanes cuts (put_mid (at + 1) k cuts part)
lanes_stored {at} {k} {n} {lanes} {cuts} {part} L C t h e q =
    record {
      tall = same_len_mid (at + 1) k cuts part (omega (arith, ap length e, length-take-le k (drop (at + 1) cuts) (omega (arith, length-drop (at + 1) cuts))));
      low = record {
        low = λ i.
            by (ltb i (at + 1))
            (λ u. omega (arith, put_below (at + 1) k cuts part (omega (arith, ap length e)) (omega arith) i (ltb-true i (at + 1) u), C.low i))
            (λ u. let a = ltb-false i (at + 1) u in
            by (ltb i (at + 1 + k))
            (λ v. let b = ltb-true i (at + 1 + k) v in let z : at + 1 + (i - (at + 1)) ≡ i = omega arith in
            omega (arith, L.low (i - (at + 1)), rw z at (put_within (at + 1) k cuts part (omega (arith, ap length e)) (omega arith) (i - (at + 1)) (omega arith)), ap (λ (l : List ℕ). get_or l (i - (at + 1)) 0) e))
            (λ v. omega (arith, put_past (at + 1) k cuts part (omega (arith, ap length e)) (omega arith) i (ltb-false i (at + 1 + k) v), C.low i)));
      };
      here = λ j l. let z : at + (j + 1) ≡ at + 1 + j = omega arith in rw z (put_within (at + 1) k cuts part (omega (arith, ap length e)) (omega arith) j (omega arith) ∙ rw e);
      other = λ i o.
          by (ltb i (at + 1))
          (λ u. put_below (at + 1) k cuts part (omega (arith, ap length e)) (omega arith) i (ltb-true i (at + 1) u))
          (λ u. let a = ltb-false i (at + 1) u in
          by (ltb i (at + 1 + k))
          (λ v. let b = ltb-true i (at + 1 + k) v in absurd (o (i - (at + 1)) (omega arith) (omega arith)))
          (λ v. put_past (at + 1) k cuts part (omega (arith, ap length e)) (omega arith) i (ltb-false i (at + 1 + k) v)));
    }

-- columns filled
pub filled_is : {bound y from n g : ℕ} {cost away into cuts cuts' lanes : List ℕ} → from + n ≤ 16 → Table g cuts → Lanes bound y from n g cost away into cuts lanes
    → LanesStored (y * 17 + from) n lanes cuts cuts' → ColumnsFilled bound y from n g cost away into cuts cuts'
filled_is {bound} {y} {from} {n} {g} {cost} {away} {into} {cuts} {cuts'} {lanes} few T L S =
    record {
      table = record { long = omega (arith, T.long, S.tall); low = S.low };
      here = λ j h.
          by (leb from j)
          (λ t. by (ltb j (from + n)) (λ u. inl (lane j (leb-true from j t) (ltb-true j (from + n) u)))
          (λ u. let k = ltb-false j (from + n) u in inr (S.other _ (λ i l e. omega arith), λ _. k)))
          (λ t. let k = leb-false from j t in inr (S.other _ (λ i l e. omega arith), λ m. omega arith));
      other = λ i h. S.other i (λ j k e. omega (arith, h (omega arith)));
    }
  where
    lane : (j : ℕ) → from ≤ j → j < from + n → get_or cuts' (y * 17 + (j + 1)) 0 ≡ lowest_from bound y g cost away into cuts j
    lane j l h =
        let q : from + (j - from) ≡ j = omega arith in
        let p : y * 17 + (j + 1) ≡ y * 17 + from + (j - from + 1) = omega arith in
        rw p (S.here (j - from) (omega arith) ∙ L.here (j - from) (omega arith) ∙ ap (lowest_from bound y g cost away into cuts) q)

-- more columns than are wanted
-- following the cuts
pub next_within : (g : ℕ) (out : ℕ → ℕ → ℕ) (cuts : List ℕ) (j y : ℕ) → next_by g out cuts j y ≤ g
unfolding next_by
next_within g out cuts j y = first_to_le g _

pub starts_more : (g : ℕ) (out : ℕ → ℕ → ℕ) (cuts : List ℕ) (n i y : ℕ) → i < n → starts_by g out cuts (n - i) y ≡ next_by g out cuts (n - (i + 1)) y ∷ starts_by g out cuts (n - (i + 1)) (next_by g out cuts (n - (i + 1)) y)
unfolding starts_by
starts_more g out cuts n i y l = let q : n - i ≡ suc (n - (i + 1)) = omega arith in rw q

pub starts_end : (g : ℕ) (out : ℕ → ℕ → ℕ) (cuts : List ℕ) (n i y : ℕ) → n ≤ i → starts_by g out cuts (n - i) y ≡ []
unfolding starts_by
starts_end g out cuts n i y l = let q : n - i ≡ 0 = omega arith in rw q

pub length_starts : (g : ℕ) (out : ℕ → ℕ → ℕ) (cuts : List ℕ) (j y : ℕ) → length (starts_by g out cuts j y) ≡ j
unfolding starts_by
length_starts g out cuts zero y = refl
length_starts g out cuts (suc j) y = ap suc (length_starts g out cuts j (next_by g out cuts j y))

-- the search for an interval
interval_prefix : (d : List ℕ) (p : ℕ) → position_or_len (ltb p) d ≡ interval_of d p
unfolding interval_of
interval_prefix [] p = refl
interval_prefix (x ∷ d) p = by (ltb p x) (λ t. rw t) (λ t. rw (t, interval_prefix d p) (omega arith))

pub labelled : {starts : List ℕ} {p r : ℕ} → r ≡ unwrap_or (position (ltb p) starts) (length starts) → InInterval starts (length starts) p r
labelled {starts} {p} {r} q =
    let k = position_or_len (ltb p) starts in
    let n = length starts in
    let e = interval_prefix starts p in
    let le : k ≤ n = omega (arith, e, interval_first starts p, first_to_le n (λ i. ltb p (get_or starts i 0))) in
    let is : r ≡ k = by (ltb k n) (λ t. rw t at q) (λ t. (rw t at q) ∙ omega (arith, ltb-false k n t)) in
    record { is = is ∙ e ∙ ap (λ (l : List ℕ). interval_of l p) (sym (take_all n starts (omega arith))); low = omega arith }
