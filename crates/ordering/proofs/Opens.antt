-- The pool of the clusters that are open: how it follows the counts and the marks, and its lowest.
use Prim.Native.Nat.{ℕ, ◌+◌, ◌-◌, ◌≤◌, ◌<◌}
use mathlib.Core.Path.{◌≡◌, refl, sym, ap, ◌∙◌}
use mathlib.Core.Bool.{Bool, true, false, not, ◌&&◌}
use mathlib.Core.List.{List}
use native.Mathlib.Nat.{add-zero}
use native.Mathlib.Omega.{arith}
use lib.Dec.{eqb, ltb}
use lib.ListN.{length, get_or, set, replicate, length-set}
use lib.Seq.{get_or-set_same, get_or-set_other}
use borrow.Author.Tests.{eqb-true, eq-eqb, ne_eqb, lt-ltb, le-ltb, ltb-true}
use Rattle.folds.specs.Fold.{pick, when, first_to, zeros, if_below}
use Rattle.std.specs.Prelude.{Option, Some, None}
use Rattle.folds.proofs.Found.{is_below, not_below}
use Rattle.folds.proofs.Cases.{either, eq_or_ne, both, and_false}
use Rattle.folds.proofs.Searches.{first_to_hit, first_to_below, first_to_found, first_to_all}
use Rattle.folds.proofs.Lists.{get_d_zeros, set_sub}
use Rattle.pool.specs.Pool.{Kept, put_of, taken_of, lowest_of}
use Rattle.pool.proofs.Pools.{pool_none, pool_same, pool_lowest, pool_put, pool_take}
use Rattle.ordering.specs.Counts.{free, open_at, TakenFree, TakenOff}

open_is : (g : ℕ) (marks count : List ℕ) (v : ℕ) → v < g → open_at g marks count v ≡ free marks count v
unfolding open_at
open_is g marks count v l = rw (lt-ltb v g l)

shut : (g : ℕ) (marks count : List ℕ) (v : ℕ) → g ≤ v → open_at g marks count v ≡ false
unfolding open_at
shut g marks count v l = rw (le-ltb v g l)

waiting : (g : ℕ) (marks count : List ℕ) (v : ℕ) → (get_or count v 0 ≡ 0 → ⊥) → open_at g marks count v ≡ false
unfolding open_at free
waiting g marks count v n = rw (ne_eqb (get_or count v 0) 0 n) (ap (λ (t : Bool). ltb v g && t) (and_false (eqb (get_or marks v 0) 0)) ∙ and_false (ltb v g))

free_at : (marks count : List ℕ) (v : ℕ) → get_or marks v 0 ≡ 0 → get_or count v 0 ≡ 0 → free marks count v ≡ true
unfolding free
free_at marks count v m c = rw (eq-eqb (get_or marks v 0) 0 m, eq-eqb (get_or count v 0) 0 c)

same_at : (g : ℕ) (marks marks' count count' : List ℕ) (v : ℕ) → get_or marks' v 0 ≡ get_or marks v 0 → get_or count' v 0 ≡ get_or count v 0 → open_at g marks' count' v ≡ open_at g marks count v
unfolding open_at free
same_at g marks marks' count count' v m c = rw (m, c)

taken_at : (g : ℕ) (marks count : List ℕ) (v : ℕ) → (get_or marks v 0 ≡ 0 → ⊥) → open_at g marks count v ≡ false
unfolding open_at free
taken_at g marks count v n = rw (ne_eqb (get_or marks v 0) 0 n) (and_false (ltb v g))

-- the pool at first
module _ (count : List ℕ) where
  pub gather_none : Kept (open_at 0 (zeros 512) count) (replicate 9 0)
  gather_none = pool_none _ (λ x _. shut 0 (zeros 512) count x (omega arith))

  more : (i x : ℕ) → (x ≡ i → ⊥) → open_at (i + 1) (zeros 512) count x ≡ open_at i (zeros 512) count x
  more i x n =
      either (eq_or_ne (x - i) 0)
      (λ e. open_is (i + 1) _ count x (omega arith) ∙ sym (open_is i _ count x (omega arith)))
      (λ e. shut (i + 1) _ count x (omega arith) ∙ sym (shut i _ count x (omega arith)))

  pub gather_turn : (i : ℕ) (pool pool' : List ℕ) → i < 512 → Kept (open_at i (zeros 512) count) pool
      → pool' ≡ pick (eqb (get_or count i 0) 0) (put_of pool i) pool → Kept (open_at (i + 1) (zeros 512) count) pool'
  gather_turn i pool pool' l K e =
      either (eq_or_ne (get_or count i 0) 0)
      (λ z. rw (e, eq-eqb (get_or count i 0) 0 z) (pool_put _ pool K _ i l (λ x _ n. more i x n) (open_is (i + 1) _ count i (omega arith) ∙ free_at _ count i (get_d_zeros 512 i) z)))
      (λ n. rw (e, ne_eqb (get_or count i 0) 0 n) (pool_same _ pool K _ (λ x _. either (eq_or_ne x i) (λ q. rw q (waiting (i + 1) _ count i n ∙ sym (shut i _ count i (omega arith)))) (more i x))))

-- an edge from u to b
module _ (u b g : ℕ) (count pool : List ℕ) (l : b < 512) (tall : length count ≡ 512) where
  pub pass_none : u ≡ b → TakenOff u b g count pool count pool
  pass_none e = record { tall = tall; is = λ v _. rw (eq-eqb u b e) (none (eqb b v) (get_or count v 0)); keeps = λ _ _ k. k }
    where
      none : (t : Bool) (x : ℕ) → x + when t 0 ≡ x
      none true x = add-zero x
      none false x = add-zero x

  module _ (n : u ≡ b → ⊥) (some : 0 < get_or count b 0) where
    less : List ℕ
    less = set count b (get_or count b 0 - 1)

    at_b : get_or less b 0 ≡ get_or count b 0 - 1
    unfolding less
    at_b = get_or-set_same count b (get_or count b 0 - 1) 0 (omega arith)

    beside : (marks : List ℕ) (x : ℕ) → (x ≡ b → ⊥) → open_at g marks less x ≡ open_at g marks count x
    unfolding less
    beside marks x h = same_at g marks marks count _ x refl (get_or-set_other count b x (get_or count b 0 - 1) 0 h)

    fewer : (v : ℕ) → v < 512 → get_or less v 0 + when (eqb b v) (when (not (eqb u b)) 1) ≡ get_or count v 0
    unfolding less
    fewer v _ = rw (ne_eqb u b n) (set_sub count b 1 v (omega arith) (omega arith))

    -- nothing opens
    idle : (marks : List ℕ) → open_at g marks less b ≡ false → Kept (open_at g marks count) pool → Kept (open_at g marks less) pool
    idle marks e K =
        pool_same _ pool K _
        (λ x _. either (eq_or_ne x b) (λ q. rw q (e ∙ sym (waiting g marks count b (λ z. omega arith)))) (beside marks x))

    pub pass_high : g ≤ b → TakenOff u b g count pool (set count b (get_or count b 0 - 1)) pool
    unfolding less
    pass_high h =
        record { tall = length-set count b (get_or count b 0 - 1) ∙ tall; is = fewer; keeps = λ marks _. idle marks (shut g marks less b h) }

    pub pass_low : (pool' : List ℕ) → b < g → pool' ≡ pick (eqb (get_or count b 0 - 1) 0) (put_of pool b) pool
        → TakenOff u b g count pool (set count b (get_or count b 0 - 1)) pool'
    unfolding less
    pass_low pool' h e =
        either (eq_or_ne (get_or count b 0 - 1) 0)
        (λ z.
        rw (e, eq-eqb (get_or count b 0 - 1) 0 z)
        record {
          tall = length-set count b (get_or count b 0 - 1) ∙ tall;
          is = fewer;
          keeps = λ marks S K.
              pool_put _ pool K _ b l (λ x _. beside marks x)
              (open_is g marks less b h
              ∙ free_at marks less b (either (eq_or_ne (get_or marks b 0) 0) (λ q. q) (λ q. absurd (omega (arith, S b l q)))) (at_b ∙ z));
        })
        (λ z.
        rw (e, ne_eqb (get_or count b 0 - 1) 0 z)
        record {
          tall = length-set count b (get_or count b 0 - 1) ∙ tall;
          is = fewer;
          keeps = λ marks _. idle marks (waiting g marks less b (λ q. z (sym at_b ∙ q)));
        })

-- the lowest that is open, u, is taken
module _ (g : ℕ) (marks count pool : List ℕ) (small : g ≤ 512) (K : Kept (open_at g marks count) pool) {r : Option ℕ} (d : r ≡ lowest_of pool) where
  below : (k : ℕ) → k < first_to 512 (open_at g marks count) → k < g → free marks count k ≡ false
  below k l h = sym (open_is g marks count k h) ∙ first_to_below 512 (open_at g marks count) k l

  lowest : r ≡ if_below 512 (first_to 512 (open_at g marks count))
  lowest = d ∙ pool_lowest _ pool K

  pub none_open : r ≡ None → g ≡ first_to g (free marks count)
  none_open e =
      let l = not_below (sym lowest ∙ e) in
      sym (first_to_all g _ (λ k h. below k (omega arith) h))

  module _ {u : ℕ} (e : r ≡ Some u) where
    first : u ≡ first_to 512 (open_at g marks count)
    first = (is_below (sym lowest ∙ e)).0

    hit : open_at g marks count u ≡ true
    hit = rw (← first) at (first_to_hit 512 (open_at g marks count) (is_below (sym lowest ∙ e)).1)

    pub low : u < g
    unfolding open_at
    low = ltb-true u g (both (ltb u g) (free marks count u) hit).0

    is_free : free marks count u ≡ true
    is_free = sym (open_is g marks count u low) ∙ hit

    pub first_open : u ≡ first_to g (free marks count)
    first_open = sym (first_to_found g u _ (first_to_all u _ (λ k h. below k (rw first at h) (omega (arith, low)))) is_free low)

    pub not_taken : get_or marks u 0 ≡ 0
    unfolding free
    not_taken = eqb-true _ _ (both (eqb (get_or marks u 0) 0) (eqb (get_or count u 0) 0) is_free).0

    waits_not : get_or count u 0 ≡ 0
    unfolding free
    waits_not = eqb-true _ _ (both (eqb (get_or marks u 0) 0) (eqb (get_or count u 0) 0) is_free).1

    pub settled_next : TakenFree marks count → TakenFree (set marks u 1) count
    settled_next S v lv n = either (eq_or_ne v u) (λ q. ap (λ (x : ℕ). get_or count x 0) q ∙ waits_not) (λ q. S v lv (λ z. n (get_or-set_other marks u v 1 0 q ∙ z)))

    pub taken_next : length marks ≡ 512 → Kept (open_at g (set marks u 1) count) (taken_of pool u)
    taken_next t =
        pool_take _ pool K _ u (omega (arith, low)) (λ x _ n. same_at g marks (set marks u 1) count count x (get_or-set_other marks u x 1 0 n) refl) hit
        (taken_at g (set marks u 1) count u (λ z. let q : ◌≡◌ {A = ℕ} 1 0 = sym (get_or-set_same marks u 1 0 (omega (arith, low))) ∙ z in omega arith))
