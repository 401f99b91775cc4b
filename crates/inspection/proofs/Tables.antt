-- Checks 10 to 13, from the sums that code holds, and what they say.
use Prim.Native.Nat.{ℕ, ◌<◌}
use mathlib.Core.Path.{◌≡◌, refl, sym, ap, ◌∙◌}
use mathlib.Core.Bool.{Bool, true, false, not}
use mathlib.Core.List.{List}
use native.Mathlib.Omega.{arith}
use lib.Dec.{eqb, ltb}
use lib.ListN.{length, get_or, take}
use Rattle.std.specs.Prelude.{Option, Some, None, cond}
use Rattle.std.specs.List.{position, position_or_len}
use Rattle.std.proofs.lemmas.List.{get_or-take, length-take-le}
use Rattle.std.proofs.lemmas.List.Sums.{position_or_len_is}
use borrow.Author.Tests.{eqb-true, eq-eqb, ltb-false, leb-false, lt-leb, le-ltb}
use Rattle.folds.specs.Fold.{pick, when, sum_to, if_below, any_to, first_to}
use Rattle.folds.proofs.Cases.{by, not_no, not_yes, same_test}
use Rattle.folds.proofs.Sums.{sum_to_none, sum_to_member}
use Rattle.folds.proofs.Searches.{first_to_le, first_to_hit, first_to_below, first_to_none, first_to_all, first_to_ext, any_i, any_e, any_none}
use Rattle.graph.specs.Graph.{Graph, vertices, seen, Inside, cost_in, part_cost, Proper}
use Rattle.graph.specs.Links.{Joins}
use Rattle.graph.specs.Table.{part_size}
use Rattle.graph.specs.Totals.{Keyed, Totals}
use Rattle.graph.proofs.Rows.{proper_joins}
use Rattle.graph.proofs.Tables.{size_cost}
use Rattle.graph.proofs.Totals.{totals_cost}
use Rattle.topology.specs.Reach.{lowest_on_cycle}
use Rattle.topology.proofs.Reaches.{none_acyclic, lowest_none}
use Rattle.validity.specs.Check.{refuse_at}
use Rattle.validity.specs.declared.Cause.{Cause}
use Rattle.validity.proofs.Passed.{passed_at}
use Rattle.inspection.specs.Table.{bad_entry, is_empty, is_over, cycles_from, table_of, Fine}
use Rattle.inspection.specs.Promises.{TableReady}
use Rattle.validity.specs.Cause.{Verdict, Passed}

as_pick : (t : Bool) (i : ℕ) → cond t (Some i) None ≡ pick t (Some i) None
as_pick true i = refl
as_pick false i = refl

-- the first of a list that passes a test
pub position_first : (p : ℕ → Bool) (xs : List ℕ) {r : Option ℕ} → r ≡ position p xs → r ≡ if_below (length xs) (first_to (length xs) (λ j. p (get_or xs j 0)))
position_first p xs h =
    let n = first_to (length xs) (λ j. p (get_or xs j 0)) in
    let e : position_or_len p xs ≡ n = position_or_len_is p xs n 0 (first_to_le (length xs) _) (λ j l. first_to_below (length xs) (λ i. p (get_or xs i 0)) j l) (λ l. first_to_hit (length xs) (λ i. p (get_or xs i 0)) l) in h ∙ rw e (as_pick (ltb n (length xs)) n)

-- a part is empty exactly if its cost is 0, where each vertex costs something
module _ (costs parts : List ℕ) (costly : (v : ℕ) → v < length costs → 0 < get_or costs v 0) where
  pub empty_cost : (u : ℕ) → is_empty (length costs) parts u ≡ eqb (part_cost costs parts u) 0
  unfolding is_empty part_cost cost_in
  empty_cost u = same_test _ _ none_zero zero_none
    where
      none_zero : not (any_to (length costs) (λ v. eqb (get_or parts v 0) u)) ≡ true → eqb (sum_to (length costs) (λ v. when (eqb (get_or parts v 0) u) (get_or costs v 0))) 0 ≡ true
      none_zero t = eq-eqb (sum_to (length costs) (λ v. when (eqb (get_or parts v 0) u) (get_or costs v 0))) 0 (sum_to_none (length costs) _ (λ v l. rw (any_none (length costs) (λ v. eqb (get_or parts v 0) u) (not_yes _ t) v l)))

      zero_none : eqb (sum_to (length costs) (λ v. when (eqb (get_or parts v 0) u) (get_or costs v 0))) 0 ≡ true → not (any_to (length costs) (λ v. eqb (get_or parts v 0) u)) ≡ true
      zero_none t =
          by (any_to (length costs) (λ v. eqb (get_or parts v 0) u))
          (λ a.
          let (v, l, e) = any_e (length costs) (λ v. eqb (get_or parts v 0) u) a in
          let m = sum_to_member (length costs) (λ v. when (eqb (get_or parts v 0) u) (get_or costs v 0)) v l in
          let w = rw e at m in
          absurd (omega (arith, costly v l, eqb-true (sum_to (length costs) (λ v. when (eqb (get_or parts v 0) u) (get_or costs v 0))) 0 t)))
          (λ n. rw n)

module _ {G : Graph} {k : ℕ} {parts order : List ℕ} (T : TableReady G k parts order) where
  -- the search of check 10, over the entries of the table
  pub entry_at : {v : Option ℕ} → v ≡ if_below (length parts) (first_to (length parts) (bad_entry k parts)) → v ≡ if_below (vertices G) (first_to (vertices G) (bad_entry k parts))
  entry_at e = e ∙ ap (λ (n : ℕ). if_below n (first_to n (bad_entry k parts))) T.whole

  pub entries_left : ltb (first_to (vertices G) (bad_entry k parts)) (vertices G) ≡ false → (w : ℕ) → w < vertices G → get_or parts w 0 < k
  unfolding bad_entry
  entries_left e w h =
      leb-false k (get_or parts w 0) (first_to_none (vertices G) (bad_entry k parts) (omega (arith, ltb-false _ _ e, first_to_le (vertices G) (bad_entry k parts))) w h)

  -- what check 10 leaves known
  module _ (named : (v : ℕ) → v < vertices G → get_or parts v 0 < k) where
    pub table_keyed : Keyed parts G.costs 16
    table_keyed = record { same = T.whole; few = T.proper.few; low = λ v h. omega (arith, named v h, T.few) }

    pub table_joins : Joins parts G.starts G.ends
    table_joins = proper_joins T.proper parts T.whole (λ v h. omega (arith, named v (omega (arith, T.whole)), T.few))

    pub table_inside : Inside (seen G parts) k
    table_inside j h = (named _ (T.proper.formed.start_in j h), named _ (T.proper.formed.end_in j h))

  -- checks 11 and 12, on the sums that code holds, of the first k parts
  module _ {sums : List ℕ} (S : Totals parts G.costs 16 (vertices G) sums) where
    sum_at : (u : ℕ) → u < k → get_or (take k sums) u 0 ≡ part_cost G.costs parts u
    sum_at u l = get_or-take k sums u 0 l ∙ totals_cost parts G.costs S u (omega (arith, T.few))

    pub few_sums : length (take k sums) ≡ k
    few_sums = length-take-le k sums (omega (arith, T.few, S.long))

    pub empty_at : {e : Option ℕ} → e ≡ if_below (length (take k sums)) (first_to (length (take k sums)) (λ u. eqb (get_or (take k sums) u 0) 0))
        → e ≡ if_below k (first_to k (is_empty (vertices G) parts))
    empty_at q = q ∙ rw few_sums (ap (if_below k) (first_to_ext k _ _ (λ u l. rw (sum_at u l) (sym (empty_cost G.costs parts T.proper.costly u)))))

    pub over_at : (bound : ℕ) {o : Option ℕ} → o ≡ if_below (length (take k sums)) (first_to (length (take k sums)) (λ u. ltb bound (get_or (take k sums) u 0)))
        → o ≡ if_below k (first_to k (is_over G bound parts))
    unfolding is_over
    over_at bound q = q ∙ rw few_sums (ap (if_below k) (first_to_ext k _ _ (λ u l. rw (sum_at u l, size_cost G parts u))))

-- THE CLAIM below: the table passes 10 to 13 exactly if it is fine
module _ (G : Graph) (k bound : ℕ) (parts : List ℕ) (proper : Proper G) where
  inside : ((v : ℕ) → v < vertices G → get_or parts v 0 < k) → Inside (seen G parts) k
  inside named j h = (named _ (proper.formed.start_in j h), named _ (proper.formed.end_in j h))

  pub passed_fine : table_of G k bound parts ≡ Passed → Fine G k bound parts
  unfolding table_of cycles_from bad_entry is_empty is_over lowest_on_cycle
  passed_fine e =
      let (a, r1) = passed_at _ (vertices G) (bad_entry k parts) _ e in
      let (b, r2) = passed_at _ k (is_empty (vertices G) parts) _ r1 in
      let (c, r3) = passed_at _ k (is_over G bound parts) _ r2 in
      let (d, _) = passed_at _ k _ _ r3 in
      let named : (v : ℕ) → v < vertices G → get_or parts v 0 < k = λ v h. leb-false k (get_or parts v 0) (a v h) in
      record {
        named = named;
        filled = λ u h. let (v, l, q) = any_e (vertices G) (λ v. eqb (get_or parts v 0) u) (not_no _ (b u h)) in (v, l, eqb-true _ _ q);
        within = λ u h. ltb-false bound (part_size G parts u) (c u h);
        acyclic = none_acyclic (seen G parts) k (inside named) (first_to_all k _ d);
      }

  pass_at : (cause : Cause) (i n : ℕ) (x : Verdict) → i ≡ n → refuse_at cause i n x ≡ x
  unfolding refuse_at
  pass_at cause i n x e = rw (le-ltb i n (omega arith))

  pub fine_passed : Fine G k bound parts → table_of G k bound parts ≡ Passed
  unfolding table_of cycles_from bad_entry is_empty is_over
  fine_passed F =
      pass_at _ _ (vertices G) _ (first_to_all (vertices G) (bad_entry k parts) (λ v h. lt-leb k (get_or parts v 0) (F.named v h)))
      ∙ pass_at _ _ k _ (first_to_all k (is_empty (vertices G) parts) (λ u h. let (v, l, q) = F.filled u h in rw (any_i (vertices G) (λ v. eqb (get_or parts v 0) u) v l (eq-eqb _ _ q))))
      ∙ pass_at _ _ k _ (first_to_all k (is_over G bound parts) (λ u h. le-ltb bound (part_size G parts u) (F.within u h)))
      ∙ pass_at _ _ k _ (lowest_none (seen G parts) k (inside F.named) F.acyclic)
