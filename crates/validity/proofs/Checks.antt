-- The checks, from what the code's branches say, and what passed checks say of the lists.
use Prim.Native.Nat.{ℕ, ◌+◌, ◌≤◌, ◌<◌}
use mathlib.Core.Path.{◌≡◌, refl, sym, ap, ◌∙◌}
use mathlib.Core.Bool.{Bool, true, false, not, ◌||◌}
use mathlib.Core.List.{List}
use Rattle.std.specs.Prelude.{Option, Some, None, Err}
use native.Mathlib.Omega.{arith}
use lib.Dec.{eqb, ltb, leb}
use lib.ListN.{length, get_or}
use borrow.Author.Tests.{eqb-true, eq-eqb, ltb-false, leb-false, lt-ltb, le-ltb}
use Rattle.folds.specs.Fold.{pick, when, count_to, first_to, if_below, any_to, over, zeros}
use Rattle.folds.proofs.Cases.{by, no_bool, not_no, not_yes}
use Rattle.folds.proofs.Sums.{sum_to_zero, sum_to_turn}
use Rattle.folds.proofs.Searches.{first_to_le, first_to_none, first_to_found, first_to_end, count_none}
use mir.Val.{bool_byte}
use Rattle.graph.specs.Graph.{Graph, vertices, edges, identity, Arcs, arcs, joining, Inside, Edge}
use Rattle.graph.specs.Links.{Linked, leave}
use Rattle.graph.proofs.Edges.{joining_is}
use Rattle.topology.specs.Reach.{lowest_on_cycle}
use Rattle.graph.specs.Walk.{Acyclic}
use Rattle.topology.proofs.Reaches.{lowest_none}
use Rattle.topology.specs.Order.{order_of}
use Rattle.topology.specs.Level.{levels_of}
use Rattle.validity.specs.Promises.{Fits, OrderLeft}
use Rattle.validity.specs.Check.{refuse_at, bad_vertices, bad_parts, bad_edges, bad_cost, bad_ends, cycles_from, lists_from}
use Rattle.validity.specs.Drawn.{tried_by}
use Rattle.validity.specs.declared.Cause.{Cause}
use Rattle.validity.specs.declared.Refusal.{Refusal}
use Rattle.validity.specs.declared.Cause.TheVariants.{Vertices, Parts, Edges, Room, Cost, Ends, Cycle}
use Rattle.validity.specs.Cause.{Verdict, Passed, Refused}

-- a loop that counts what a check refuses
pub byte_low : (b : Bool) → bool_byte b ≤ 1
byte_low true = omega arith
byte_low false = omega arith

byte_is : (b : Bool) → bool_byte b ≡ when b 1
byte_is true = refl
byte_is false = refl

module _ (p : ℕ → Bool) where
  pub faults_none : 0 ≡ count_to 0 p
  unfolding count_to
  faults_none = sym (sum_to_zero _)

  pub faults_turn : (j : ℕ) {s x : ℕ} {b : Bool} → s ≡ count_to j p → x ≡ bool_byte b → b ≡ p j → s + x ≡ count_to (j + 1) p
  unfolding count_to
  faults_turn j {b = b} e h q = sum_to_turn (λ k. when (p k) 1) e (rw (← q) (h ∙ byte_is b))

-- where none is counted, there is no first
pub none_first : {c : ℕ} (n : ℕ) (p : ℕ → Bool) → c ≡ count_to n p → c ≡ 0 → None ≡ if_below n (first_to n p)
unfolding any_to
none_first {c} n p e z =
    let q : eqb (count_to n p) 0 ≡ true = eq-eqb _ _ (sym e ∙ z) in
    let r : not (ltb (first_to n p) n) ≡ true = sym (count_none n p) ∙ q in rw (not_yes _ r)

-- a search that says a number, or none
pub first_some : (n i : ℕ) (p : ℕ → Bool) → first_to i p ≡ i → p i ≡ true → i < n → Some i ≡ if_below n (first_to n p)
first_some n i p e h l = rw (first_to_found n i p e h l, lt-ltb i n l)

pub first_none : (n i : ℕ) (p : ℕ → Bool) → first_to i p ≡ i → i ≤ n → n ≤ i → None ≡ if_below n (first_to n p)
first_none n i p e l g = rw (← first_to_end n i p e l g, le-ltb i n g)

pub no_some : {i : ℕ} → ◌≡◌ {A = Option ℕ} None (Some i) → ⊥
no_some e = let z : ◌≡◌ {A = ℕ} 0 1 = cc in omega arith

-- the first fault, where there is one, and where there is none
module _ (cause : Cause) (i n : ℕ) where
  pub at_some : {j : ℕ} (x : Verdict) → Some j ≡ if_below n i → Refused cause j ≡ refuse_at cause i n x
  unfolding refuse_at
  at_some {j} x e = by (ltb i n) (λ t. let q = rw t at e in let h : j ≡ i = cc in rw (t, h) refl) (λ t. absurd (no_some (sym (rw t at e))))

  pub at_none : {v x : Verdict} → None ≡ if_below n i → v ≡ x → v ≡ refuse_at cause i n x
  unfolding refuse_at
  at_none e h = by (ltb i n) (λ t. absurd (no_some (rw t at e))) (λ t. rw t h)

pub not_passed : {cause : Cause} {place : ℕ} → Refused cause place ≡ Passed → ⊥
not_passed e = let z : ◌≡◌ {A = ℕ} 0 1 = cc in omega arith

-- a chain of checks: what one that passed leaves known, how one hands on to the next, and how one refuses
module _ {t b : Bool} (cause : Cause) (place : ℕ) {r : Verdict} (told : t ≡ b) (says : r ≡ pick t (Refused cause place) Passed) where
  pub no_fault : r ≡ Passed → b ≡ false
  no_fault q = by b (λ y. absurd (not_passed (sym (rw (told, y) at says) ∙ q))) (λ n. n)

  pub hands_on : {v x : Verdict} → r ≡ Passed → v ≡ x → v ≡ pick b (Refused cause place) x
  hands_on q h = rw (no_fault q) h

  pub refuses_here : {e : Refusal} (x : Verdict) → r ≡ Err e → Err e ≡ pick b (Refused cause place) x
  refuses_here x q = by b (λ y. rw y (sym q ∙ (rw (told, y) at says))) (λ n. let z : r ≡ Passed = rw (told, n) at says in absurd (not_passed (sym q ∙ z)))

-- checks that come before the search for a repeated edge: where they pass, what is found next counts; where they refuse, it does not, and no edge was tried
pub record Early (f : Verdict → Verdict) : Type 0 where
  pub passes : f Passed ≡ Passed → (next : Verdict) → f next ≡ next
  pub refuses : {cause : Cause} {place : ℕ} → f Passed ≡ Refused cause place → (next : Verdict) (m : ℕ) → (f next ≡ Refused cause place) × (tried_by (Refused cause place) m ≡ 0)

early_none : Early (λ v. v)
early_none = record { passes = λ _ _. refl; refuses = λ e. absurd (not_passed (sym e)) }

early_more : (fault : Bool) (cause : Cause) (place : ℕ) {f : Verdict → Verdict} → ((m : ℕ) → tried_by (Refused cause place) m ≡ 0) → Early f → Early (λ v. pick fault (Refused cause place) (f v))
early_more true cause place z E =
    record { passes = λ e. absurd (not_passed e); refuses = λ e next m. (e, ap (λ (v : Verdict). tried_by v m) (sym e) ∙ z m) }
early_more false cause place z E = E

pub lists_early : (most : ℕ) (G : Graph) (k bound : ℕ) (room : Bool) → Early (lists_from most G k bound room)
unfolding lists_from refuse_at tried_by
lists_early most G k bound room =
    early_more (bad_vertices most (vertices G)) Vertices 0 (λ _. refl)
    (early_more (bad_parts k (vertices G)) Parts 0 (λ _. refl)
    (early_more (bad_edges (length G.starts) (length G.ends) (length G.widths)) Edges 0 (λ _. refl)
    (early_more (not room) Room 0 (λ _. refl)
    (early_more (ltb (first_to (vertices G) (bad_cost G.costs bound)) (vertices G)) Cost _ (λ _. refl)
    (early_more (ltb (first_to (edges G) (bad_ends (vertices G) G.starts G.ends G.widths)) (edges G)) Ends _ (λ _. refl) early_none)))))

pub neither : (a b : Bool) → (a || b) ≡ false → (a ≡ false) × (b ≡ false)
neither true b e = absurd (no_bool (sym e))
neither false b e = (refl, e)

-- edges that check 6 passed
pub ends_fit : (n : ℕ) (starts ends widths : List ℕ) → n ≤ 512 → length starts ≤ 1024 → length ends ≡ length starts
    → first_to (length starts) (bad_ends n starts ends widths) ≡ length starts → Fits n starts ends
unfolding bad_ends
ends_fit n starts ends widths few many same e =
    record {
      few = few;
      many = many;
      same = same;
      start_in = λ j h. leb-false n (get_or starts j 0) (neither (leb n (get_or starts j 0)) _ (fine j h)).0;
      end_in = λ j h. leb-false n (get_or ends j 0) (neither (leb n (get_or ends j 0)) _ (neither (leb n (get_or starts j 0)) _ (fine j h)).1).0;
    }
  where
    fine : (j : ℕ) → j < length starts → bad_ends n starts ends widths j ≡ false
    fine = first_to_none (length starts) (bad_ends n starts ends widths) e

passed_past : (i n : ℕ) → refuse_at Cycle i n Passed ≡ Passed → if_below n i ≡ None
unfolding refuse_at
passed_past i n e = by (ltb i n) (λ t. absurd (not_passed (rw t at e))) (λ f. rw f refl)

module _ {n : ℕ} {starts ends : List ℕ} (F : Fits n starts ends) where
  pub fit_inside : Inside (joining starts ends) n
  fit_inside j h = (F.start_in j h, F.end_in j h)

  -- the vertices' own row shows the edges as they are
  own_row : arcs (identity n) starts ends ≡ joining starts ends
  own_row = joining_is n starts ends F.start_in (λ j h. F.end_in j (omega (arith, F.same)))

  -- check 8, from the lowest on a cycle
  pub cycle_own : refuse_at Cycle (lowest_on_cycle (joining starts ends) n) n Passed ≡ cycles_from n starts ends
  unfolding cycles_from
  cycle_own = ap (λ (A : Arcs). refuse_at Cycle (lowest_on_cycle A n) n Passed) (sym own_row)

  pub free_passes : Acyclic (Edge (joining starts ends)) → Passed ≡ cycles_from n starts ends
  unfolding refuse_at
  free_passes a = rw (← cycle_own, lowest_none (joining starts ends) n fit_inside a, le-ltb n n (omega arith)) refl

  pub order_own : {r : Verdict} {old new levels head next : List ℕ} {v : Option ℕ} → v ≡ if_below n (lowest_on_cycle (joining starts ends) n)
      → r ≡ refuse_at Cycle (lowest_on_cycle (joining starts ends) n) n Passed → new ≡ over (order_of (joining starts ends) n) old
      → (v ≡ None → levels ≡ over (levels_of (joining starts ends) n) (zeros 512)) → Linked (leave (joining starts ends)) (length starts) head next
      → OrderLeft r n starts ends old new levels head next
  order_own {old = old} e l o h L =
      record {
        order = λ _. o ∙ ap (λ (A : Arcs). over (order_of A n) old) (sym own_row);
        levels = λ p. h (e ∙ passed_past _ n (sym l ∙ p)) ∙ ap (λ (A : Arcs). over (levels_of A n) (zeros 512)) (sym own_row);
        linked = λ _. L;
      }

-- what checks 1 to 3 leave known
pub sizes_fit : (most n starts ends widths : ℕ) → most ≤ 512 → bad_vertices most n ≡ false → bad_edges starts ends widths ≡ false
    → ((n ≤ 512) × (starts ≤ 1024)) × ((ends ≡ starts) × (widths ≡ starts))
unfolding bad_vertices bad_edges
sizes_fit most n starts ends widths l v e =
    let (_, few) = neither (eqb n 0) (ltb most n) v in
    let (p, rest) = neither (not (eqb ends starts)) _ e in
    let (q, many) = neither (not (eqb widths starts)) _ rest in
    ((omega (arith, ltb-false most n few), ltb-false 1024 starts many), (eqb-true ends starts (not_no _ p), eqb-true widths starts (not_no _ q)))

-- the same, from where the search for a bad end found none
pub ends_fit_left : (n : ℕ) (starts ends widths : List ℕ) → n ≤ 512 → length starts ≤ 1024 → length ends ≡ length starts
    → ltb (first_to (length starts) (bad_ends n starts ends widths)) (length starts) ≡ false → Fits n starts ends
ends_fit_left n starts ends widths few many same e =
    ends_fit n starts ends widths few many same (omega (arith, ltb-false _ _ e, first_to_le (length starts) (bad_ends n starts ends widths)))

-- a refusal leaves no order
pub refused_order : {r : Verdict} {cause : Cause} {place n : ℕ} {starts ends old new levels head next : List ℕ} → r ≡ Refused cause place → OrderLeft r n starts ends old new levels head next
refused_order e = record { order = λ p. absurd (not_passed (sym e ∙ p)); levels = λ p. absurd (not_passed (sym e ∙ p)); linked = λ p. absurd (not_passed (sym e ∙ p)) }
