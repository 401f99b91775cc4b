-- The edges between parts, written out as lists: what they join is what the table shows.
use Prim.Native.Nat.{ℕ, ◌<◌}
use mathlib.Core.Path.{◌≡◌, refl, sym, ap, ◌∙◌}
use mathlib.Core.List.{List}
use Rattle.std.specs.Prelude.{Result, Ok, Err}
use native.Mathlib.Omega.{arith}
use lib.ListN.{length, get_or, take}
use Rattle.folds.specs.Fold.{list_to, Filled, over}
use Rattle.folds.proofs.Lists.{get_d_list_to, length-list_to}
use Rattle.graph.specs.Graph.{Arcs, via, arcs, joining, cut, Inside}
use Rattle.graph.specs.Links.{Joins, Ended}
use Rattle.topology.specs.Order.{order_of}
use Rattle.topology.specs.Reach.{lowest_on_cycle}
use Rattle.topology.proofs.Same.{Same, same_edges, order_same, lowest_same}
use Rattle.validity.specs.declared.Cause.TheVariants.{PartCycle}
use Rattle.validity.specs.Check.{refuse_at}
use Rattle.validity.specs.declared.Refusal.{Refusal}
use Rattle.inspection.specs.Table.{cycles_from}
use Rattle.inspection.specs.Inspect.{order_for}
use Rattle.inspection.specs.Promises.{Judged}
use Rattle.validity.specs.Cause.{Verdict, Passed}

-- what a verdict comes to, from what it is
module _ {v : Verdict} {A : Arcs} {widths order order' : List ℕ} {k : ℕ} where
  pub judged_refused : {e : Refusal} {r : Result ℕ Refusal} → r ≡ Err e → Err e ≡ v → order' ≡ order → Judged v A widths k order order' r
  judged_refused h e q = rw (h, ← e, q) record { answer = refl; after = refl }

  judged_passed : {c : ℕ} → Passed ≡ v → order' ≡ over (order_of A k) order → c ≡ cut A widths → Judged v A widths k order order' (Ok c)
  judged_passed e q h = rw (← e, h) record { answer = refl; after = q }

  pub judged_as : {w : Verdict} {r : Result ℕ Refusal} → w ≡ v → Judged w A widths k order order' r → Judged v A widths k order order' r
  judged_as e J = rw (← e) J

-- the lists name the parts at the ends of the edges
pub record Shown (parts starts ends froms tos : List ℕ) : Type 0 where
  pub count : length froms ≡ length starts
  pub same : length tos ≡ length starts
  pub from : (j : ℕ) → j < length starts → get_or froms j 0 ≡ via parts starts j
  pub to : (j : ℕ) → j < length starts → get_or tos j 0 ≡ via parts ends j

pub shown : {parts starts ends a b a' b' : List ℕ} → Joins parts starts ends → Filled a a' (length starts) (via parts starts) → Filled b b' (length ends) (via parts ends)
    → Shown parts starts ends (take (length starts) a') (take (length starts) b')
shown {parts} {starts} {ends} {b' = b'} J F H =
    record {
      count = ap length F.front ∙ length-list_to _ _;
      same = ap length tos ∙ length-list_to _ _;
      from = λ j l. ap (λ (s : List ℕ). get_or s j 0) F.front ∙ get_d_list_to (length starts) (via parts starts) j l;
      to = λ j l. ap (λ (s : List ℕ). get_or s j 0) tos ∙ get_d_list_to (length starts) (via parts ends) j l;
    }
  where
    tos : take (length starts) b' ≡ list_to (length starts) (via parts ends)
    tos = rw J.same at H.front

module _ {parts starts ends froms tos : List ℕ} (J : Joins parts starts ends) (S : Shown parts starts ends froms tos) where
  pub shown_ended : Ended froms tos
  shown_ended =
      record {
        from = record {
          few = omega (arith, S.count, J.out.few);
          low = λ j l. let h : j < length starts = omega (arith, S.count) in rw (S.from j h) (J.out.low _ (J.out.in_row j h));
        };
        to = record {
          few = omega (arith, S.same, J.out.few);
          low = λ j l. let h : j < length starts = omega (arith, S.same) in rw (S.to j h) (J.into.low _ (J.into.in_row j (omega (arith, J.same))));
        };
        same = S.same ∙ sym S.count;
      }

  joined_same : Same (joining froms tos) (arcs parts starts ends)
  joined_same =
      same_edges (joining froms tos) (arcs parts starts ends) S.count
      (λ j l. let h : j < length starts = omega (arith, S.count) in (S.from j h, S.to j h))

  module _ {k : ℕ} (inside : Inside (arcs parts starts ends) k) where
    pub shown_inside : Inside (joining froms tos) k
    shown_inside j l =
        let h : j < length starts = omega (arith, S.count) in
        let (a, b) = inside j h in (rw (S.from j h) a, rw (S.to j h) b)

    -- check 13, on the edges between the parts that the lists name
    same_verdict : refuse_at PartCycle (lowest_on_cycle (joining froms tos) k) k Passed ≡ cycles_from starts ends k parts
    unfolding cycles_from
    same_verdict = ap (λ (u : ℕ). refuse_at PartCycle u k Passed) (lowest_same (joining froms tos) (arcs parts starts ends) joined_same k shown_inside inside)

    module _ {v : Verdict} {widths order order' : List ℕ} (e : v ≡ refuse_at PartCycle (lowest_on_cycle (joining froms tos) k) k Passed)
        (q : order' ≡ order_for v (joining froms tos) k order) where
      pub cycle_judged : {d : Refusal} {r : Result ℕ Refusal} → v ≡ Err d → r ≡ Err d → Judged (cycles_from starts ends k parts) (arcs parts starts ends) widths k order order' r
      cycle_judged h s = judged_refused s (sym h ∙ e ∙ same_verdict) (rw h at q)

      pub order_judged : {c : ℕ} → v ≡ Passed → c ≡ cut (arcs parts starts ends) widths → Judged (cycles_from starts ends k parts) (arcs parts starts ends) widths k order order' (Ok c)
      order_judged h =
          judged_passed (sym h ∙ e ∙ same_verdict) ((rw h at q) ∙ ap (λ (s : List ℕ). over s order) (order_same (joining froms tos) (arcs parts starts ends) joined_same k))
