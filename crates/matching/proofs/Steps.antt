-- The returns of a visit, and the loop over the order.
use Prim.Native.Nat.{ℕ, ◌+◌, ◌≤◌, ◌<◌}
use mathlib.Core.Path.{◌≡◌, refl, sym, ap, ◌∙◌}
use mathlib.Core.Bool.{Bool, true, false}
use mathlib.Core.List.{List, []}
use native.Mathlib.Omega.{arith}
use mir.Val.{bool_byte}
use lib.Dec.{ltb}
use lib.ListN.{length, get_or, set, take, length-set}
use lib.Seq.{take_all, length-take-le, get_or-take}
use borrow.Author.Tests.{ltb-true, ltb-false}
use Rattle.folds.specs.Fold.{when, any_to, list_to, over, zeros}
use Rattle.folds.proofs.Cases.{by, either}
use Rattle.folds.proofs.Lists.{listed, length-list_to, length-zeros, get_d_past}
use Rattle.graph.specs.Graph.{Graph, graph_of, Arcs, arcs, joining, seen, Inside, identity, part_cost}
use Rattle.graph.specs.Rows.{clusters}
use Rattle.graph.proofs.Edges.{row_inside, joining_is}
use Rattle.topology.specs.Level.{levels_of}
use Rattle.topology.specs.Order.{order_of, InOrder}
use Rattle.topology.proofs.Levels.{over-level}
use Rattle.topology.proofs.Orders.{order_all, order_below}
use Rattle.contraction.specs.Rules.{Round, Keeps}
use Rattle.contraction.specs.Next.{mate_of}
use Rattle.matching_scan.specs.State.{halts_at, offer_of, Widest}
use Rattle.matching.specs.Choice.{visit, visits, round_of}
use Rattle.matching.specs.Promises.{RoundReady, ClusterCosts, Holds, Tall, Context, Paired, Stepped, Matched}
use Rattle.matching.proofs.Choices.{Kept, none_kept, visit_kept}
use Rattle.matching.proofs.Visits.{visit_mated, visit_stopped, visit_keeps, visit_takes}
use Rattle.matching.proofs.Holding.{holds_none, holds_pair, visits_more}
use Rattle.matching.proofs.Lists.{cost_identity}

-- whether a pair is added, as the number that counts it
pub one_if : (r : Bool) {n : ℕ} → n ≡ bool_byte r → when r 1 ≡ n
one_if true e = sym e
one_if false e = sym e

pub widest_low : {A : Arcs} {f : ℕ → ℕ} {u j width to : ℕ} → Widest A f u j width to → (width ≡ 0 → ⊥) → to < 512
widest_low W n = either W.hit (λ e. absurd (n e)) (λ h. h.1)

-- a visit reads the edges A, which are those that a row sees
module _ (A : Arcs) (starts ends widths levels costs mates tos blocked : List ℕ) (bound u : ℕ) (lu : u < 512) (T : Tall mates tos blocked) where
  -- the visit takes none
  abbrev Stays : Type 0
  Stays = (vs row : List ℕ) (g : ℕ) → arcs row starts ends ≡ A → Context (graph_of vs starts ends widths) row g levels costs → (ps : Round) → Keeps (arcs row starts ends) g ps
      → Holds (arcs row starts ends) levels ps mates tos blocked → visit (graph_of vs starts ends widths) row (levels_of (arcs row starts ends) g) g bound ps u ≡ ps

  stays : Stays → Stepped A starts ends widths levels costs bound u mates tos blocked mates tos blocked 0
  stays h =
      record {
        tall = T;
        few = omega arith;
        is = λ vs row g q C ps K H. let e = h vs row g q C ps K H in record { holds = rw e H; counts = rw e (omega arith) };
      }

  pub stepped_mated : {x : ℕ} → x ≡ get_or mates u 0 → (x ≡ u → ⊥) → Stepped A starts ends widths levels costs bound u mates tos blocked mates tos blocked 0
  stepped_mated e n = stays (λ vs row g q C ps K H. visit_mated (graph_of vs starts ends widths) row g bound levels costs mates tos blocked C ps K H u lu e n)

  pub stepped_stopped : {r : Bool} → r ≡ any_to (length starts) (halts_at A levels tos u) → r ≡ true → Stepped A starts ends widths levels costs bound u mates tos blocked mates tos blocked 0
  stepped_stopped e t = stays (λ vs row g q C ps K H. visit_stopped (graph_of vs starts ends widths) row g bound levels costs mates tos blocked C ps K H u lu (rw (← q) at e) t)

  module _ {x : ℕ} (ex : x ≡ get_or mates u 0) (single : x ≡ u) {r : Bool} (er : r ≡ any_to (length starts) (halts_at A levels tos u)) (goes : r ≡ false)
      {width to : ℕ} (W : Widest A (offer_of A widths levels mates blocked costs bound u) u (length starts) width to) where
    pub stepped_none : width ≡ 0 → Stepped A starts ends widths levels costs bound u mates tos blocked mates tos blocked 0
    stepped_none e = stays (λ vs row g q C ps K H. visit_keeps (graph_of vs starts ends widths) row g bound levels costs mates tos blocked C ps K H u lu ex single (rw (← q) at er) goes (rw (← q) at W) e)

    pub stepped_pair : {mates' tos' blocked' : List ℕ} → (width ≡ 0 → ⊥) → Paired A levels u to mates tos blocked mates' tos' blocked'
        → Stepped A starts ends widths levels costs bound u mates tos blocked mates' tos' blocked' 1
    stepped_pair {blocked' = blocked'} n P =
        record {
          tall = rw (P.mates_are, P.tos_are) tall;
          few = omega arith;
          is = λ vs row g q C ps K H.
              let (e, t) = visit_takes (graph_of vs starts ends widths) row g bound levels costs mates tos blocked C ps K H u lu ex single (rw (← q) at er) goes (rw (← q) at W) n in
              record {
                holds = rw (e, P.mates_are, P.tos_are) (holds_pair (arcs row starts ends) levels mates tos blocked _ ps u to T H lu (widest_low W n) t (rw (← q) at P.blocks));
                counts = rw e (omega arith);
              };
        }
      where
        tall : Tall (set (set mates u to) to u) (set tos to 1) blocked'
        tall = record { mates_tall = length-set (set mates u to) to u ∙ length-set mates u to ∙ T.mates_tall; tos_tall = length-set tos to 1 ∙ T.tos_tall; blocked_tall = P.blocks.tall }

-- the lists of a rung name its clusters themselves
module _ {costs starts ends widths : List ℕ} {g : ℕ} (R : RoundReady (graph_of costs starts ends widths) (identity g) g) where
  pub ready_joining : arcs (identity g) starts ends ≡ joining starts ends
  unfolding identity
  ready_joining =
      let n : length (identity g) ≡ g = length-list_to _ _ in
      joining_is g starts ends (λ j l. omega (arith, R.row_of.whole, R.proper.formed.start_in j l))
      (λ j l. omega (arith, R.row_of.whole, R.proper.formed.end_in j (omega (arith, R.proper.formed.same_ends))))

round_at : (G : Graph) (bound : ℕ) (row : List ℕ) (g : ℕ) → g ≡ clusters row → round_of G bound row ≡ visits G row (levels_of (seen G row) g) g bound [] (order_of (seen G row) g)
unfolding round_of
round_at G bound row g e = rw e

-- the first i clusters of the order are visited
pub record Rounding (G : Graph) (row levels : List ℕ) (g bound i : ℕ) (mates tos blocked : List ℕ) (count : ℕ) : Type 0 where
  pub tall : Tall mates tos blocked
  pub few : count ≤ i
  pub keeps : Kept G row g bound (visits G row (levels_of (seen G row) g) g bound [] (take i (order_of (seen G row) g)))
  pub holds : Holds (seen G row) levels (visits G row (levels_of (seen G row) g) g bound [] (take i (order_of (seen G row) g))) mates tos blocked
  pub counts : count ≡ length (visits G row (levels_of (seen G row) g) g bound [] (take i (order_of (seen G row) g)))

module _ (G : Graph) (row levels costs : List ℕ) (g bound : ℕ) (C : Context G row g levels costs) {A : Arcs} (same : seen G row ≡ A) where
  inside : Inside (seen G row) g
  inside = row_inside C.ready.proper.formed C.ready.row_of

  all : length (order_of (seen G row) g) ≡ g
  all = order_all (seen G row) g inside C.ready.acyclic

  pub rounding_none : {mates : List ℕ} → mates ≡ list_to 512 (λ c. c) → Rounding G row levels g bound 0 mates (zeros 512) (zeros 512) 0
  unfolding visits
  rounding_none {mates} e =
      rw e
      (record {
        tall = record { mates_tall = length-list_to 512 (λ c. c); tos_tall = length-zeros 512; blocked_tall = length-zeros 512 };
        few = omega arith;
        keeps = none_kept G row g bound inside;
        holds = holds_none (seen G row) levels;
        counts = refl;
      })

  order_is : {order : List ℕ} → InOrder A g order → (i : ℕ) → i < g → get_or order i 0 ≡ get_or (order_of (seen G row) g) i 0
  order_is O = rw (← same) at O.is

  pub order_low : {i u : ℕ} {order : List ℕ} → InOrder A g order → i < g → u ≡ get_or order i 0 → u < 512
  order_low {i} O l e = let h = order_below (seen G row) g inside i (omega (arith, all)) in omega (arith, order_is O i l, C.ready.small)

  pub rounding_turn : {i u r count : ℕ} {order mates tos blocked mates' tos' blocked' : List ℕ} → InOrder A g order → i < g → u ≡ get_or order i 0
      → Rounding G row levels g bound i mates tos blocked count
      → Stepped A G.starts G.ends G.widths levels costs bound u mates tos blocked mates' tos' blocked' r
      → Rounding G row levels g bound (i + 1) mates' tos' blocked' (count + r)
  rounding_turn {i} {u} {r} {count} O l e N S =
      let L = levels_of (seen G row) g in
      let ps = visits G row L g bound [] (take i (order_of (seen G row) g)) in
      let q : visits G row L g bound [] (take (i + 1) (order_of (seen G row) g)) ≡ visit G row L g bound ps u =
      visits_more G row L g bound [] (order_of (seen G row) g) i (omega (arith, all)) ∙ ap (visit G row L g bound ps) (sym (order_is O i l) ∙ sym e) in
      let W = S.is G.costs row g same C ps N.keeps.0 N.holds in
      record {
        tall = S.tall;
        few = omega (arith, N.few, S.few);
        keeps = rw q (visit_kept G row g bound inside ps u N.keeps);
        holds = rw q W.holds;
        counts = rw q (omega (arith, N.counts, W.counts));
      }

  pub rounding_end : {i count : ℕ} {mates tos blocked : List ℕ} → i ≤ g → g ≤ i → Rounding G row levels g bound i mates tos blocked count → Matched G bound row mates count
  rounding_end {i} {count} {mates} l h N =
      let full : take i (order_of (seen G row) g) ≡ order_of (seen G row) g = take_all i (order_of (seen G row) g) (omega (arith, all)) in
      let H = rw full at N.holds in
      let e = sym (round_at G bound row g C.ready.count) in
      record {
        counts = (rw full at N.counts) ∙ ap length e;
        few = omega (arith, N.few, C.ready.small);
        mates_are = listed mates 512 (mate_of (visits G row (levels_of (seen G row) g) g bound [] (order_of (seen G row) g))) N.tall.mates_tall H.mates_are ∙ ap (λ (ps : Round). list_to 512 (mate_of ps)) e;
      }

-- the arrays that the round has made
module _ {weights starts ends widths : List ℕ} {g : ℕ} (R : RoundReady (graph_of (take g weights) starts ends widths) (identity g) g) (W : ClusterCosts g weights) where
  costs_are : (c : ℕ) → get_or weights c 0 ≡ part_cost (take g weights) (identity g) c
  costs_are c =
      let n : length (take g weights) ≡ g = length-take-le g weights (omega (arith, W.tall, R.small)) in
      by (ltb c g) (λ t. sym (get_or-take g weights c 0 (ltb-true c g t))) (λ t. W.past c (ltb-false c g t) ∙ sym (get_d_past (take g weights) c (omega (arith, ltb-false c g t))))
      ∙ sym (cost_identity (take g weights) c)
      ∙ ap (λ (l : ℕ). part_cost (take g weights) (identity l) c) n

  pub round_context : {levels : List ℕ} → levels ≡ over (levels_of (joining starts ends) g) (zeros 512) → Context (graph_of (take g weights) starts ends widths) (identity g) g levels weights
  round_context {levels} q =
      let e : levels ≡ over (levels_of (arcs (identity g) starts ends) g) (zeros 512) = rw (ready_joining R) q in
      record {
        ready = R;
        levels_are = λ v. ap (λ (l : List ℕ). get_or l v 0) e ∙ over-level (arcs (identity g) starts ends) g v;
        costs_are = λ c _. costs_are c;
      }
