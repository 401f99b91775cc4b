-- The hierarchy's own rounds keep the join rules, and what every kept row has.
use Prim.Native.Nat.{ℕ, suc, ◌*◌, ◌<◌, ◌≤◌}
use mathlib.Core.Path.{◌≡◌, sym, ◌∙◌}
use mathlib.Core.Bool.{true}
use mathlib.Core.List.{List, ◌∷◌}
use native.Mathlib.Omega.{arith}
use lib.ListN.{get_or}
use borrow.Author.Tests.{ltb-true}
use Rattle.folds.specs.Fold.{sum_to, part}
use Rattle.graph.specs.Walk.{Acyclic}
use mathlib.Core.Logic.{◌↔◌}
use Rattle.graph.specs.Graph.{Graph, vertices, edges, identity, seen, Edge, Formed, part_cost, cut_of, through}
use Rattle.graph.specs.RowGraph.{RowGraph, row_graph, graph_cut, graph_cost}
use Rattle.graph.proofs.Rungs.{rung_cut, rung_cost, rung_edge}
use Rattle.graph.specs.Rows.{clusters, Hierarchy, Layer}
use Rattle.contraction.specs.Rules.{Round}
use Rattle.contraction.specs.Next.{mate_of}
use Rattle.contraction.proofs.Mates.{mate_back, keeps_disjoint}
use Rattle.contraction.proofs.Rounds.{layer_onto, bottom_layer, next_layer, kept_hierarchy, identity-clusters}
use Rattle.contraction.proofs.Sizes.{next_half, costs_sum}
use Rattle.matching.specs.Choice.{round_of}
use Rattle.matching.proofs.Choices.{round_keeps}
use Rattle.hierarchy.specs.Rounds.{large, above, rows_of, kept_of, row_of, dropped_of, rows_after}
use Rattle.hierarchy.specs.Claim.{OwnRounds}
use Rattle.hierarchy.proofs.Flat.{over-part}
use Rattle.hierarchy.proofs.Tried.{run, next_of, run_keep, run_chosen, run_rows, run_count, run_all, run_few}

module _ (G : Graph) (k bound : ℕ) (F : Formed G) (ac : Acyclic (Edge (seen G (identity (vertices G))))) where
  abbrev n : ℕ
  n = vertices G

  abbrev bottom : List ℕ
  bottom = identity n

  -- what a row has and each kept round hands on, every kept row has
  pub rows_all : (P : List ℕ → Type 0) → P bottom → ((row : List ℕ) → Layer G row → P row → large k row ≡ true → P (next_of G k bound row))
      → (r : ℕ) → r ≤ kept_of G k bound → Layer G (row_of G k bound r) × P (row_of G k bound r)
  unfolding kept_of row_of rows_of
  rows_all P p h r l =
      run_all G k bound (λ row. Layer G row × P row)
      (λ row (S, q) t. (next_layer G row (round_of G bound row) F S (round_keeps G bound row F S.row_of), h row S q t))
      (run G k bound 8 bottom).1 (bottom_layer G ac, p) r l

  pub row_layer : (r : ℕ) → r ≤ kept_of G k bound → Layer G (row_of G k bound r)
  row_layer r l = (rows_all (λ row. Unit {0}) tt (λ row S q t. tt) r l).0

  -- every kept rung has at least k groups
  pub row_many : k ≤ n → (r : ℕ) → r ≤ kept_of G k bound → k ≤ clusters (row_of G k bound r)
  unfolding large
  row_many h r l =
      (rows_all (λ row. k ≤ clusters row) (rw (identity-clusters n) h)
      (λ row S q t. omega (arith, ltb-true (2 * k) (clusters row) t, next_half row (mate_of (round_of G bound row)) (mate_back (round_of G bound row) (keeps_disjoint (round_keeps G bound row F S.row_of))) (layer_onto S))) r l).1

  -- group costs sum to the kit's cost
  pub row_costs : (r : ℕ) → r ≤ kept_of G k bound
      → sum_to (clusters (row_of G k bound r)) (part_cost G.costs (row_of G k bound r)) ≡ sum_to n (λ v. get_or G.costs v 0)
  row_costs r l = costs_sum G.costs (row_of G k bound r) (clusters (row_of G k bound r)) (row_layer r l).row_of.below

  -- THE OWN ROUNDS: a list of the rounds tried keeps the rules and leaves the ladder's rows
  pub kept_few : kept_of G k bound ≤ 8
  unfolding kept_of
  kept_few = run_few G k bound (run G k bound 8 bottom).1

  -- row r of the ladder afterwards
  pub stored_row : (rows' : List ℕ) (r : ℕ) → r ≤ kept_of G k bound → part (rows_after G k bound rows') (r * n) n ≡ row_of G k bound r
  unfolding rows_after kept_of row_of rows_of
  stored_row rows' r l = over-part n (bottom ∷ above G k bound 8 bottom) rows' (λ i li. (row_layer i (omega arith)).row_of.whole) r (omega arith)

  pub own_rounds : (rows' : List ℕ) → (rs : List Round) × OwnRounds G k bound (rows_after G k bound rows') rs
  unfolding kept_of row_of rows_of dropped_of
  own_rounds rows' =
      let (rs, R) = run G k bound 8 bottom in (
        rs,
        record {
          keep = run_keep G k bound F R (bottom_layer G ac);
          chosen = run_chosen G k bound R;
          rows = λ r l. stored_row rows' r l ∙ sym (run_rows G k bound R r l);
          count = run_count G k bound R;
        },
      )

  pub hierarchy_ext : {rows rows' : ℕ → List ℕ} {top : ℕ} → ((r : ℕ) → r ≤ top → rows r ≡ rows' r) → Hierarchy G rows top → Hierarchy G rows' top
  hierarchy_ext e H =
      record {
        bottom = sym (e 0 (omega arith)) ∙ H.bottom;
        layer = λ r l. rw (e r l) at (H.layer r l);
        refines = λ r l. rw (e r (omega arith), e (suc r) l) at (H.refines r l);
      }

  -- the kept rows are a hierarchy, by the contract of joining alone
  pub rows_hierarchy : Hierarchy G (row_of G k bound) (kept_of G k bound)
  unfolding kept_of row_of rows_of
  rows_hierarchy =
      let (rs, R) = run G k bound 8 bottom in
      hierarchy_ext (run_rows G k bound R) (kept_hierarchy G F ac rs (run_keep G k bound F R (bottom_layer G ac)) (kept_of G k bound))

  -- the rung's own graph is what the row gives: cut and costs of a table over its groups, and its wires
  module _ (r : ℕ) (l : r ≤ kept_of G k bound) where
    abbrev own : List ℕ
    own = row_of G k bound r

    abbrev rung : RowGraph
    rung = row_graph G own (clusters own)

    pub row_cut : (table : List ℕ) → graph_cut rung table ≡ cut_of G (through own table)
    row_cut table = rung_cut G own table (clusters own) F (row_layer r l).row_of

    pub row_cost : (table : List ℕ) (u : ℕ) → graph_cost rung table u ≡ part_cost G.costs (through own table) u
    row_cost table u = rung_cost G own table (clusters own) F (row_layer r l).row_of u

    pub row_edge : ((j : ℕ) → j < edges G → 0 < get_or G.widths j 0) → (a b : ℕ) → (0 < rung.width a b) ↔ Edge (seen G own) a b
    row_edge wide a b = rung_edge G own own (clusters own) F (row_layer r l).row_of wide a b
