-- The starred cases of document 01, "Kits for the bench": one table, and one check over its rows.
use Rattle.std.specs.Prelude.{ℕ, suc, ◌*◌, Bool, true, false, ◌&&◌, List, [], ◌∷◌, eqb, replicate}
use Rattle.folds.specs.Fold.{over, same}
use Rattle.graph.specs.Graph.{Graph, graph_of, vertices}
use Rattle.validity.specs.Cause.{Answer}
use Rattle.inspection.specs.Inspect.{inspect_of, order_after}
use Rattle.hierarchy.specs.Rounds.{flat}
use Rattle.initial.specs.Initial.{Chosen, found, uncut}
use Rattle.partition.specs.Phases.{first_of}
use Rattle.validity.specs.Check.{most_vertices}
use Rattle.partition.specs.Split.{split_of, table_after, rows_left}

-- what is asked of the graph: its split, or the inspection of a table
pub data Question : Type 0 where
  split : Question
  inspection : List ℕ → Question

-- a graph, k and the bound; the answer in document 01's numbers and values; what is written of the table (or of the start order) and the
-- rows written of the ladder, none by a refusal; and where document 01 gives the first cut, that cut and its table
pub record Case : Type 0 where
  pub graph : Graph
  pub parts : ℕ
  pub bound : ℕ
  pub asked : Question
  pub number : ℕ
  pub values : List ℕ
  pub written : List ℕ
  pub rows : List (List ℕ)
  pub first : List ℕ

-- what is lent: each entry holds 77, and there is one more than is asked for, so that an entry written beyond shows
abbrev pub lent : ℕ → List ℕ
lent n = replicate (suc n) 77

abbrev pub is_answer : Case → Answer → Bool
is_answer c a = eqb c.number a.number && same c.values a.values

-- the first cut is as given; [] gives none
abbrev pub is_first : List ℕ → Chosen → Bool
is_first [] chosen = true
is_first (a ∷ l) uncut = false
is_first (a ∷ l) (found rung table cut) = same (a ∷ l) (cut ∷ table)

unfoldable pub splits : Case → List ℕ → List ℕ → Bool
splits c table ladder =
    is_answer c (split_of most_vertices c.graph c.parts c.bound table ladder)
    && (same (over c.written table) (table_after most_vertices c.graph c.parts c.bound table ladder)
    && (same (over (flat c.rows) ladder) (rows_left most_vertices c.graph c.parts c.bound table ladder)
    && is_first c.first (first_of c.graph c.parts c.bound)))

unfoldable pub inspects : Case → List ℕ → List ℕ → Bool
inspects c table order =
    is_answer c (inspect_of c.graph c.parts c.bound table order)
    && same (over c.written order) (order_after c.graph c.parts c.bound table order)

abbrev pub meets : Case → Question → Bool
meets c split = splits c (lent (vertices c.graph)) (lent (9 * vertices c.graph))
meets c (inspection table) = inspects c table (lent c.parts)

-- the one check of a row
unfoldable pub holds : Case → Bool
holds c = meets c c.asked

unfoldable pub every : List Case → Bool
every [] = true
every (c ∷ l) = holds c && every l

unfoldable pub starred : List Case
starred =
    -- 1. the kit of "Kit text"
    record {
      graph = graph_of (1 ∷ 1 ∷ 1 ∷ 1 ∷ 1 ∷ 1 ∷ []) (0 ∷ 1 ∷ 2 ∷ 3 ∷ 4 ∷ []) (1 ∷ 2 ∷ 3 ∷ 4 ∷ 5 ∷ []) (4 ∷ 1 ∷ 4 ∷ 1 ∷ 4 ∷ []);
      parts = 2;
      bound = 4;
      asked = split;
      number = 0;
      values = 1 ∷ 1 ∷ 1 ∷ 0 ∷ [];
      written = 0 ∷ 0 ∷ 1 ∷ 1 ∷ 1 ∷ 1 ∷ [];
      rows = (0 ∷ 1 ∷ 2 ∷ 3 ∷ 4 ∷ 5 ∷ []) ∷ (0 ∷ 0 ∷ 1 ∷ 1 ∷ 2 ∷ 2 ∷ []) ∷ [];
      first = [];
    }
    -- 2. first cut 5, one move, stages 0, 1, 1, 0, cut 0
    ∷ record {
      graph = graph_of (1 ∷ 1 ∷ 1 ∷ 1 ∷ []) (0 ∷ 1 ∷ []) (3 ∷ 2 ∷ []) (5 ∷ 5 ∷ []);
      parts = 2;
      bound = 3;
      asked = split;
      number = 0;
      values = 0 ∷ 0 ∷ 0 ∷ 1 ∷ [];
      written = 0 ∷ 1 ∷ 1 ∷ 0 ∷ [];
      rows = (0 ∷ 1 ∷ 2 ∷ 3 ∷ []) ∷ [];
      first = 5 ∷ 0 ∷ 1 ∷ 1 ∷ 1 ∷ [];
    }
    -- 3. rung 1 is {0,2}, {1}, {3}; rung 2 is {0,1,2}, {3}; cut 0
    ∷ record {
      graph = graph_of (1 ∷ 1 ∷ 1 ∷ 1 ∷ []) (0 ∷ 0 ∷ 1 ∷ 1 ∷ []) (2 ∷ 3 ∷ 2 ∷ 3 ∷ []) (1 ∷ 1 ∷ 1 ∷ 1 ∷ []);
      parts = 1;
      bound = 4;
      asked = split;
      number = 0;
      values = 0 ∷ 2 ∷ 2 ∷ 0 ∷ [];
      written = 0 ∷ 0 ∷ 0 ∷ 0 ∷ [];
      rows = (0 ∷ 1 ∷ 2 ∷ 3 ∷ []) ∷ (0 ∷ 1 ∷ 0 ∷ 2 ∷ []) ∷ (0 ∷ 0 ∷ 0 ∷ 1 ∷ []) ∷ [];
      first = [];
    }
    -- 4. inspection gives 13, place 0
    ∷ record {
      graph = graph_of (1 ∷ 1 ∷ 1 ∷ 1 ∷ 1 ∷ 1 ∷ []) (0 ∷ 2 ∷ 4 ∷ []) (1 ∷ 3 ∷ 5 ∷ []) (1 ∷ 1 ∷ 1 ∷ []);
      parts = 3;
      bound = 3;
      asked = inspection (0 ∷ 1 ∷ 1 ∷ 2 ∷ 2 ∷ 0 ∷ []);
      number = 13;
      values = 0 ∷ [];
      written = [];
      rows = [];
      first = [];
    }
    -- 5. no rung can be cut: 9, and the ladder holds its rows
    ∷ record {
      graph = graph_of (2 ∷ 4 ∷ 2 ∷ []) [] [] [];
      parts = 2;
      bound = 4;
      asked = split;
      number = 9;
      values = 0 ∷ [];
      written = [];
      rows = (0 ∷ 1 ∷ 2 ∷ []) ∷ [];
      first = [];
    }
    -- 6. one block, limit 1: cut 0; limit 0: 5, place 0
    ∷ record {
      graph = graph_of (1 ∷ []) [] [] [];
      parts = 1;
      bound = 1;
      asked = split;
      number = 0;
      values = 0 ∷ 0 ∷ 0 ∷ 0 ∷ [];
      written = 0 ∷ [];
      rows = (0 ∷ []) ∷ [];
      first = [];
    }
    ∷ record {
      graph = graph_of (1 ∷ []) [] [] [];
      parts = 1;
      bound = 0;
      asked = split;
      number = 5;
      values = 0 ∷ [];
      written = [];
      rows = [];
      first = [];
    }
    -- 7. no blocks: 1
    ∷ record {
      graph = graph_of [] [] [] [];
      parts = 1;
      bound = 1;
      asked = split;
      number = 1;
      values = 0 ∷ [];
      written = [];
      rows = [];
      first = [];
    }
    -- 8. wires 0-1 and 1-0: 8, place 0
    ∷ record {
      graph = graph_of (1 ∷ 1 ∷ []) (0 ∷ 1 ∷ []) (1 ∷ 0 ∷ []) (1 ∷ 1 ∷ []);
      parts = 1;
      bound = 2;
      asked = split;
      number = 8;
      values = 0 ∷ [];
      written = [];
      rows = [];
      first = [];
    }
    -- 9. wire 0-0: 6, place 0
    ∷ record {
      graph = graph_of (1 ∷ []) (0 ∷ []) (0 ∷ []) (1 ∷ []);
      parts = 1;
      bound = 1;
      asked = split;
      number = 6;
      values = 0 ∷ [];
      written = [];
      rows = [];
      first = [];
    }
    -- document 02, a: no wires. Stage 0 begins with 3 and gives block 1 to stage 1, the lowest of two that it evens with
    ∷ record {
      graph = graph_of (2 ∷ 1 ∷ 2 ∷ 1 ∷ []) [] [] [];
      parts = 3;
      bound = 3;
      asked = split;
      number = 0;
      values = 0 ∷ 0 ∷ 0 ∷ 0 ∷ [];
      written = 0 ∷ 1 ∷ 2 ∷ 1 ∷ [];
      rows = (0 ∷ 1 ∷ 2 ∷ 3 ∷ []) ∷ [];
      first = [];
    }
    -- document 02, a: a move that evens keeps the passes going
    ∷ record {
      graph = graph_of (1 ∷ 3 ∷ 2 ∷ []) [] [] [];
      parts = 2;
      bound = 5;
      asked = split;
      number = 0;
      values = 0 ∷ 0 ∷ 0 ∷ 0 ∷ [];
      written = 1 ∷ 0 ∷ 1 ∷ [];
      rows = (0 ∷ 1 ∷ 2 ∷ []) ∷ [];
      first = [];
    }
    ∷ []
