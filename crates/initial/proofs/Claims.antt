-- The claims of the initial partition: it is least and first on its row, higher rows have none, and its parts are good.
use Prim.Native.Nat.{ℕ, zero, suc, ◌≤◌}
use mathlib.Core.Path.{◌≡◌, refl, ap, sym, ◌∙◌, subst}
use mathlib.Core.Logic.{◌⊎◌, inl, inr, ◌↔◌}
use mathlib.Core.List.{List}
use native.Mathlib.Omega.{arith}
use native.Mathlib.Nat.{eq-or-lt_of_le}
use Rattle.folds.proofs.Cases.{either}
use Rattle.graph.specs.Graph.{Graph, cut_of, Formed, Proper}
use Rattle.graph.specs.Rows.{clusters, Hierarchy}
use Rattle.graph.specs.Table.{Good}
use Rattle.division_table.specs.Division.{fits, divisions, Pick, none, some, least}
use Rattle.division_table.proofs.Picks.{some_none}
use Rattle.division_table.proofs.Wins.{Beats, least_holds, least_beats}
use Rattle.initial.specs.Initial.{places_of, roomy, Divides, given_by, tabled, least_parts, initial_of, Chosen, found, uncut, or_lower, highest, chosen_of, LeastCut}
use Rattle.initial.specs.Positions.{PositionsOf, leaving_of}
use Rattle.initial.proofs.Layers.{layer_few, layer_placed}
use Rattle.initial.proofs.Places.{place_shared, parts_cut, parts_good}

-- one row: what its pick says
module _ (G : Graph) (F : Formed G) (k bound : ℕ) (row : List ℕ) (P : PositionsOf G (clusters row) (places_of G row)) where
  abbrev wanted : Pick (List ℕ)
  wanted = least (fits (clusters row) (roomy G bound (places_of G row)) 0) (λ d. cut_of G (given_by G row d)) (divisions (clusters row) k)

  holds : (c : ℕ) (d : List ℕ) → wanted ≡ some c d → Divides G k bound row d × (cut_of G (given_by G row d) ≡ c)
  holds = least_holds (clusters row) (roomy G bound (places_of G row)) (leaving_of G (places_of G row)) (λ d. cut_of G (given_by G row d)) (parts_cut G F (clusters row) (places_of G row) P) k

  beats : (e : List ℕ) → Divides G k bound row e → Beats (cut_of G (given_by G row e)) e wanted
  beats = least_beats (clusters row) (roomy G bound (places_of G row)) (leaving_of G (places_of G row)) (λ d. cut_of G (given_by G row d)) (parts_cut G F (clusters row) (places_of G row) P) k

  tabled_some : (p : Pick (List ℕ)) (c : ℕ) (t : List ℕ) → tabled (places_of G row) p ≡ some c t → (d : List ℕ) × (p ≡ some c d) × (t ≡ given_by G row d)
  tabled_some none c t e = absurd (some_none e)
  tabled_some (some b d) c t e = (d, cc, cc)

  tabled_none : (p : Pick (List ℕ)) → tabled (places_of G row) p ≡ none → p ≡ none
  tabled_none none e = refl
  tabled_none (some b d) e = absurd (some_none (sym e))

  pub row_found : (c : ℕ) (t : List ℕ) → initial_of G k bound row ≡ some c t
      → (d : List ℕ) × Divides G k bound row d × (t ≡ given_by G row d) × (cut_of G (given_by G row d) ≡ c) × ((e : List ℕ) → Divides G k bound row e → Beats (cut_of G (given_by G row e)) e (some c d))
  unfolding initial_of least_parts
  row_found c t e =
      let (d, q, g) = tabled_some wanted c t e in
      let (D, o) = holds c d q in
      (d, D, g, o, λ m M. subst (Beats (cut_of G (given_by G row m)) m) q (beats m M))

  pub row_none : initial_of G k bound row ≡ none → (e : List ℕ) → Divides G k bound row e → ⊥
  unfolding initial_of least_parts
  row_none e m M = subst (Beats (cut_of G (given_by G row m)) m) (tabled_none wanted e) (beats m M)

module _ (G : Graph) (proper : Proper G) (k bound : ℕ) (rows : ℕ → List ℕ) (kept : ℕ) (H : Hierarchy G rows kept) where
  -- the positions of a kept row
  row_placed : (r : ℕ) → r ≤ kept → PositionsOf G (clusters (rows r)) (places_of G (rows r))
  row_placed r l = layer_placed proper (H.layer r l)

  -- here and below, or only below
  choose : (r : ℕ) (p : Pick (List ℕ)) (lower : Chosen) (q : ℕ) (t : List ℕ) (c : ℕ) → or_lower r p lower ≡ found q t c → ((p ≡ some c t) × (q ≡ r)) ⊎ ((p ≡ none) × (lower ≡ found q t c))
  choose r none lower q t c e = inr (refl, e)
  choose r (some b u) lower q t c e = inl (cc, cc)

  choose_none : (r : ℕ) (p : Pick (List ℕ)) (lower : Chosen) → or_lower r p lower ≡ uncut → (p ≡ none) × (lower ≡ uncut)
  choose_none r none lower e = (refl, e)
  choose_none r (some b u) lower e = let z : ◌≡◌ {A = ℕ} 0 1 = cc in absurd (omega arith)

  abbrev picked : ℕ → Pick (List ℕ)
  picked r = initial_of G k bound (rows r)

  here : (r c : ℕ) (t : List ℕ) → r ≤ kept → picked r ≡ some c t → LeastCut G k bound rows r r t c
  here r c t l e =
      let (d, D, g, o, b) = row_found G proper.formed k bound (rows r) (row_placed r l) c t e in
      record {
        kept = omega arith;
        cuts = sym o ∙ ap (cut_of G) (sym g);
        starts = d;
        divides = D;
        gives = g;
        least = λ m M. either (b m M) (λ w. omega arith) (λ w. omega (arith, w.0));
        first = λ m M z. either (b m M) (λ w. absurd (omega arith)) (λ w. w.1);
        higher = λ s a h. absurd (omega arith);
      }

  -- a row above that has none
  above : (top r c : ℕ) (t : List ℕ) → suc top ≤ kept → picked (suc top) ≡ none → LeastCut G k bound rows top r t c → LeastCut G k bound rows (suc top) r t c
  above top r c t l n L =
      record {
        kept = omega (arith, L.kept);
        cuts = L.cuts;
        starts = L.starts;
        divides = L.divides;
        gives = L.gives;
        least = L.least;
        first = L.first;
        higher = λ q a h m M.
            either (eq-or-lt_of_le h)
            (λ s. row_none G proper.formed k bound (rows (suc top)) (row_placed (suc top) l) n m (rw s at M))
            (λ s. L.higher q a (omega arith) m M);
      }

  no_uncut : {A : Type 0} {r c : ℕ} {t : List ℕ} → uncut ≡ found r t c → A
  no_uncut e = let z : ◌≡◌ {A = ℕ} 0 1 = cc in absurd (omega arith)

  least_upto : (top : ℕ) → top ≤ kept → (r : ℕ) (t : List ℕ) (c : ℕ) → chosen_of G k bound rows top ≡ found r t c → LeastCut G k bound rows top r t c
  unfolding chosen_of highest
  least_upto zero l r t c e =
      either (choose 0 (picked 0) uncut r t c e) (λ w. rw w.1 (here 0 c t l w.0)) (λ w. no_uncut w.1)
  least_upto (suc top) l r t c e =
      either (choose (suc top) (picked (suc top)) (chosen_of G k bound rows top) r t c e) (λ w. rw w.1 (here (suc top) c t l w.0))
      (λ w. above top r c t l w.0 (least_upto top (omega arith) r t c w.1))

  none_upto : (top : ℕ) → top ≤ kept → chosen_of G k bound rows top ≡ uncut → (q : ℕ) → q ≤ top → (e : List ℕ) → Divides G k bound (rows q) e → ⊥
  unfolding chosen_of highest
  none_upto zero l e q h m M =
      let s : q ≡ 0 = omega arith in
      row_none G proper.formed k bound (rows 0) (row_placed 0 l) (choose_none 0 (picked 0) uncut e).0 m (rw s at M)
  none_upto (suc top) l e q h m M =
      let (n, b) = choose_none (suc top) (picked (suc top)) (chosen_of G k bound rows top) e in
      either (eq-or-lt_of_le h) (λ s. row_none G proper.formed k bound (rows (suc top)) (row_placed (suc top) l) n m (rw s at M))
      (λ s. none_upto top (omega arith) b q (omega arith) m M)

module _ {G : Graph} {rows : ℕ → List ℕ} {top : ℕ} (proper : Proper G) (H : Hierarchy G rows top) (k bound : ℕ) where
  -- THE FIRST CUT IS LEAST: a division of the row found gives the table, every other one cuts at least as much, the first among equals, and higher rows have none
  pub initial_least : {r c : ℕ} {t : List ℕ} → chosen_of G k bound rows top ≡ found r t c → LeastCut G k bound rows top r t c
  initial_least e = least_upto G proper k bound rows top H top (omega arith) _ _ _ e

  -- nothing is found exactly if no row has a division
  pub none_exactly : (chosen_of G k bound rows top ≡ uncut) ↔ ((q : ℕ) → q ≤ top → (e : List ℕ) → Divides G k bound (rows q) e → ⊥)
  none_exactly = (none_upto G proper k bound rows top H top (omega arith), back)
    where
      back : ((q : ℕ) → q ≤ top → (e : List ℕ) → Divides G k bound (rows q) e → ⊥) → chosen_of G k bound rows top ≡ uncut
      back h = go (chosen_of G k bound rows top) refl
        where
          go : (x : Chosen) → chosen_of G k bound rows top ≡ x → x ≡ uncut
          go uncut e = refl
          go (found r t c) e = let L = initial_least e in absurd (h r L.kept L.starts L.divides)

  -- the parts found: no edge goes backward, some vertex lies in each, each is within the bound, clusters stay whole
  pub initial_good : {r c : ℕ} {t : List ℕ} → chosen_of G k bound rows top ≡ found r t c → Good G k bound (rows r) t
  initial_good {r} e =
      let L = initial_least e in
      rw L.gives
      (parts_good G proper.formed (clusters (rows r)) (places_of G (rows r)) (layer_placed proper (H.layer r L.kept)) k bound (rows r) L.starts
      (place_shared G (rows r) proper.formed (H.layer r L.kept).row_of (layer_few proper (H.layer r L.kept)) (H.layer r L.kept).acyclic) L.divides)
