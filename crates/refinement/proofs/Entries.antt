-- What each entry of a list of allowed ones keeps, and what it does to the cut.
use Prim.Native.Nat.{ℕ, zero, suc, ◌+◌, ◌-◌, ◌≤◌, ◌<◌}
use mathlib.Core.Path.{◌≡◌, refl, sym, ◌∙◌}
use mathlib.Core.Bool.{Bool, true, false}
use mathlib.Core.Logic.{inl, inr}
use mathlib.Core.List.{List, [], ◌∷◌}
use native.Mathlib.Nat.{not-suc-le-zero}
use native.Mathlib.Omega.{arith}
use lib.Dec.{eqb}
use lib.IntN.{pos, ◌+ℤ◌, +ℤ_idr}
use lib.Signed.{lt_z}
use lib.ListN.{length, get_or, take}
use borrow.Author.Tests.{eqb-true, eq-eqb, ltb-true}
use Rattle.folds.specs.Fold.{pick, when, first_to, any_to}
use Rattle.folds.proofs.Cases.{either}
use Rattle.folds.proofs.Searches.{any_i, first_to_hit}
use Rattle.folds.proofs.Lists.{length-list_to, get_d_list_to}
use Rattle.graph.specs.Graph.{Graph, vertices, edges, via, Formed, Proper}
use Rattle.graph.specs.Rows.{Hierarchy}
use Rattle.graph.specs.Table.{part_size, place_at}
use Rattle.graph.proofs.Tables.{size_cost, place_is}
use Rattle.refinement.specs.Move.{moved_to, part_of, leaves, pull, gain_to, Stays, Allowed, Improves}
use Rattle.refinement.specs.Entries.{State, state_of, Entry, move, down, step, after, Admits, AllAllowed, cut_at, gain, gains, GoodAt}
use Rattle.refinement.proofs.Move.{within_touched, cut_move, order_move, cost_third, cost_old, filled_move}
use Rattle.refinement.specs.Pass.{measure}
use Rattle.refinement.proofs.Signed.{signed, signed_chain}
use Rattle.refinement.proofs.Gains.{improves_pull}
use Rattle.refinement.proofs.Spread.{measure_falls}

-- what the laws of moves ask of the rows 0 to top: an entry for each vertex, and what a row joins, the row above joins
pub record Nested (G : Graph) (rows : ℕ → List ℕ) (top : ℕ) : Type 0 where
  pub whole : (r : ℕ) → r ≤ top → length (rows r) ≡ vertices G
  pub refines : (r : ℕ) → r < top → (a b : ℕ) → a < vertices G → b < vertices G → get_or (rows r) a 0 ≡ get_or (rows r) b 0 → get_or (rows (suc r)) a 0 ≡ get_or (rows (suc r)) b 0

pub nested : {G : Graph} {rows : ℕ → List ℕ} {top : ℕ} → Hierarchy G rows top → Nested G rows top
nested H = record { whole = λ r l. (H.layer r l).row_of.whole; refines = H.refines }

-- one row by itself
pub alone : {G : Graph} (row : List ℕ) → length row ≡ vertices G → Nested G (λ r. row) 0
alone row e = record { whole = λ r l. e; refines = λ r l a b la lb q. q }

pub length_moved : (row : List ℕ) (h t : ℕ) (parts : List ℕ) → length (moved_to row h t parts) ≡ length parts
unfolding moved_to
length_moved row h t parts = length-list_to _ _

pub moved_at : (row : List ℕ) (h t : ℕ) (parts : List ℕ) (v : ℕ) → v < length parts → get_or (moved_to row h t parts) v 0 ≡ pick (eqb (get_or row v 0) h) t (get_or parts v 0)
unfolding moved_to
moved_at row h t parts v l = get_d_list_to (length parts) (λ i. pick (eqb (get_or row i 0) h) t (get_or parts i 0)) v l

-- the lowest vertex of a cluster
pub first_of : (row : List ℕ) (h v : ℕ) → v < length row → get_or row v 0 ≡ h
    → (a : ℕ) × (a < length row) × (get_or row a 0 ≡ h) × ((parts : List ℕ) → part_of row parts h ≡ get_or parts a 0)
unfolding any_to part_of
first_of row h v l e =
    let p : ℕ → Bool = λ i. eqb (get_or row i 0) h in
    let a = first_to (length row) p in
    let q : a < length row = ltb-true a (length row) (any_i (length row) p v l (eq-eqb (get_or row v 0) h e)) in
    (a, q, eqb-true (get_or row a 0) h (first_to_hit (length row) p q), λ parts. refl)

-- where the vertices of one cluster share a part, it is the cluster's
pub part_of_lem : (row parts : List ℕ) (n h v : ℕ) → length row ≡ n
    → ((a b : ℕ) → a < n → b < n → get_or row a 0 ≡ get_or row b 0 → get_or parts a 0 ≡ get_or parts b 0) → v < n → get_or row v 0 ≡ h → get_or parts v 0 ≡ part_of row parts h
part_of_lem row parts n h v w shared l e =
    let (a, la, ea, q) = first_of row h v (omega arith) e in shared v a l (omega arith) (e ∙ sym ea) ∙ sym (q parts)

-- the sizes of parts after a move: a third one keeps its size, the old one does not grow
module _ (G : Graph) (F : Formed G) (row parts parts' : List ℕ) (h s t : ℕ)
    (all : (v : ℕ) → v < vertices G → get_or row v 0 ≡ h → get_or parts v 0 ≡ s)
    (upd : (v : ℕ) → v < vertices G → get_or parts' v 0 ≡ pick (eqb (get_or row v 0) h) t (get_or parts v 0)) where
  pub size_third : (u : ℕ) → (s ≡ u → ⊥) → (t ≡ u → ⊥) → part_size G parts' u ≡ part_size G parts u
  size_third u n m = size_cost G parts' u ∙ cost_third G F row parts parts' h s t all upd u n m ∙ sym (size_cost G parts u)

  pub size_old : (s ≡ t → ⊥) → part_size G parts' s ≤ part_size G parts s
  size_old n = omega (arith, cost_old G F row parts parts' h s t all upd n, size_cost G parts' s, size_cost G parts s)

-- a move leaves each part its place
place_kept : (G : Graph) (k : ℕ) (parts parts' : List ℕ) (u : ℕ) → place_at G k parts' u ≡ place_at G k parts u
place_kept G k parts parts' u = place_is G k parts' u ∙ sym (place_is G k parts u)

module _ (G : Graph) (P : Proper G) (k bound : ℕ) (rows : ℕ → List ℕ) (top : ℕ) (H : Nested G rows top) where
  module _ (s : State) (I : GoodAt G k bound rows top s) where
    row_long : length (rows s.rung) ≡ vertices G
    row_long = H.whole s.rung I.kept

    pub all_own : (h v : ℕ) → v < vertices G → get_or (rows s.rung) v 0 ≡ h → get_or s.parts v 0 ≡ part_of (rows s.rung) s.parts h
    all_own h v l e = part_of_lem (rows s.rung) s.parts (vertices G) h v row_long I.table.shared l e

    pub all_moved : (h t v : ℕ) → v < vertices G → get_or (moved_to (rows s.rung) h t s.parts) v 0 ≡ pick (eqb (get_or (rows s.rung) v 0) h) t (get_or s.parts v 0)
    all_moved h t v l = moved_at (rows s.rung) h t s.parts v (omega (arith, I.table.whole))

    -- h goes to any part t from the highest of the predecessors to the lowest of the successors
    pub good_move : (h t : ℕ) → t < k
        → ((j : ℕ) → j < edges G → leaves (rows s.rung) G.ends G.starts h j ≡ true → place_at G k s.parts (via s.parts G.starts j) ≤ place_at G k s.parts t)
        → ((j : ℕ) → j < edges G → leaves (rows s.rung) G.starts G.ends h j ≡ true → place_at G k s.parts t ≤ place_at G k s.parts (via s.parts G.ends j))
        → part_size G (moved_to (rows s.rung) h t s.parts) (part_of (rows s.rung) s.parts h) ≤ bound
        → part_size G (moved_to (rows s.rung) h t s.parts) t ≤ bound
        → Stays G (rows s.rung) s.parts h → GoodAt G k bound rows top (step rows (move h t) s)
    good_move h t lt low high old new left =
        record {
          kept = I.kept;
          table = record {
            whole = length_moved row h t s.parts ∙ I.table.whole;
            below = λ v l. rw (upd v l) (pick_below (eqb (get_or row v 0) h) lt (I.table.below v l));
            shared = λ a b la lb e. cc (upd a la, upd b lb, I.table.shared a b la lb e);
            forward = λ j l.
                let o = order_move G P.formed row s.parts parts' h own t all upd (place_at G k s.parts) low high I.table.forward j l in
                omega (arith, o, place_kept G k s.parts parts' (via parts' G.starts j), place_kept G k s.parts parts' (via parts' G.ends j));
            filled = λ u l. filled_move G P.formed row s.parts parts' h own t all upd left u (I.table.filled u l);
            within = within_touched (part_size G s.parts) (part_size G parts') own t k bound (size_third G P.formed row s.parts parts' h own t all upd) old new I.table.within;
          };
        }
      where
        row : List ℕ
        row = rows s.rung

        parts' : List ℕ
        parts' = moved_to row h t s.parts

        own : ℕ
        own = part_of row s.parts h

        all : (v : ℕ) → v < vertices G → get_or row v 0 ≡ h → get_or s.parts v 0 ≡ own
        all = all_own h

        upd : (v : ℕ) → v < vertices G → get_or parts' v 0 ≡ pick (eqb (get_or row v 0) h) t (get_or s.parts v 0)
        upd = all_moved h t

        pick_below : (r : Bool) {a b : ℕ} → a < k → b < k → pick r a b < k
        pick_below true p q = p
        pick_below false p q = q

    own_below : (h : ℕ) → Stays G (rows s.rung) s.parts h → part_of (rows s.rung) s.parts h < k
    own_below h (v, l, e, n) = rw e at (I.table.below v l)

    pub good_allowed : (h t : ℕ) → Allowed G k bound (rows s.rung) s.parts h t → GoodAt G k bound rows top (step rows (move h t) s)
    unfolding place_at
    good_allowed h t a =
        let c = a.candidate in
        let own = part_of (rows s.rung) s.parts h in
        good_move h t c.below c.low c.high
        (omega (arith, size_old G P.formed (rows s.rung) s.parts (moved_to (rows s.rung) h t s.parts) h own t (all_own h) (all_moved h t) c.other, I.table.within own (own_below h a.stays))) a.fits a.stays

    pub cut_allowed : (h t : ℕ) → cut_at G s + pull G (rows s.rung) s.parts h (part_of (rows s.rung) s.parts h) ≡ cut_at G (step rows (move h t) s) + pull G (rows s.rung) s.parts h t
    cut_allowed h t = cut_move G P.formed (rows s.rung) s.parts (moved_to (rows s.rung) h t s.parts) h (part_of (rows s.rung) s.parts h) t (all_own h) (all_moved h t)

    -- a move that improves lowers the cut where it gains, and the measure in any case
    module _ (h t : ℕ) (a : Allowed G k bound (rows s.rung) s.parts h t) (b : Improves G (rows s.rung) s.parts h t) where
      pub cut_falls : when (lt_z (pos 0) (gain G rows (move h t) s)) 1 + cut_at G (step rows (move h t) s) ≤ cut_at G s
      cut_falls = omega (arith, cut_allowed h t, improves_pull G (rows s.rung) s.parts h t b)

      pub move_falls : measure G k (step rows (move h t) s).parts < measure G k s.parts
      move_falls =
          measure_falls G P.formed (rows s.rung) s.parts (moved_to (rows s.rung) h t s.parts) h (part_of (rows s.rung) s.parts h) t (all_own h) (all_moved h t) a.candidate.other k
          (own_below h a.stays) a.candidate.below
          (either b (λ g. inl (omega (arith, rw g at cut_falls))) (λ x. inr (omega (arith, cut_falls), x.1)))

  pub good_down : (s : State) (r : ℕ) → s.rung ≡ suc r → GoodAt G k bound rows top s → GoodAt G k bound rows top (state_of r s.parts)
  good_down s r q I =
      record {
        kept = omega (arith, I.kept);
        table = record {
          whole = I.table.whole;
          below = I.table.below;
          shared = λ a b la lb e. I.table.shared a b la lb (rw q (H.refines r (omega (arith, I.kept)) a b la lb e));
          forward = I.table.forward;
          filled = I.table.filled;
          within = I.table.within;
        };
      }

  pub good_step : (e : Entry) (s : State) → GoodAt G k bound rows top s → Admits G k bound rows e s → GoodAt G k bound rows top (step rows e s)
  good_step (move h t) s I a = good_allowed s I h t a
  good_step down s I a = good_down s (s.rung - 1) (omega arith) I

  pub cut_step : (e : Entry) (s : State) → GoodAt G k bound rows top s → pos (cut_at G s) ≡ pos (cut_at G (step rows e s)) +ℤ gain G rows e s
  unfolding gain_to
  cut_step (move h t) s I = signed _ _ _ _ (cut_allowed s I h t)
  cut_step down s I = sym (+ℤ_idr (pos (cut_at G s)))

  pub good_after : (es : List Entry) (s : State) → GoodAt G k bound rows top s → AllAllowed G k bound rows es s → (i : ℕ) → GoodAt G k bound rows top (after rows (take i es) s)
  good_after es s I a zero = I
  good_after [] s I a (suc i) = I
  good_after (e ∷ es) s I a (suc i) = good_after es (step rows e s) (good_step e s I a.0) a.1 i

  pub cut_after : (es : List Entry) (s : State) → GoodAt G k bound rows top s → AllAllowed G k bound rows es s → (i : ℕ) → i < length es
      → pos (cut_at G (after rows (take i es) s)) ≡ pos (cut_at G (after rows (take (suc i) es) s)) +ℤ gain G rows (get_or es i down) (after rows (take i es) s)
  cut_after [] s I a i l = absurd (not-suc-le-zero l)
  cut_after (e ∷ es) s I a zero l = cut_step e s I
  cut_after (e ∷ es) s I a (suc i) l = cut_after es (step rows e s) (good_step e s I a.0) a.1 i (omega arith)

  -- the same in total
  pub cut_total : (es : List Entry) (s : State) → GoodAt G k bound rows top s → AllAllowed G k bound rows es s
      → GoodAt G k bound rows top (after rows es s) × (pos (cut_at G s) ≡ pos (cut_at G (after rows es s)) +ℤ gains G rows es s)
  cut_total [] s I a = (I, sym (+ℤ_idr (pos (cut_at G s))))
  cut_total (e ∷ es) s I a =
      let r = cut_total es (step rows e s) (good_step e s I a.0) a.1 in
      (r.0, signed_chain _ _ (gain G rows e s) (pos (cut_at G (after rows es (step rows e s)))) (gains G rows es (step rows e s)) (cut_step e s I) r.1)
