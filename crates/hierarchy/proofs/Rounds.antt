-- The loop over the rounds: each leaves one row more.
use Prim.Native.Nat.{ℕ, suc, ◌+◌, ◌-◌, ◌*◌, ◌≤◌, ◌<◌}
use mathlib.Core.Path.{◌≡◌, refl, sym, ap, ◌∙◌}
use mathlib.Core.Bool.{true, false}
use mathlib.Core.List.{List, [], ◌∷◌, ◌++◌}
use native.Mathlib.Nat.{suc-mul}
use native.Mathlib.Omega.{arith}
use lib.ListN.{length, take, drop, length-append}
use lib.Seq.{drop-drop}
use borrow.Rule.Slice.PartMut.{put_mid}
use Rattle.std.specs.Prelude.{Some, None}
use Rattle.folds.specs.Fold.{over, put, part, Wrote}
use Rattle.folds.proofs.Cases.{by}
use Rattle.folds.proofs.Slices.{wrote_done, put_part, length-put}
use Rattle.folds.proofs.Parts.{wrote_part, part-put, drop-put}
use Rattle.graph.specs.Graph.{Graph, vertices, identity, seen}
use Rattle.graph.specs.Rows.{clusters, Layer, rows_in}
use Rattle.graph.proofs.Edges.{identity_row}
use Rattle.contraction.specs.Rules.{Keeps}
use Rattle.contraction.specs.Next.{mate_of, next_row_of}
use Rattle.contraction.proofs.Next.{length_next}
use Rattle.contraction.proofs.Rounds.{bottom_layer, next_layer, identity-clusters}
use Rattle.matching.specs.Choice.{round_of}
use Rattle.matching.specs.Promises.{RoundReady}
use Rattle.matching.proofs.Choices.{round_keeps}
use Rattle.hierarchy.specs.Rounds.{kept, above, rows_of, kept_of, flat, rows_after}
use Rattle.hierarchy.specs.Promises.{JoinedRow, Buildable, Built}
use Rattle.hierarchy.proofs.OneRound.{next_few, length_taken, rows_in_lem}

-- the rounds so far: row r and those below are in place, and what is above it is still to come
pub record JoiningRows (G : Graph) (k bound : ℕ) (rows₀ rows : List ℕ) (r g : ℕ) : Type 0 where
  pub sound : Layer G (rows_in rows (vertices G) r)
  pub count : g ≡ clusters (rows_in rows (vertices G) r)
  pub few : g ≤ vertices G
  pub wrote : Wrote rows₀ rows (r * vertices G + vertices G) (flat (above G k bound (8 - r) (rows_in rows (vertices G) r))) (flat (rows_of G k bound))
  pub kept_so : r + length (above G k bound (8 - r) (rows_in rows (vertices G) r)) ≡ kept_of G k bound

-- no round is kept: nothing is above
kept_no : (G : Graph) (k bound f : ℕ) (row : List ℕ) → kept G k bound row (round_of G bound row) ≡ false → above G k bound (suc f) row ≡ []
unfolding above
kept_no G k bound f row e = rw e

kept_yes : (G : Graph) (k bound f : ℕ) (row : List ℕ) → kept G k bound row (round_of G bound row) ≡ true
    → above G k bound (suc f) row ≡ next_row_of row (round_of G bound row) ∷ above G k bound f (next_row_of row (round_of G bound row))
unfolding above
kept_yes G k bound f row e = rw e

flat_cons : (row : List ℕ) (rows : List (List ℕ)) → flat (row ∷ rows) ≡ row ++ flat rows
unfolding flat
flat_cons row rows = refl

flat_none : flat [] ≡ []
unfolding flat
flat_none = refl

drop_past : (l p : List ℕ) (m : ℕ) → length p ≤ length l → length p ≤ m → drop m (put l 0 p) ≡ drop m l
drop_past l p m h g =
    let z : 0 + length p ≡ length p = omega arith in
    let d : drop (length p) (put l 0 p) ≡ drop (length p) l = rw z at (drop-put l p 0 (omega arith)) in
    let e : m ≡ length p + (m - length p) = omega arith in
    ap (λ (x : ℕ). drop x (put l 0 p)) e ∙ sym (drop-drop (m - length p) (length p) (put l 0 p))
    ∙ ap (drop (m - length p)) d ∙ drop-drop (m - length p) (length p) l ∙ ap (λ (x : ℕ). drop x l) (sym e)

-- row 0 in front
module _ (G : Graph) (rows : List ℕ) (room : 9 * vertices G ≤ length rows) where
  first_put : {q : List ℕ} → q ≡ identity (length (take (vertices G - 0) (drop 0 rows))) → put_mid 0 (vertices G - 0) rows q ≡ put rows 0 (identity (vertices G))
  first_put {q} e =
      let z : vertices G - 0 ≡ vertices G = omega arith in
      let lt : length (take (vertices G - 0) (drop 0 rows)) ≡ vertices G = rw z (length_taken rows 0 (vertices G) (omega arith)) in
      put_part rows (identity (vertices G)) q 0 (vertices G - 0) (e ∙ ap identity lt) (z ∙ sym (identity_row G).whole)

  first_row_is : rows_in (put rows 0 (identity (vertices G))) (vertices G) 0 ≡ identity (vertices G)
  first_row_is =
      let z : 0 * vertices G ≡ 0 = omega arith in
      let h = part-put rows (identity (vertices G)) 0 (omega (arith, (identity_row G).whole)) in
      rw z (rw (identity_row G).whole at h)

  first_length : length (put rows 0 (identity (vertices G))) ≡ length rows
  first_length = length-put rows 0 (identity (vertices G)) (omega (arith, (identity_row G).whole))

  pub first_room : {q : List ℕ} → q ≡ identity (length (take (vertices G - 0) (drop 0 rows))) → 9 * vertices G ≤ length (put_mid 0 (vertices G - 0) rows q)
  first_room e = rw (first_put e, first_length) room

  pub first_front : {q : List ℕ} → q ≡ identity (length (take (vertices G - 0) (drop 0 rows))) → rows_in (put_mid 0 (vertices G - 0) rows q) (vertices G) 0 ≡ identity (vertices G)
  first_front e = rw (first_put e) first_row_is

  -- the rows afterwards does not depend on what stood in row 0
  first_over : (above : List (List ℕ)) → over (flat (identity (vertices G) ∷ above)) (put rows 0 (identity (vertices G))) ≡ over (flat (identity (vertices G) ∷ above)) rows
  unfolding over flat
  first_over above =
      ap (λ (z : List ℕ). (identity (vertices G) ++ flat above) ++ z)
      (drop_past rows (identity (vertices G)) (length (identity (vertices G) ++ flat above)) (omega (arith, (identity_row G).whole)) (simp length-append (omega arith)))

module _ (G : Graph) (k bound : ℕ) (B : Buildable G k) (rows₀ : List ℕ) (room : 9 * vertices G ≤ length rows₀) (front : rows_in rows₀ (vertices G) 0 ≡ identity (vertices G)) where
  abbrev n : ℕ
  n = vertices G

  start_wrote : Wrote rows₀ rows₀ (0 * n + n) (flat (above G k bound 8 (identity n))) (flat (rows_of G k bound))
  unfolding rows_of flat part
  start_wrote =
      let e : 0 * n + n ≡ n = omega arith in
      let z : 0 * n ≡ 0 = omega arith in
      let f : take n rows₀ ≡ identity n = rw z at front in
      rw e (record { same = refl; upto = omega arith; front = ap (λ (x : List ℕ). x ++ flat (above G k bound 8 (identity n))) f; back = refl })

  pub joining_start : JoiningRows G k bound rows₀ rows₀ 0 n
  unfolding kept_of
  joining_start =
      record {
        sound = rw front (bottom_layer G B.acyclic);
        count = rw front (sym (identity-clusters n));
        few = omega arith;
        wrote = rw front start_wrote;
        kept_so = rw front (omega arith);
      }

  module _ {rows : List ℕ} {r g : ℕ} (C : JoiningRows G k bound rows₀ rows r g) where
    abbrev row : List ℕ
    row = rows_in rows (vertices G) r

    pub joining_ready : RoundReady G row g
    joining_ready =
        record {
          proper = B.proper;
          row_of = rw C.count C.sound.row_of;
          acyclic = C.sound.acyclic;
          count = C.count;
          small = omega (arith, C.few, B.proper.few);
        }

    pub joining_length : length rows ≡ length rows₀
    joining_length = C.wrote.same

    done : above G k bound (8 - r) row ≡ [] → Built G k bound rows₀ rows r
    unfolding rows_after
    done e =
        record {
          kept_is = omega (arith, C.kept_so, ap length e);
          rows_is = (wrote_done C.wrote (ap flat e ∙ flat_none)).1;
        }

    pub joining_end : 8 ≤ r → Built G k bound rows₀ rows r
    unfolding above
    joining_end l = done (let z : 8 - r ≡ 0 = omega arith in rw z)

    module _ (lr : r < 8) where
      abbrev next : List ℕ
      next = next_row_of row (round_of G bound row)

      fuel : 8 - r ≡ suc (8 - (r + 1))
      fuel = omega arith

      K : Keeps (seen G row) (clusters row) (round_of G bound row)
      K = round_keeps G bound row B.proper.formed C.sound.row_of

      next_length : length next ≡ n
      next_length = length_next row (mate_of (round_of G bound row)) ∙ C.sound.row_of.whole

      pub joining_stop : {rows' : List ℕ} → JoinedRow G k bound r rows rows' None → Built G k bound rows₀ rows' r
      joining_stop {rows'} D =
          by (kept G k bound row (round_of G bound row))
          (λ t. let e : None ≡ Some (clusters next) = rw t at D.answer_is in absurd (cc e))
          (λ t. let e : rows' ≡ rows = rw t at D.rows_are in rw e (done (rw fuel (kept_no G k bound (8 - (r + 1)) row t))))

      place : (r + 1) * n ≡ r * n + n
      place = let q : r + 1 ≡ suc r = omega arith in rw q (suc-mul r n)

      inside : r * n + n + length next ≤ length rows
      inside = omega (arith, next_length, rows_in_lem r n (length rows) lr (omega (arith, joining_length)))

      next_row : rows_in (put rows (r * n + n) next) (vertices G) (r + 1) ≡ next
      next_row = rw place (rw next_length at (part-put rows next (r * n + n) inside))

      next_wrote : kept G k bound row (round_of G bound row) ≡ true
          → Wrote rows₀ (put rows (r * n + n) next) ((r + 1) * n + n) (flat (above G k bound (8 - (r + 1)) next)) (flat (rows_of G k bound))
      next_wrote t =
          let rest : flat (above G k bound (8 - r) row) ≡ next ++ flat (above G k bound (8 - (r + 1)) next) =
          ap (λ (f : ℕ). flat (above G k bound f row)) fuel ∙ ap flat (kept_yes G k bound (8 - (r + 1)) row t) ∙ flat_cons next (above G k bound (8 - (r + 1)) next) in
          let w = wrote_part next (rw rest at C.wrote) inside in
          let e : r * n + n + length next ≡ (r + 1) * n + n = omega (arith, next_length, place) in
          rw e at w

      made : kept G k bound row (round_of G bound row) ≡ true → JoiningRows G k bound rows₀ (put rows (r * n + n) next) (r + 1) (clusters next)
      made t =
          record {
            sound = rw next_row (next_layer G row (round_of G bound row) B.proper.formed C.sound K);
            count = rw next_row refl;
            few = omega (arith, next_few bound joining_ready, C.sound.row_of.whole);
            wrote = rw next_row (next_wrote t);
            kept_so = rw next_row (omega (arith, C.kept_so, ap (λ (f : ℕ). length (above G k bound f row)) fuel, ap length (kept_yes G k bound (8 - (r + 1)) row t)));
          }

      pub joining_turn : {rows' : List ℕ} {h : ℕ} → JoinedRow G k bound r rows rows' (Some h) → JoiningRows G k bound rows₀ rows' (r + 1) h
      joining_turn {rows'} {h} D =
          by (kept G k bound row (round_of G bound row))
          (λ t.
          let e : rows' ≡ put rows (r * n + n) next = rw t at D.rows_are in
          let s : Some h ≡ Some (clusters next) = rw t at D.answer_is in
          let a : h ≡ clusters next = cc s in
          rw (e, a) (made t))
          (λ t. let s : Some h ≡ None = rw t at D.answer_is in absurd (cc s))

-- row 0 first, and then the rounds
pub built_first : {G : Graph} {k bound : ℕ} {rows rows' q : List ℕ} {r : ℕ} → 9 * vertices G ≤ length rows → q ≡ identity (length (take (vertices G - 0) (drop 0 rows)))
    → Built G k bound (put_mid 0 (vertices G - 0) rows q) rows' r → Built G k bound rows rows' r
unfolding rows_after rows_of
built_first {G} {k} {bound} {rows} room e U =
    record {
      kept_is = U.kept_is;
      rows_is = U.rows_is ∙ ap (over (flat (identity (vertices G) ∷ above G k bound 8 (identity (vertices G))))) (first_put G rows room e) ∙ first_over G rows room (above G k bound 8 (identity (vertices G)));
    }
