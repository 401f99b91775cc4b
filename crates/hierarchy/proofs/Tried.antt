-- The rounds tried from a row on, and the rows they leave.
use Prim.Native.Nat.{ℕ, zero, suc, ◌+◌, ◌<◌, ◌≤◌}
use mathlib.Core.Path.{◌≡◌, refl, sym, ◌∙◌}
use mathlib.Core.Bool.{Bool, true, false, ◌&&◌}
use mathlib.Core.List.{List, [], ◌∷◌}
use native.Mathlib.Omega.{arith}
use lib.Dec.{ltb}
use lib.ListN.{length, get_or, take}
use borrow.Author.Tests.{lt-ltb, le-ltb, ltb-true, ltb-false}
use Rattle.graph.specs.Rows.{Layer}
use Rattle.folds.specs.Fold.{pick, when}
use Rattle.folds.proofs.Cases.{by}
use Rattle.graph.specs.Graph.{Graph, Formed}
use Rattle.contraction.specs.Rules.{Round}
use Rattle.contraction.specs.Next.{next_row_of}
use Rattle.contraction.specs.Rounds.{row_after, AllKeep}
use Rattle.contraction.proofs.Rounds.{next_layer}
use Rattle.matching.specs.Choice.{round_of}
use Rattle.matching.proofs.Choices.{round_keeps}
use Rattle.hierarchy.specs.Rounds.{large, poor, kept, above}

shift : (a b : ℕ) → ltb (suc a) (suc b) ≡ ltb a b
shift a b = by (ltb a b) (λ t. lt-ltb (suc a) (suc b) (omega (arith, ltb-true a b t)) ∙ sym t) (λ t. le-ltb (suc a) (suc b) (omega (arith, ltb-false a b t)) ∙ sym t)

module _ (G : Graph) (k bound : ℕ) where
  abbrev pub next_of : List ℕ → List ℕ
  next_of row = next_row_of row (round_of G bound row)

  -- at most f rounds from a row on: the rows kept above it, and the rounds tried, the dropped one included
  pub data Run : ℕ → List ℕ → List (List ℕ) → List Round → Type 0 where
    full : {row : List ℕ} → Run 0 row [] []
    ends : {f : ℕ} {row : List ℕ} → large k row ≡ false → Run (suc f) row [] []
    drops : {f : ℕ} {row : List ℕ} → large k row ≡ true → poor row (round_of G bound row) ≡ true → Run (suc f) row [] (round_of G bound row ∷ [])
    keeps : {f : ℕ} {row : List ℕ} {rows : List (List ℕ)} {rs : List Round} → large k row ≡ true → poor row (round_of G bound row) ≡ false
        → Run f (next_of row) rows rs → Run (suc f) row (next_of row ∷ rows) (round_of G bound row ∷ rs)

  pub kept_row : (f : ℕ) (row : List ℕ) → large k row ≡ true → poor row (round_of G bound row) ≡ false → above G k bound (suc f) row ≡ next_of row ∷ above G k bound f (next_of row)
  unfolding above kept
  kept_row f row t p = rw (t, p)

  pub small_row : (f : ℕ) (row : List ℕ) → large k row ≡ false → above G k bound (suc f) row ≡ []
  unfolding above kept
  small_row f row t = rw t

  pub dropped_row : (f : ℕ) (row : List ℕ) → poor row (round_of G bound row) ≡ true → above G k bound (suc f) row ≡ []
  unfolding above kept
  dropped_row f row p = rw p (go (large k row))
    where
      go : (b : Bool) → pick (b && false) (next_of row ∷ above G k bound f (next_of row)) [] ≡ []
      go true = refl
      go false = refl

  -- the rows of the definition come of such a run
  pub run : (f : ℕ) (row : List ℕ) → (rs : List Round) × Run f row (above G k bound f row) rs
  unfolding above
  run zero row = ([], full)
  run (suc f) row =
      by (large k row)
      (λ t. by (poor row (round_of G bound row)) (λ p. (round_of G bound row ∷ [], rw (dropped_row f row p) (drops t p)))
      (λ p. let (rs, R) = run f (next_of row) in (round_of G bound row ∷ rs, rw (kept_row f row t p) (keeps t p R))))
      (λ t. ([], rw (small_row f row t) (ends t)))

  -- the rounds tried keep the rules
  pub run_keep : Formed G → {f : ℕ} {row : List ℕ} {rows : List (List ℕ)} {rs : List Round} → Run f row rows rs → Layer G row → AllKeep G row rs
  run_keep F full S = tt
  run_keep F (ends t) S = tt
  run_keep F (drops {row = row} t p) S = (round_keeps G bound row F S.row_of, tt)
  run_keep F (keeps {row = row} t p R) S =
      let K = round_keeps G bound row F S.row_of in (K, run_keep F R (next_layer G row (round_of G bound row) F S K))

  -- each is the choice on its own row
  pub run_chosen : {f : ℕ} {row : List ℕ} {rows : List (List ℕ)} {rs : List Round} → Run f row rows rs
      → (r : ℕ) → r < length rs → get_or rs r [] ≡ round_of G bound (row_after row (take r rs))
  run_chosen full r l = absurd (omega arith)
  run_chosen (ends t) r l = absurd (omega arith)
  run_chosen (drops t p) zero l = refl
  run_chosen (drops t p) (suc r) l = absurd (omega arith)
  run_chosen (keeps t p R) zero l = refl
  run_chosen (keeps t p R) (suc r) l = run_chosen R r (omega arith)

  -- the rows are those that the rounds leave
  pub run_rows : {f : ℕ} {row : List ℕ} {rows : List (List ℕ)} {rs : List Round} → Run f row rows rs
      → (r : ℕ) → r ≤ length rows → row_after row (take r rs) ≡ get_or (row ∷ rows) r []
  run_rows R zero l = refl
  run_rows full (suc r) l = absurd (omega arith)
  run_rows (ends t) (suc r) l = absurd (omega arith)
  run_rows (drops t p) (suc r) l = absurd (omega arith)
  run_rows (keeps {f = f} t p R) (suc r) l = run_rows {f = f} R r (omega arith)

  -- a round on the last of these rows is tried, and dropped
  abbrev pub drops_at : ℕ → List ℕ → List (List ℕ) → Bool
  drops_at f row rows = let last = get_or (row ∷ rows) (length rows) [] in ltb (length rows) f && (large k last && poor last (round_of G bound last))

  -- as many as were kept, and one more exactly if one was dropped
  pub run_count : {f : ℕ} {row : List ℕ} {rows : List (List ℕ)} {rs : List Round} → Run f row rows rs → length rs ≡ length rows + when (drops_at f row rows) 1
  run_count full = refl
  run_count (ends {f = f} t) = rw (lt-ltb 0 (suc f) (omega arith), t)
  run_count (drops {f = f} t p) = rw (lt-ltb 0 (suc f) (omega arith), t, p)
  run_count (keeps {f = f} {rows = rows} t p R) = rw (shift (length rows) f) (omega (arith, run_count R))

  -- what a row has and each kept round hands on, every row has
  pub run_all : (P : List ℕ → Type 0) → ((row : List ℕ) → P row → large k row ≡ true → P (next_of row))
      → {f : ℕ} {row : List ℕ} {rows : List (List ℕ)} {rs : List Round} → Run f row rows rs → P row → (r : ℕ) → r ≤ length rows → P (get_or (row ∷ rows) r [])
  run_all P h R p zero l = p
  run_all P h full p (suc r) l = absurd (omega arith)
  run_all P h (ends t) p (suc r) l = absurd (omega arith)
  run_all P h (drops t q) p (suc r) l = absurd (omega arith)
  run_all P h (keeps {f = f} {row = row} t q R) p (suc r) l = run_all P h {f = f} R (h row p t) r (omega arith)

  pub run_few : {f : ℕ} {row : List ℕ} {rows : List (List ℕ)} {rs : List Round} → Run f row rows rs → length rows ≤ f
  run_few full = omega arith
  run_few (ends t) = omega arith
  run_few (drops t p) = omega arith
  run_few (keeps t p R) = omega (arith, run_few R)
