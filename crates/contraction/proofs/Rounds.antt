-- Lists of rounds: no cycle after any of them, and the rows they leave are a hierarchy, whoever picked the pairs.
use Prim.Native.Nat.{ℕ, zero, suc, ◌<◌}
use mathlib.Core.Path.{◌≡◌, refl, ◌∙◌}
use mathlib.Core.Logic.{◌⊎◌, inl, inr}
use mathlib.Core.List.{List, [], ◌∷◌}
use native.Mathlib.Omega.{arith}
use lib.ListN.{length, get_or, take}
use Rattle.folds.specs.Fold.{max_to}
use Rattle.folds.proofs.Cases.{either}
use Rattle.folds.proofs.Searches.{max_ge, max_le}
use Rattle.folds.proofs.Lists.{length-list_to}
use Rattle.graph.specs.Walk.{Acyclic}
use Rattle.graph.specs.Graph.{Graph, vertices, identity, seen, Edge, Formed}
use Rattle.graph.specs.Rows.{clusters, Hierarchy, Layer}
use Rattle.graph.proofs.Edges.{identity_row, identity_at}
use Rattle.contraction.specs.Rules.{Round, Keeps}
use Rattle.contraction.specs.Next.{mate_of, next_row_of}
use Rattle.contraction.specs.Rounds.{row_after, AllKeep}
use Rattle.contraction.proofs.Mates.{mate_back, keeps_disjoint}
use Rattle.contraction.proofs.Next.{Onto, below_clusters, length_next, next_at, next_onto}
use Rattle.contraction.proofs.Join.{join_law}

-- no cluster of a layer is empty, by its row alone
pub layer_onto : {G : Graph} {row : List ℕ} → Layer G row → Onto row
layer_onto L c h = let (v, lv, e) = L.onto c h in (v, rw L.row_of.whole lv, e)

identity-length : (m : ℕ) → length (identity m) ≡ m
unfolding identity
identity-length m = length-list_to m _

max_zero : (f : ℕ → ℕ) → max_to 0 f ≡ 0
unfolding max_to
max_zero f = refl

pub identity-clusters : (n : ℕ) → clusters (identity n) ≡ n
unfolding clusters
identity-clusters zero = rw (identity-length 0) (max_zero _)
identity-clusters (suc n) = go (length (identity (suc n))) (identity-length (suc n))
  where
    go : (m : ℕ) → m ≡ suc n → max_to m (λ v. suc (get_or (identity (suc n)) v 0)) ≡ suc n
    go m e =
        let f : ℕ → ℕ = λ v. suc (get_or (identity (suc n)) v 0) in
        omega (
          arith,
          max_le m (suc n) f (λ v l. rw (identity_at (suc n) v (omega arith)) (omega arith)),
          max_ge m f n (omega arith),
          identity_at (suc n) n (omega arith),
        )

pub bottom_layer : (G : Graph) → Acyclic (Edge (seen G (identity (vertices G)))) → Layer G (identity (vertices G))
bottom_layer G ac =
    record {
      row_of = rw (identity-clusters (vertices G)) (identity_row G);
      onto = λ c l. let h : c < vertices G = rw (identity-clusters (vertices G)) at l in (c, h, identity_at (vertices G) c h);
      acyclic = ac;
    }

pub next_layer : (G : Graph) (row : List ℕ) (ps : Round) → Formed G → Layer G row → Keeps (seen G row) (clusters row) ps → Layer G (next_row_of row ps)
next_layer G row ps F S K =
    record {
      row_of = record {
        whole = length_next row (mate_of ps) ∙ S.row_of.whole;
        below = λ v l. below_clusters (next_row_of row ps) v (rw (length_next row (mate_of ps), S.row_of.whole) l);
      };
      onto = λ c h. let (v, lv, e) = next_onto row (mate_of ps) (mate_back ps (keeps_disjoint K)) c h in (v, omega (arith, length_next row (mate_of ps), S.row_of.whole), e);
      acyclic = join_law G row ps F S.row_of (layer_onto S) K S.acyclic;
    }

pub after_layer : (G : Graph) → Formed G → (row : List ℕ) (rs : List Round) → Layer G row → AllKeep G row rs → (i : ℕ) → Layer G (row_after row (take i rs))
after_layer G F row [] S K zero = S
after_layer G F row [] S K (suc i) = S
after_layer G F row (ps ∷ rs) S K zero = S
after_layer G F row (ps ∷ rs) S (k, K) (suc i) = after_layer G F (next_row_of row ps) rs (next_layer G row ps F S k) K i

-- one round more, or the list has ended
row_step : (row : List ℕ) (rs : List Round) (r : ℕ)
    → (row_after row (take (suc r) rs) ≡ row_after row (take r rs)) ⊎ ((ps : Round) × (row_after row (take (suc r) rs) ≡ next_row_of (row_after row (take r rs)) ps))
row_step row [] zero = inl refl
row_step row [] (suc r) = inl refl
row_step row (ps ∷ rs) zero = inr (ps, refl)
row_step row (ps ∷ rs) (suc r) = row_step (next_row_of row ps) rs r

-- DEMAND 3, FIRST PART, of the whole list: each round keeps the rules on its own row, so no row has a cycle
pub rounds_acyclic : (G : Graph) → Formed G → Acyclic (Edge (seen G (identity (vertices G))))
    → (rs : List Round) → AllKeep G (identity (vertices G)) rs
    → (i : ℕ) → Acyclic (Edge (seen G (row_after (identity (vertices G)) (take i rs))))
rounds_acyclic G F ac rs K i = (after_layer G F (identity (vertices G)) rs (bottom_layer G ac) K i).acyclic

-- the rows of such a list are a hierarchy
pub kept_hierarchy : (G : Graph) → Formed G → Acyclic (Edge (seen G (identity (vertices G))))
    → (rs : List Round) → AllKeep G (identity (vertices G)) rs
    → (top : ℕ) → Hierarchy G (λ r. row_after (identity (vertices G)) (take r rs)) top
kept_hierarchy G F ac rs K top =
    record {
      bottom = refl;
      layer = λ r l. S r;
      refines = λ r l a b la lb e.
          either (row_step (identity (vertices G)) rs r)
          (λ q. rw q e)
          (λ (ps, q). rw (q, next_at (rows r) (mate_of ps) a (rw (S r).row_of.whole la), next_at (rows r) (mate_of ps) b (rw (S r).row_of.whole lb), e));
    }
  where
    rows : ℕ → List ℕ
    rows r = row_after (identity (vertices G)) (take r rs)

    S : (r : ℕ) → Layer G (row_after (identity (vertices G)) (take r rs))
    S r = after_layer G F (identity (vertices G)) rs (bottom_layer G ac) K r
