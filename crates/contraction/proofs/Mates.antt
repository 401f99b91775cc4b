-- The other cluster of a pair.
use Prim.Native.Nat.{ℕ, zero, suc, ◌<◌}
use mathlib.Core.Path.{◌≡◌, refl, sym, ap, ◌∙◌}
use mathlib.Core.List.{[], ◌∷◌}
use native.Mathlib.Omega.{arith}
use lib.ListN.{length}
use borrow.Author.Tests.{eq-eqb, ne_eqb}
use Rattle.folds.proofs.Cases.{either, eq_or_ne}
use Rattle.graph.specs.Graph.{Arcs}
use Rattle.graph.proofs.Edges.{edge_other}
use Rattle.contraction.specs.Rules.{Pair, Round, pair_at, Keeps}
use Rattle.contraction.specs.Next.{mate_of, Disjoint}

-- what x and its mate y can be to the pairs: in none, from and to of one, to and from of one
pub data Is (ps : Round) (x y : ℕ) : Type 0 where
  alone : y ≡ x → ((i : ℕ) → i < length ps → (x ≡ (pair_at ps i).from → ⊥) × (x ≡ (pair_at ps i).to → ⊥)) → Is ps x y
  first : (i : ℕ) → i < length ps → x ≡ (pair_at ps i).from → y ≡ (pair_at ps i).to → Is ps x y
  second : (i : ℕ) → i < length ps → x ≡ (pair_at ps i).to → y ≡ (pair_at ps i).from → Is ps x y

is_more : (p : Pair) (ps : Round) (x y : ℕ) → (x ≡ p.from → ⊥) → (x ≡ p.to → ⊥) → Is ps x y → Is (p ∷ ps) x y
is_more p ps x y nu nv (alone e n) = alone e others
  where
    others : (i : ℕ) → i < length (p ∷ ps) → (x ≡ (pair_at (p ∷ ps) i).from → ⊥) × (x ≡ (pair_at (p ∷ ps) i).to → ⊥)
    others zero l = (nu, nv)
    others (suc i) l = n i (omega arith)
is_more p ps x y nu nv (first i l a b) = first (suc i) (omega arith) a b
is_more p ps x y nu nv (second i l a b) = second (suc i) (omega arith) a b

pub mate_is : (ps : Round) (x : ℕ) → Is ps x (mate_of ps x)
unfolding mate_of
mate_is [] x = alone refl (λ i l. absurd (omega arith))
mate_is (p ∷ ps) x =
    either (eq_or_ne x p.from) (λ e. first 0 (omega arith) e (rw (eq-eqb x p.from e)))
    (λ nu. either (eq_or_ne x p.to) (λ e. second 0 (omega arith) e (rw (ne_eqb x p.from nu, eq-eqb x p.to e)))
    (λ nv. rw (ne_eqb x p.from nu, ne_eqb x p.to nv) (is_more p ps x (mate_of ps x) nu nv (mate_is ps x))))

pub keeps_disjoint : {A : Arcs} {g : ℕ} {ps : Round} → Keeps A g ps → Disjoint ps
keeps_disjoint {A} {g} {ps} K =
    record {
      same_from = λ i k l h e. either (eq_or_ne i k) (λ q. q) (λ n. absurd ((K.two i k l h n).from_from e));
      same_to = λ i k l h e. either (eq_or_ne i k) (λ q. q) (λ n. absurd ((K.two i k l h n).to_to e));
      from_to = λ i k l h e. either (eq_or_ne i k)
          (λ q. edge_other A _ _ (K.one i l).joins (e ∙ ap (λ (z : ℕ). (pair_at ps z).to) (sym q)))
          (λ n. (K.two i k l h n).from_to e);
    }

module _ (ps : Round) (D : Disjoint ps) where
  pub mate_from : (i : ℕ) → i < length ps → mate_of ps (pair_at ps i).from ≡ (pair_at ps i).to
  mate_from i l = go (mate_is ps (pair_at ps i).from)
    where
      go : {y : ℕ} → Is ps (pair_at ps i).from y → y ≡ (pair_at ps i).to
      go (alone e n) = absurd ((n i l).0 refl)
      go (first k h a b) = b ∙ ap (λ (z : ℕ). (pair_at ps z).to) (sym (D.same_from i k l h a))
      go (second k h a b) = absurd (D.from_to i k l h a)

  pub mate_to : (i : ℕ) → i < length ps → mate_of ps (pair_at ps i).to ≡ (pair_at ps i).from
  mate_to i l = go (mate_is ps (pair_at ps i).to)
    where
      go : {y : ℕ} → Is ps (pair_at ps i).to y → y ≡ (pair_at ps i).from
      go (alone e n) = absurd ((n i l).1 refl)
      go (first k h a b) = absurd (D.from_to k i h l (sym a))
      go (second k h a b) = b ∙ ap (λ (z : ℕ). (pair_at ps z).from) (sym (D.same_to i k l h a))

  -- x is the mate of its mate
  pub mate_back : (x : ℕ) → mate_of ps (mate_of ps x) ≡ x
  mate_back x = go (mate_of ps x) (mate_is ps x)
    where
      go : (y : ℕ) → Is ps x y → mate_of ps y ≡ x
      go y (alone e n) = ap (mate_of ps) e ∙ single (mate_is ps x)
        where
          single : {z : ℕ} → Is ps x z → z ≡ x
          single (alone e n) = e
          single (first k h a b) = absurd ((n k h).0 a)
          single (second k h a b) = absurd ((n k h).1 a)
      go y (first i l a b) = ap (mate_of ps) b ∙ mate_to i l ∙ sym a
      go y (second i l a b) = ap (mate_of ps) b ∙ mate_from i l ∙ sym a
