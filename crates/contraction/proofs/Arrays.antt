-- The mates of a round's pairs in an array.
use Prim.Native.Nat.{ℕ, ◌≤◌, ◌<◌}
use mathlib.Core.Path.{◌≡◌, sym, ap, ◌∙◌}
use mathlib.Core.List.{List}
use native.Mathlib.Omega.{arith}
use lib.Dec.{ltb}
use lib.ListN.{length, get_or}
use borrow.Author.Tests.{ltb-true, ltb-false}
use Rattle.folds.specs.Fold.{list_to, over}
use Rattle.folds.proofs.Cases.{by}
use Rattle.folds.proofs.Searches.{first_to_ext}
use Rattle.folds.proofs.Lists.{get_d_list_to, length-list_to, list_to_ext}
use Rattle.graph.specs.Graph.{Arcs, Inside}
use Rattle.graph.specs.Rows.{clusters}
use Rattle.graph.proofs.Edges.{edge_inside}
use Rattle.contraction.specs.Rules.{Round, Keeps}
use Rattle.contraction.specs.Next.{mate_of, together, lowest_of, numbered, joined_row}
use Rattle.contraction.specs.Promises.{mate_in, Mated, Joined}
use Rattle.contraction.proofs.Mates.{Is, alone, first, second, mate_is, mate_back, keeps_disjoint}

joined_ext : (row : List ℕ) (m m' : ℕ → ℕ) → ((c : ℕ) → m c ≡ m' c) → joined_row row m ≡ joined_row row m'
unfolding joined_row lowest_of together
joined_ext row m m' e =
    ap numbered (list_to_ext (length row) _ _ (λ v lv. first_to_ext (length row) _ _ (λ w lw. rw (e (get_or row v 0)))))

module _ {A : Arcs} {g : ℕ} {ps : Round} (inside : Inside A g) (small : g ≤ 512) (K : Keeps A g ps) where
  abbrev mates : List ℕ
  mates = list_to 512 (mate_of ps)

  -- a pair's clusters are below 512
  mate_low : (c : ℕ) → c < 512 → mate_of ps c < 512
  mate_low c l = go (mate_is ps c)
    where
      go : {y : ℕ} → Is ps c y → y < 512
      go (alone e n) = omega arith
      go (first i h a b) = omega (arith, (edge_inside A g inside _ _ (K.one i h).joins).1)
      go (second i h a b) = omega (arith, (edge_inside A g inside _ _ (K.one i h).joins).0)

  mate_high : (c : ℕ) → 512 ≤ c → mate_of ps c ≡ c
  mate_high c l = go (mate_is ps c)
    where
      go : {y : ℕ} → Is ps c y → y ≡ c
      go (alone e n) = e
      go (first i h a b) = absurd (omega (arith, (edge_inside A g inside _ _ (K.one i h).joins).0))
      go (second i h a b) = absurd (omega (arith, (edge_inside A g inside _ _ (K.one i h).joins).1))

  in_is : (c : ℕ) → mate_in mates c ≡ mate_of ps c
  unfolding mate_in
  in_is c =
      by (ltb c (length mates))
      (λ t. rw t (get_d_list_to 512 (mate_of ps) c (rw (length-list_to 512 (mate_of ps)) at (ltb-true c (length mates) t))))
      (λ t. rw t (sym (mate_high c (rw (length-list_to 512 (mate_of ps)) at (ltb-false c (length mates) t)))))

  pub mates_mated : Mated mates
  mates_mated =
      record {
        tall = length-list_to 512 (mate_of ps);
        low = λ c l. rw (get_d_list_to 512 (mate_of ps) c l) (mate_low c l);
        back = λ c. in_is (mate_in mates c) ∙ ap (mate_of ps) (in_is c) ∙ mate_back ps (keeps_disjoint K) c;
      }

  -- the next row by the array is that of the pairs
  pub joined_mates : {row out out' : List ℕ} {r : ℕ} → Joined row (mate_in mates) out out' r → Joined row (mate_of ps) out out' r
  joined_mates {row} {out} J =
      let e = joined_ext row (mate_in mates) (mate_of ps) in_is in
      record { count_is = J.count_is ∙ ap clusters e; row_is = J.row_is ∙ ap (λ (z : List ℕ). over z out) e }
