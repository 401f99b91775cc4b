-- The arrays hold the pairs: at the start, after a pair, and along the order.
use Prim.Native.Nat.{ℕ, ◌+◌, ◌<◌}
use mathlib.Core.Path.{◌≡◌, refl, sym, ◌∙◌}
use mathlib.Core.Bool.{◌&&◌}
use mathlib.Core.List.{List, [], ◌∷◌, ◌++◌}
use native.Mathlib.Numerals.{add-one}
use lib.Dec.{eqb}
use lib.ListN.{length, get_or, set, take, length-set}
use lib.Seq.{get_or-set_same, get_or-set_other, take-suc}
use borrow.Author.Tests.{eq-eqb, ne_eqb}
use Rattle.topology.specs.Level.{next_in}
use Rattle.folds.specs.Fold.{when, list_to, zeros}
use Rattle.folds.proofs.Cases.{no_bool, by, either, eq_or_ne, both}
use Rattle.folds.proofs.Lists.{get_d_list_to, get_d_zeros}
use Rattle.graph.specs.Graph.{Graph, Arcs, edge, Edge}
use Rattle.graph.proofs.Edges.{edge_arc, edge_other}
use Rattle.contraction.specs.Rules.{pair, Round}
use Rattle.contraction.specs.Tests.{all_of}
use Rattle.contraction.specs.Next.{mate_of}
use Rattle.matching.specs.Choice.{visit, visits}
use Rattle.matching_scan.specs.State.{Blocking}
use Rattle.matching.specs.Promises.{any_of, Holds, Tall}
use Rattle.matching.proofs.Fits.{any_of_cons}

pub holds_none : (A : Arcs) (levels : List ℕ) → Holds A levels [] (list_to 512 (λ c. c)) (zeros 512) (zeros 512)
unfolding mate_of any_of all_of
holds_none A levels = record { mates_are = λ c l. get_d_list_to 512 (λ i. i) c l; tos_are = λ c l. get_d_zeros 512 c; blocked_are = λ c l. get_d_zeros 512 c }

module _ (A : Arcs) (levels mates tos blocked blocked' : List ℕ) (ps : Round) (u v : ℕ) (T : Tall mates tos blocked) (H : Holds A levels ps mates tos blocked)
    (lu : u < 512) (lv : v < 512) (t : Edge A u v) (B : Blocking A levels u A.count blocked blocked') where
  mates_pair : (c : ℕ) → c < 512 → get_or (set (set mates u v) v u) c 0 ≡ mate_of (pair u v ∷ ps) c
  unfolding mate_of
  mates_pair c l =
      either (eq_or_ne c v)
      (λ e. rw (e, get_or-set_same (set mates u v) v u 0 (rw (length-set mates u v, T.mates_tall) lv), ne_eqb v u (λ z. edge_other A u v t (sym z)), eq-eqb v v refl))
      (λ n. get_or-set_other (set mates u v) v c u 0 n
      ∙ either (eq_or_ne c u) (λ e. rw (e, get_or-set_same mates u v 0 (rw T.mates_tall lu), eq-eqb u u refl))
      (λ k. rw (ne_eqb c u k, ne_eqb c v n) (get_or-set_other mates u c v 0 k ∙ H.mates_are c l)))

  tos_pair : (c : ℕ) → c < 512 → get_or (set tos v 1) c 0 ≡ when (any_of (λ p. eqb p.to c) (pair u v ∷ ps)) 1
  tos_pair c l =
      rw (any_of_cons (λ p. eqb p.to c) (pair u v) ps)
      (either (eq_or_ne c v) (λ e. rw (e, get_or-set_same tos v 1 0 (rw T.tos_tall lv), eq-eqb v v refl))
      (λ n. rw (ne_eqb v c (λ z. n (sym z))) (get_or-set_other tos v c 1 0 n ∙ H.tos_are c l)))

  blocked_pair : (c : ℕ) → c < 512 → get_or blocked' c 0 ≡ when (any_of (λ p. edge A p.from c && next_in levels p.from c) (pair u v ∷ ps)) 1
  blocked_pair c l =
      rw (any_of_cons (λ p. edge A p.from c && next_in levels p.from c) (pair u v) ps)
      (by (edge A u c && next_in levels u c)
      (λ y.
      let (e, n) = both (edge A u c) _ y in
      let (j, lj, eu, ec) = edge_arc A u c e in
      let m : get_or blocked' c 0 ≡ 1 = rw ec at (B.marks j lj eu (λ z. edge_other A u c e (sym (sym ec ∙ z))) (rw ec n)) in
      rw y m)
      (λ y. rw y (either (B.keeps c l) (λ q. q ∙ H.blocked_are c l) (λ (q, e, n). absurd (no_bool (sym y ∙ rw (e, n)))))))

  pub holds_pair : Holds A levels (pair u v ∷ ps) (set (set mates u v) v u) (set tos v 1) blocked'
  holds_pair = record { mates_are = mates_pair; tos_are = tos_pair; blocked_are = blocked_pair }

visits_snoc : (G : Graph) (row levels : List ℕ) (g bound u : ℕ) (ps : Round) (xs : List ℕ)
    → visits G row levels g bound ps (xs ++ (u ∷ [])) ≡ visit G row levels g bound (visits G row levels g bound ps xs) u
unfolding visits
visits_snoc G row levels g bound u ps [] = refl
visits_snoc G row levels g bound u ps (x ∷ xs) = visits_snoc G row levels g bound u (visit G row levels g bound ps x) xs

-- one cluster more of the order
pub visits_more : (G : Graph) (row levels : List ℕ) (g bound : ℕ) (ps : Round) (us : List ℕ) (i : ℕ) → i < length us
    → visits G row levels g bound ps (take (i + 1) us) ≡ visit G row levels g bound (visits G row levels g bound ps (take i us)) (get_or us i 0)
visits_more G row levels g bound ps us i l = rw (add-one, take-suc us i 0 l) (visits_snoc G row levels g bound (get_or us i 0) ps (take i us))
