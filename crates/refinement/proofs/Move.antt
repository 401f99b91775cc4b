-- What one move does to the cut, the order, the sizes and the vertices of the parts.
use Prim.Native.Nat.{ℕ, ◌+◌, ◌≤◌, ◌<◌}
use mathlib.Core.Path.{◌≡◌, refl, sym, ap, ◌∙◌}
use mathlib.Core.Bool.{Bool, true, false, not, ◌&&◌}
use mathlib.Core.List.{List}
use native.Mathlib.Nat.{add-zero, zero-add, add_comm}
use native.Mathlib.Omega.{arith}
use lib.Dec.{eqb}
use lib.ListN.{get_or}
use borrow.Author.Tests.{eqb-true, eqb-false, eq-eqb, ne_eqb}
use Rattle.folds.specs.Fold.{pick, when}
use Rattle.folds.proofs.Cases.{either, eq_or_ne, when_zero, both, not_yes}
use Rattle.folds.proofs.Sums.{sum_to_add, sum_to_ext, sum_to-when}
use Rattle.graph.specs.Graph.{Graph, vertices, edges, via, crossing, cut, cut_of, cost_in, part_cost, Formed}
use Rattle.refinement.specs.Move.{leaves, share, pull}

eqb_swap : (a b : ℕ) → eqb a b ≡ eqb b a
eqb_swap a b = either (eq_or_ne a b) (λ e. rw e) (λ n. rw (ne_eqb a b n, ne_eqb b a (λ e. n (sym e))))

not_split : (b : Bool) (w : ℕ) → when (not b) w + when b w ≡ w
not_split true w = zero-add w
not_split false w = add-zero w

-- one edge, from part fa to part fb: whether its ends are in the cluster is ra and rb
edge_cut : (ra rb : Bool) (fa fb s t w : ℕ) → (ra ≡ true → fa ≡ s) → (rb ≡ true → fb ≡ s) →
    when (not (eqb fa fb)) w + (when ((ra && not rb) && eqb fb s) w + when ((rb && not ra) && eqb fa s) w)
    ≡ when (not (eqb (pick ra t fa) (pick rb t fb))) w + (when ((ra && not rb) && eqb fb t) w + when ((rb && not ra) && eqb fa t) w)
edge_cut true true fa fb s t w p q = rw (eq-eqb fa fb (p refl ∙ sym (q refl)), eq-eqb t t refl)
edge_cut true false fa fb s t w p q =
    rw (p refl, eqb_swap s fb, eqb_swap t fb) (omega (arith, not_split (eqb fb s) w, not_split (eqb fb t) w))
edge_cut false true fa fb s t w p q = rw (q refl) (omega (arith, not_split (eqb fa s) w, not_split (eqb fa t) w))
edge_cut false false fa fb s t w p q = refl

-- one vertex
vertex_cost : (r : Bool) (f s t u c : ℕ) → (r ≡ true → f ≡ s) → when (eqb (pick r t f) u) c + when (eqb s u) (when r c) ≡ when (eqb f u) c + when (eqb t u) (when r c)
vertex_cost true f s t u c p = rw (p refl) (add_comm _ _)
vertex_cost false f s t u c p = rw (when_zero (eqb s u), when_zero (eqb t u))

-- the order of one edge's ends, by any place of a part
edge_order : (at : ℕ → ℕ) (ra rb : Bool) (fa fb t : ℕ) → at fa ≤ at fb → (rb ≡ true → ra ≡ false → at fa ≤ at t) → (ra ≡ true → rb ≡ false → at t ≤ at fb)
    → at (pick ra t fa) ≤ at (pick rb t fb)
edge_order at true true fa fb t l p q = omega arith
edge_order at true false fa fb t l p q = q refl refl
edge_order at false true fa fb t l p q = p refl refl
edge_order at false false fa fb t l p q = l

pub leaves_i : (row near far : List ℕ) (h j : ℕ) → via row near j ≡ h → (via row far j ≡ h → ⊥) → leaves row near far h j ≡ true
unfolding leaves
leaves_i row near far h j e n = rw (eq-eqb (via row near j) h e, ne_eqb (via row far j) h n)

pub leaves_e : (row near far : List ℕ) (h j : ℕ) → leaves row near far h j ≡ true → (via row near j ≡ h) × (via row far j ≡ h → ⊥)
unfolding leaves
leaves_e row near far h j t =
    let (p, q) = both (eqb (via row near j) h) (not (eqb (via row far j) h)) t in
    (eqb-true (via row near j) h p, eqb-false (via row far j) h (not_yes (eqb (via row far j) h) q))

-- where third parts keep their size and both touched ones are within the bound afterwards, all are
pub within_touched : (size size' : ℕ → ℕ) (s t k bound : ℕ) → ((u : ℕ) → (s ≡ u → ⊥) → (t ≡ u → ⊥) → size' u ≡ size u)
    → size' s ≤ bound → size' t ≤ bound → ((u : ℕ) → u < k → size u ≤ bound) → (u : ℕ) → u < k → size' u ≤ bound
within_touched size size' s t k bound third old new all u l =
    either (eq_or_ne s u) (λ e. rw (← e) old)
    (λ n. either (eq_or_ne t u) (λ e. rw (← e) new) (λ m. rw (third u n m) (all u l)))

-- all vertices of h have the part s; in parts' they have the part t, and the others what they had
module _ (G : Graph) (F : Formed G) (row parts parts' : List ℕ) (h s t : ℕ)
    (all : (v : ℕ) → v < vertices G → get_or row v 0 ≡ h → get_or parts v 0 ≡ s)
    (upd : (v : ℕ) → v < vertices G → get_or parts' v 0 ≡ pick (eqb (get_or row v 0) h) t (get_or parts v 0)) where
  -- the cut falls by the gain, said without a minus
  pub cut_move : cut_of G parts + pull G row parts h s ≡ cut_of G parts' + pull G row parts h t
  unfolding cut crossing pull share leaves
  cut_move =
      ap (λ (x : ℕ). cut_of G parts + x) (sym (sum_to_add (edges G) _ _)) ∙ sym (sum_to_add (edges G) _ _)
      ∙ sum_to_ext (edges G) _ _ (λ j l.
      let a = get_or G.starts j 0 in
      let b = get_or G.ends j 0 in
      rw (upd a (F.start_in j l), upd b (F.end_in j l))
      (edge_cut (eqb (get_or row a 0) h) (eqb (get_or row b 0) h) (get_or parts a 0) (get_or parts b 0) s t (get_or G.widths j 0)
      (λ q. all a (F.start_in j l) (eqb-true (get_or row a 0) h q)) (λ q. all b (F.end_in j l) (eqb-true (get_or row b 0) h q))))
      ∙ sum_to_add (edges G) _ _ ∙ ap (λ (x : ℕ). cut_of G parts' + x) (sum_to_add (edges G) _ _)

  -- THE ORDER, for every part t whose place is from the highest of the predecessors to the lowest of the successors
  pub order_move : (at : ℕ → ℕ)
      → ((j : ℕ) → j < edges G → leaves row G.ends G.starts h j ≡ true → at (via parts G.starts j) ≤ at t)
      → ((j : ℕ) → j < edges G → leaves row G.starts G.ends h j ≡ true → at t ≤ at (via parts G.ends j))
      → ((j : ℕ) → j < edges G → at (via parts G.starts j) ≤ at (via parts G.ends j))
      → (j : ℕ) → j < edges G → at (via parts' G.starts j) ≤ at (via parts' G.ends j)
  order_move at low high old j l =
      let a = get_or G.starts j 0 in
      let b = get_or G.ends j 0 in
      rw (upd a (F.start_in j l), upd b (F.end_in j l))
      (edge_order at (eqb (get_or row a 0) h) (eqb (get_or row b 0) h) (get_or parts a 0) (get_or parts b 0) t (old j l)
      (λ p q. low j l (leaves_i row G.ends G.starts h j (eqb-true (get_or row b 0) h p) (eqb-false (get_or row a 0) h q)))
      (λ p q. high j l (leaves_i row G.starts G.ends h j (eqb-true (get_or row a 0) h p) (eqb-false (get_or row b 0) h q))))

  -- the costs: the cluster's cost goes from s to t
  pub cost_move : (u : ℕ) → part_cost G.costs parts' u + when (eqb s u) (part_cost G.costs row h) ≡ part_cost G.costs parts u + when (eqb t u) (part_cost G.costs row h)
  unfolding part_cost cost_in
  cost_move u =
      rw (← sum_to-when (vertices G) (eqb s u) (λ v. when (eqb (get_or row v 0) h) (get_or G.costs v 0)), ← sum_to-when (vertices G) (eqb t u) (λ v. when (eqb (get_or row v 0) h) (get_or G.costs v 0)))
      (sym (sum_to_add (vertices G) _ _)
      ∙ sum_to_ext (vertices G) _ _ (λ v l.
      rw (upd v l) (vertex_cost (eqb (get_or row v 0) h) (get_or parts v 0) s t u (get_or G.costs v 0) (λ q. all v l (eqb-true (get_or row v 0) h q))))
      ∙ sum_to_add (vertices G) _ _)

  pub cost_third : (u : ℕ) → (s ≡ u → ⊥) → (t ≡ u → ⊥) → part_cost G.costs parts' u ≡ part_cost G.costs parts u
  cost_third u n m = let e = rw (ne_eqb s u n, ne_eqb t u m) at (cost_move u) in omega arith

  pub cost_new : (s ≡ t → ⊥) → part_cost G.costs parts' t ≡ part_cost G.costs parts t + part_cost G.costs row h
  cost_new n = let e = rw (ne_eqb s t n, eq-eqb t t refl) at (cost_move t) in omega arith

  pub cost_old : (s ≡ t → ⊥) → part_cost G.costs parts' s + part_cost G.costs row h ≡ part_cost G.costs parts s
  cost_old n = let e = rw (eq-eqb s s refl, ne_eqb t s (λ q. n (sym q))) at (cost_move s) in omega arith

  -- a part with a vertex keeps one, where some vertex of s is outside h
  pub filled_move : (v : ℕ) × (v < vertices G) × (get_or parts v 0 ≡ s) × (get_or row v 0 ≡ h → ⊥)
      → (u : ℕ) → (v : ℕ) × (v < vertices G) × (get_or parts v 0 ≡ u) → (v : ℕ) × (v < vertices G) × (get_or parts' v 0 ≡ u)
  filled_move (w, lw, ew, nw) u (v, lv, ev) =
      either (eq_or_ne (get_or row v 0) h)
      (λ e. (w, lw, upd w lw ∙ rw (ne_eqb (get_or row w 0) h nw) (ew ∙ sym (all v lv e) ∙ ev)))
      (λ n. (v, lv, upd v lv ∙ rw (ne_eqb (get_or row v 0) h n) ev))
