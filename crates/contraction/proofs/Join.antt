-- THE JOIN LAW: contracting pairs that keep both rules leaves no cycle.
use Prim.Native.Nat.{ℕ, zero, suc, ◌+◌, ◌-◌, ◌*◌, ◌<◌, ◌≤◌}
use mathlib.Core.Path.{◌≡◌, refl, sym, ap, ◌∙◌}
use mathlib.Core.Logic.{◌⊎◌, inl, inr}
use mathlib.Core.List.{List}
use native.Mathlib.Omega.{arith}
use lib.ListN.{length, get_or}
use Rattle.folds.proofs.Cases.{either}
use Rattle.graph.specs.Walk.{Acyclic}
use Rattle.graph.specs.Graph.{Graph, Arcs, seen, Edge, Formed, RowOf, Inside}
use Rattle.graph.specs.Rows.{clusters}
use Rattle.graph.proofs.Walks.{ranks_law}
use Rattle.graph.proofs.Edges.{arc_edge, edge_arc, edge_other, edge_inside, row_inside}
use Rattle.topology.specs.Level.{level}
use Rattle.topology.proofs.Levels.{level_rises, level_from}
use Rattle.contraction.specs.Rules.{Round, pair_at, Next, OnlySuccessor, Keeps}
use Rattle.contraction.specs.Next.{mate_of, next_row_of}
use Rattle.contraction.proofs.Mates.{Is, alone, first, second, mate_is, mate_back, keeps_disjoint}
use Rattle.contraction.proofs.Next.{Onto, number, next_at, number_mate, number_apart}

-- The rank of a cluster of level a whose mate has level b: a + b where the two are neighbours, and else twice the larger.
-- `far` is a difference of levels, but 0 for 1.
far : ℕ → ℕ
far zero = 0
far (suc zero) = 0
far (suc (suc d)) = suc (suc d)

far_le : (d : ℕ) → (far d ≤ d) × (d ≤ far d + 1)
unfolding far
far_le zero = omega arith
far_le (suc zero) = omega arith
far_le (suc (suc d)) = omega arith

rank : ℕ → ℕ → ℕ
rank a b = a + b + far ((a - b) + (b - a))

rank_comm : (a b : ℕ) → rank a b ≡ rank b a
unfolding rank
rank_comm a b = let e : (a - b) + (b - a) ≡ (b - a) + (a - b) = omega arith in omega (arith, ap far e)

rank_up : (a b : ℕ) → b ≤ a → rank a b ≤ 2 * a
unfolding rank
rank_up a b h = omega (arith, far_le ((a - b) + (b - a)))

rank_flat : (a b : ℕ) → b ≡ a + 1 → rank a b ≡ 2 * a + 1
unfolding rank far
rank_flat a b h = let e : (a - b) + (b - a) ≡ 1 = omega arith in omega (arith, ap far e)

rank_low : (a b : ℕ) → 2 * a ≤ rank a b + 1
unfolding rank
rank_low a b = omega (arith, far_le ((a - b) + (b - a)))

rank_lower : (a b : ℕ) → a ≤ b → 2 * a ≤ rank a b
unfolding rank
rank_lower a b h = omega arith

module _ (A : Arcs) (g : ℕ) (inside : Inside A g) (acyclic : Acyclic (Edge A)) (ps : Round) (K : Keeps A g ps) where
  abbrev L : ℕ → ℕ
  L v = level A g v

  abbrev mate : ℕ → ℕ
  mate x = mate_of ps x

  rises : (a b : ℕ) → Edge A a b → L a < L b
  rises = level_rises A g inside acyclic

  ψ : ℕ → ℕ
  ψ x = rank (L x) (L (mate x))

  ψ_mate : (x : ℕ) → ψ (mate x) ≡ ψ x
  unfolding ψ
  ψ_mate x = rw (mate_back ps (keeps_disjoint K) x) (rank_comm (L (mate x)) (L x))

  -- the level of a pair's `to` is the next one, or it is the only successor: an only predecessor is on the level before
  pub flat_or_only : (i : ℕ) → i < length ps → Next A g (pair_at ps i).from (pair_at ps i).to ⊎ OnlySuccessor A g (pair_at ps i).from (pair_at ps i).to
  flat_or_only i l =
      let r = K.one i l in
      either r.near (λ n. inl n)
      (λ o. either o (λ s. inr s)
      (λ s.
      let (hu, hv) = edge_inside A g inside _ _ r.joins in
      let (w, t, e) = level_from A g inside acyclic (pair_at ps i).to hv (omega (arith, rises _ _ r.joins)) in
      inl (e ∙ ap (λ (z : ℕ). L z + 1) (s w t))))

  -- an edge from the `from` of a pair of neighbouring levels to a cluster outside the pair
  flat_rises : (x y i : ℕ) → i < length ps → x ≡ (pair_at ps i).from → mate x ≡ (pair_at ps i).to → Edge A x y → L (mate x) ≡ L x + 1 → (y ≡ mate x → ⊥) → ψ x < ψ y
  unfolding ψ
  flat_rises x y i l ex em e f ne = go (mate y) (mate_is ps y)
    where
      go : (z : ℕ) → Is ps y z → rank (L x) (L (mate x)) < rank (L y) (L z)
      go z (alone q n) = omega (arith, rises x y e, rank_flat (L x) (L (mate x)) f, rank_lower (L y) (L z) (omega (arith, ap L q)))
      go z (first k h a b) =
          let t : Edge A y z = rw (a, b) (K.one k h).joins in
          omega (arith, rises x y e, rank_flat (L x) (L (mate x)) f, rank_lower (L y) (L z) (omega (arith, rises y z t)))
      go z (second k h a b) =
          let other : i ≡ k → ⊥ = λ q. ne (a ∙ ap (λ (w : ℕ). (pair_at ps w).to) (sym q) ∙ sym em) in
          let no : L y ≡ L x + 1 → ⊥ = λ n. (K.two i k l h other).clear (rw (ex, a) at e) (rw (ex, a) at n) in
          omega (arith, rises x y e, rank_flat (L x) (L (mate x)) f, rank_low (L y) (L z), no)

  high_rises : (x y : ℕ) → Edge A x y → L (mate x) ≤ L x → ψ x < ψ y
  unfolding ψ
  high_rises x y e h = omega (arith, rises x y e, rank_up (L x) (L (mate x)) h, rank_low (L y) (L (mate y)))

  -- every edge between different new clusters raises ψ
  edge_rises : (x y : ℕ) → Edge A x y → (y ≡ mate x → ⊥) → ψ x < ψ y
  edge_rises x y e ne = go (mate x) refl (mate_is ps x)
    where
      go : (z : ℕ) → mate x ≡ z → Is ps x z → ψ x < ψ y
      go z m (alone q n) = high_rises x y e (omega (arith, ap L m, ap L q))
      go z m (first i l a b) =
          either (flat_or_only i l) (λ n. flat_rises x y i l a (m ∙ b) e (omega (arith, ap L (m ∙ b), ap L a)) ne)
          (λ s. absurd (ne (s y (rw a at e) ∙ sym b ∙ sym m)))
      go z m (second i l a b) =
          let t : Edge A z x = rw (a, b) (K.one i l).joins in high_rises x y e (omega (arith, ap L m, rises z x t))

  -- for any naming that gives the clusters of a pair one name, and others another: no cycle of names
  pub named_acyclic : (name : ℕ → ℕ) (E' : ℕ → ℕ → Type 0)
      → ((x : ℕ) → name (mate x) ≡ name x)
      → ((x y : ℕ) → x < g → y < g → name x ≡ name y → (y ≡ x) ⊎ (y ≡ mate x))
      → ((a b : ℕ) → E' a b → (a ≡ b → ⊥) × ((x y : ℕ) × Edge A x y × (name x ≡ a) × (name y ≡ b)))
      → Acyclic E'
  named_acyclic name E' same apart lift =
      ranks_law E' (λ a r. (x : ℕ) × (x < g) × (name x ≡ a) × (ψ x ≡ r))
      (λ a r s (x, hx, ex, rx) (y, hy, ey, ry). sym rx ∙ ψ_name x y hx hy (ex ∙ sym ey) ∙ ry)
      (λ a b t.
      let (ne, (x, y, e, ex, ey)) = lift a b t in
      let (hx, hy) = edge_inside A g inside x y e in
      (ψ x, ψ y, (x, hx, ex, refl), (y, hy, ey, refl), edge_rises x y e (λ q. ne (sym ex ∙ sym (same x) ∙ ap name (sym q) ∙ ey))))
    where
      ψ_name : (x y : ℕ) → x < g → y < g → name x ≡ name y → ψ x ≡ ψ y
      ψ_name x y hx hy e = either (apart x y hx hy e) (λ s. ap ψ (sym s)) (λ s. sym (ap ψ s ∙ ψ_mate x))

-- THE JOIN LAW
pub join_law : (G : Graph) (row : List ℕ) (ps : Round) → Formed G → RowOf G row (clusters row) → Onto row
    → Keeps (seen G row) (clusters row) ps → Acyclic (Edge (seen G row)) → Acyclic (Edge (seen G (next_row_of row ps)))
join_law G row ps F R onto K ac =
    named_acyclic (seen G row) (clusters row) (row_inside F R) ac ps K (number row (mate_of ps)) (Edge (seen G (next_row_of row ps)))
    (number_mate row (mate_of ps) (mate_back ps (keeps_disjoint K)))
    (λ x y hx hy e.
    let (v, lv, ev) = onto x hx in
    let (w, lw, ew) = onto y hy in
    number_apart row (mate_of ps) (mate_back ps (keeps_disjoint K)) x y v w lv lw ev ew e)
    (λ a b t.
    let (j, h, ea, eb) = edge_arc (seen G (next_row_of row ps)) a b t in
    let ne = edge_other (seen G (next_row_of row ps)) a b t in
    let na = next_at row (mate_of ps) (get_or G.starts j 0) (rw R.whole (F.start_in j h)) in
    let nb = next_at row (mate_of ps) (get_or G.ends j 0) (rw R.whole (F.end_in j h)) in
    (ne, ((seen G row).from j, (seen G row).to j, arc_edge (seen G row) j h (λ q. ne (sym ea ∙ na ∙ ap (number row (mate_of ps)) q ∙ sym nb ∙ eb)), sym na ∙ ea, sym nb ∙ eb)))
