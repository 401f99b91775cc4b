-- What is listed is the graph of the rung, in lists; and joining twice is joining by the combined row.
use Prim.Native.Nat.{ℕ, ◌≤◌, ◌<◌}
use mathlib.Core.Path.{◌≡◌, refl, sym, ap, ◌∙◌}
use mathlib.Core.Bool.{Bool, true, false, not, ◌&&◌}
use mathlib.Core.List.{List}
use native.Mathlib.Omega.{arith}
use lib.Dec.{eqb, ltb}
use lib.ListN.{length, get_or, take}
use lib.Seq.{get_or-take, length-take-le}
use borrow.Author.Tests.{eqb-true, eq-eqb, ne_eqb, ltb-true, ltb-false}
use Rattle.folds.specs.Fold.{when, sum_to}
use Rattle.folds.proofs.Cases.{by, either, eq_or_ne, both, when_le, and_false}
use Rattle.folds.proofs.Sums.{sum_to_ext, sum_to_mono, sum_to_none, sum_to-when, sum_to_only, sum_to_swap, sum_to_le}
use Rattle.graph.specs.Graph.{Graph, graph_of, edges, identity, Arcs, arcs, seen, width_of, crossing, through, Inside, Formed, RowOf}
use Rattle.graph.specs.Links.{leave}
use Rattle.graph.specs.Coarse.{sent, Narrow, Coarse}
use Rattle.graph.proofs.Edges.{identity_at, through_at}
use Rattle.graph.proofs.Coarse.{coarse_sum}
use Rattle.joined_edges.specs.Joining.{between, pair_sum, Written}

when_and : (p q : Bool) (w : ℕ) → when (p && q) w ≡ when p (when q w)
when_and true q w = refl
when_and false q w = refl

-- all pairs together are all edges
pub by_pairs : (n g : ℕ) (x y w : ℕ → ℕ) → ((i : ℕ) → i < n → (x i < g) × (y i < g))
    → sum_to g (λ a. sum_to g (λ b. sum_to n (λ i. when (eqb (x i) a && eqb (y i) b) (w i)))) ≡ sum_to n w
by_pairs n g x y w low =
    sum_to_ext g _ _ (λ a _. sum_to_swap g n (λ b i. when (eqb (x i) a && eqb (y i) b) (w i)))
    ∙ sum_to_swap g n (λ a i. sum_to g (λ b. when (eqb (x i) a && eqb (y i) b) (w i)))
    ∙ sum_to_ext n _ _ (λ i l. one i l)
  where
    one : (i : ℕ) → i < n → sum_to g (λ a. sum_to g (λ b. when (eqb (x i) a && eqb (y i) b) (w i))) ≡ w i
    one i l =
        sum_to_ext g _ _ (λ a _. sum_to_ext g _ _ (λ b _. when_and (eqb (x i) a) (eqb (y i) b) (w i)) ∙ sum_to-when g (eqb (x i) a) (λ b. when (eqb (y i) b) (w i)))
        ∙ sum_to_only g (x i) (λ a. sum_to g (λ b. when (eqb (y i) b) (w i))) (low i l).0
        ∙ sum_to_only g (y i) (λ b. w i) (low i l).1

module _ (A : Arcs) (widths : List ℕ) (g : ℕ) (I : Inside A g) where
  -- between different clusters the summed width is the library's, and between others it is 0
  between_width : (a b : ℕ) → when (not (eqb a b)) (between A widths a b) ≡ width_of A widths a b
  unfolding between width_of sent crossing
  between_width a b =
      either (eq_or_ne a b) (λ e. rw (eq-eqb a b e))
      (λ n. rw (ne_eqb a b n) (sum_to_ext A.count _ _ (λ j _.
      by (eqb (A.from j) a && eqb (A.to j) b)
      (λ t.
      let (p, q) = both (eqb (A.from j) a) (eqb (A.to j) b) t in
      rw (t, ne_eqb (A.from j) (A.to j) (λ z. n (sym (eqb-true (A.from j) a p) ∙ z ∙ eqb-true (A.to j) b q))))
      (λ t. rw t))))

  between_past : (a b : ℕ) → g ≤ a → between A widths a b ≡ 0
  unfolding between sent
  between_past a b l = sum_to_none A.count _ (λ j lj. rw (ne_eqb (A.from j) a (λ e. omega (arith, (I j lj).0))))

  between_beyond : (a b : ℕ) → g ≤ b → between A widths a b ≡ 0
  unfolding between sent
  between_beyond a b l = sum_to_none A.count _ (λ j lj. rw (ne_eqb (A.to j) b (λ e. omega (arith, (I j lj).1)), and_false (eqb (A.from j) a)))

  between_all : sum_to g (λ a. sum_to g (λ b. between A widths a b)) ≤ sum_to A.count (λ j. get_or widths j 0)
  unfolding between sent crossing
  between_all =
      rw (by_pairs A.count g A.from A.to (λ j. when (not (eqb (A.from j) (A.to j))) (get_or widths j 0)) (λ j l. I j l))
      (sum_to_mono A.count _ _ (λ j _. when_le (not (eqb (A.from j) (A.to j))) (get_or widths j 0)))

  module _ (few : g ≤ 512) {k : ℕ} {froms tos ws : List ℕ} (W : Written A widths g g k froms tos ws) where
    pair_past : (a b : ℕ) → g ≤ b → pair_sum froms tos ws k a b ≡ 0
    unfolding pair_sum
    pair_past a b l = sum_to_none k _ (λ i li. rw (ne_eqb (get_or tos i 0) b (λ e. omega (arith, W.listed.to_in i li)), and_false (eqb (get_or froms i 0) a)))

    pub pair_is : (a b : ℕ) → pair_sum froms tos ws k a b ≡ between A widths a b
    pair_is a b =
        by (ltb b g)
        (λ t. W.is a b (omega (arith, ltb-true b g t)) ∙ by (ltb a g) (λ s. rw s) (λ s. rw s (sym (between_past a b (ltb-false a g s)))))
        (λ t. pair_past a b (ltb-false b g t) ∙ sym (between_beyond a b (ltb-false b g t)))

    listed_all : sum_to g (λ a. sum_to g (λ b. pair_sum froms tos ws k a b)) ≡ sum_to k (λ i. get_or ws i 0)
    unfolding pair_sum
    listed_all = by_pairs k g (λ i. get_or froms i 0) (λ i. get_or tos i 0) (λ i. get_or ws i 0) (λ i l. (W.listed.from_in i l, W.listed.to_in i l))

    listed_narrow : sum_to k (λ i. get_or ws i 0) ≤ sum_to A.count (λ j. get_or widths j 0)
    listed_narrow = omega (arith, listed_all, sum_to_ext g _ _ (λ a _. sum_to_ext g _ _ (λ b _. pair_is a b)), between_all)

    pub listed_few : k ≤ A.count
    listed_few = omega (arith, W.few, sum_to_le A.count 1 (λ i. when (ltb (leave A i) g) 1) (λ i. when_le (ltb (leave A i) g) 1))

-- the first k listed are the rung's edges
module _ (row starts ends widths : List ℕ) {g k : ℕ} {froms tos ws : List ℕ} (I : Inside (arcs row starts ends) g) (few : g ≤ 512) (many : length starts ≤ 1024)
    (same : length widths ≡ length starts) (N : Narrow widths) (W : Written (arcs row starts ends) widths g g k froms tos ws) where
  K : k ≤ 1024
  K = omega (arith, listed_few (arcs row starts ends) widths g I few W)

  from_length : length (take k froms) ≡ k
  from_length = length-take-le k froms (omega (arith, W.listed.tall_from, K))

  to_length : length (take k tos) ≡ k
  to_length = length-take-le k tos (omega (arith, W.listed.tall_to, K))

  width_length : length (take k ws) ≡ k
  width_length = length-take-le k ws (omega (arith, W.listed.tall_width, K))

  from_at : (i : ℕ) → i < k → get_or (take k froms) i 0 ≡ get_or froms i 0
  from_at i l = get_or-take k froms i 0 l

  to_at : (i : ℕ) → i < k → get_or (take k tos) i 0 ≡ get_or tos i 0
  to_at i l = get_or-take k tos i 0 l

  width_at : (i : ℕ) → i < k → get_or (take k ws) i 0 ≡ get_or ws i 0
  width_at i l = get_or-take k ws i 0 l

  pair_width : (a b : ℕ) → width_of (arcs (identity g) (take k froms) (take k tos)) (take k ws) a b ≡ when (not (eqb a b)) (pair_sum froms tos ws k a b)
  unfolding width_of pair_sum
  pair_width a b =
      ap (when (not (eqb a b)))
      (rw from_length (sum_to_ext k _ _ (λ i l.
      rw (from_at i l, to_at i l, width_at i l, identity_at g (get_or froms i 0) (W.listed.from_in i l), identity_at g (get_or tos i 0) (W.listed.to_in i l)))))

  pub written_coarse : (costs : List ℕ) → Coarse (graph_of costs starts ends widths) row g (take k froms) (take k tos) (take k ws)
  written_coarse costs =
      record {
        few = omega (arith, from_length, K);
        same_ends = to_length ∙ sym from_length;
        same_widths = width_length ∙ sym from_length;
        from_in = λ i l. let h : i < k = omega (arith, from_length) in rw (from_at i h) (W.listed.from_in i h);
        to_in = λ i l. let h : i < k = omega (arith, from_length) in rw (to_at i h) (W.listed.to_in i h);
        apart = λ i l. let h : i < k = omega (arith, from_length) in rw (from_at i h, to_at i h) (W.listed.apart i h);
        wide = λ i l. let h : i < k = omega (arith, from_length) in rw (width_at i h) (W.listed.wide i h);
        once = λ i j l lj. let h : j < k = omega (arith, from_length) in let h' : i < k = omega arith in rw (from_at i h', to_at i h', from_at j h, to_at j h) (W.listed.once i j l h);
        narrow = rw from_length (omega (arith, sum_to_ext k (λ i. get_or (take k ws) i 0) (λ i. get_or ws i 0) width_at, listed_narrow (arcs row starts ends) widths g I few W, rw same at N));
        width = λ a b. pair_width a b ∙ ap (when (not (eqb a b))) (pair_is (arcs row starts ends) widths g I few W a b) ∙ between_width (arcs row starts ends) widths g I a b;
      }

-- the width between two clusters of the combined row, over the rung's lists
width_twice : {G : Graph} {row : List ℕ} (map : List ℕ) {g : ℕ} {froms tos ws : List ℕ} → Formed G → RowOf G row g → Coarse G row g froms tos ws
    → (a b : ℕ) → width_of (arcs map froms tos) ws a b ≡ width_of (seen G (through row map)) G.widths a b
unfolding width_of
width_twice {G} {row} map {g} {froms} {tos} {ws} F R C a b =
    either (eq_or_ne a b) (λ e. rw (eq-eqb a b e))
    (λ n.
    ap (when (not (eqb a b)))
    (sym (coarse_sum C F R (λ x y. eqb (get_or map x 0) a && eqb (get_or map y 0) b) (λ x. other x n))
    ∙ sum_to_ext (edges G) _ _ (λ j l. rw (through_at row map (get_or G.starts j 0) (rw R.whole (F.start_in j l)), through_at row map (get_or G.ends j 0) (rw R.whole (F.end_in j l))))))
  where
    other : (x : ℕ) → (a ≡ b → ⊥) → (eqb (get_or map x 0) a && eqb (get_or map x 0) b) ≡ false
    other x n = either (eq_or_ne (get_or map x 0) a) (λ e. rw (eq-eqb (get_or map x 0) a e) (ne_eqb (get_or map x 0) b (λ z. n (sym e ∙ z)))) (λ e. rw (ne_eqb (get_or map x 0) a e))

-- joining twice is joining by the combined row (document 02, n)
pub joined_twice : {G : Graph} {row map : List ℕ} {g h : ℕ} {froms tos ws froms' tos' ws' costs : List ℕ} → Formed G → RowOf G row g
    → Coarse G row g froms tos ws → Coarse (graph_of costs froms tos ws) map h froms' tos' ws' → Coarse G (through row map) h froms' tos' ws'
joined_twice {G} {row} {map} {g} {h} {froms} {tos} {ws} {froms'} {tos'} {ws'} F R C D =
    record {
      few = D.few;
      same_ends = D.same_ends;
      same_widths = D.same_widths;
      from_in = D.from_in;
      to_in = D.to_in;
      apart = D.apart;
      wide = D.wide;
      once = D.once;
      narrow = D.narrow;
      width = λ a b. D.width a b ∙ width_twice map F R C a b;
    }
