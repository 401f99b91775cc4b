-- Order, levels and the lowest on a cycle depend only on which clusters are joined, not on the edges that join them, nor on the length of a list of marks.
use Prim.Native.Nat.{ℕ, zero, suc, ◌≤◌, ◌<◌}
use mathlib.Core.Path.{◌≡◌, refl, sym, ap, ◌∙◌}
use mathlib.Core.Bool.{Bool, true, not, ◌&&◌}
use mathlib.Core.List.{List, ◌∷◌}
use native.Mathlib.Omega.{arith}
use lib.Dec.{eqb, ltb}
use lib.ListN.{length, get_or, set, length-set}
use lib.Seq.{get_or-set_same, get_or-set_other}
use borrow.Author.Tests.{eqb-true, eqb-false, eq-eqb, ltb-true}
use Rattle.folds.specs.Fold.{when, any_to, first_to, max_to, zeros}
use Rattle.folds.proofs.Cases.{by, either, both, same_test, not_yes, eq_or_ne}
use Rattle.folds.proofs.Searches.{any_i, any_e, any_ext, first_to_ext, max_ge, max_le}
use Rattle.folds.proofs.Lists.{list_to_ext, get_d_zeros, length-zeros}
use Rattle.graph.specs.Graph.{Arcs, edge, Edge, Inside}
use Rattle.graph.proofs.Walks.{walk_map}
use Rattle.graph.proofs.Edges.{arc_edge, edge_arc, edge_same}
use Rattle.topology.specs.Order.{waits, ready, or_none, order_from, order_of}
use Rattle.topology.specs.Level.{rise, levels_after, levels_of}
use Rattle.topology.specs.Reach.{on_cycle, lowest_on_cycle}
use Rattle.topology.proofs.Reaches.{on_cycle_walk, walk_on_cycle}

-- the same clusters are joined
abbrev pub Same : Arcs → Arcs → Type 0
Same A B = (a b : ℕ) → edge A a b ≡ edge B a b

-- the same edges one by one join the same clusters
pub same_edges : (A B : Arcs) → A.count ≡ B.count → ((j : ℕ) → j < A.count → (A.from j ≡ B.from j) × (A.to j ≡ B.to j)) → Same A B
same_edges A B n h a b =
    same_test _ _ (edge_same A B n h a b) (edge_same B A (sym n) (λ j l. let (f, t) = h j (omega arith) in (sym f, sym t)) a b)

-- an edge of A into v is one of B
moved : (A B : Arcs) → Same A B → (v j : ℕ) → j < A.count → A.to j ≡ v → (A.from j ≡ v → ⊥) → (i : ℕ) × (i < B.count) × (B.from i ≡ A.from j) × (B.to i ≡ v)
moved A B S v j l e n =
    let t : Edge A (A.from j) v = rw e at (arc_edge A j l (λ z. n (z ∙ e))) in
    edge_arc B (A.from j) v (sym (S (A.from j) v) ∙ t)

waits_there : (A B : Arcs) → Same A B → (marks : List ℕ) (v : ℕ) → any_to A.count (waits A marks v) ≡ true → any_to B.count (waits B marks v) ≡ true
unfolding waits
waits_there A B S marks v t =
    let (j, l, w) = any_e A.count _ t in
    let (p, q) = both (eqb (A.to j) v) _ w in
    let (r, s) = both (not (eqb (A.from j) v)) _ q in
    let (i, li, ef, et) = moved A B S v j l (eqb-true (A.to j) v p) (eqb-false (A.from j) v (not_yes _ r)) in
    any_i B.count _ i li (rw (ef, et, eq-eqb v v refl, r) s)

-- the topological order
ready_same : (A B : Arcs) → Same A B → (marks : List ℕ) (v : ℕ) → ready A marks v ≡ ready B marks v
unfolding ready
ready_same A B S marks v =
    ap (λ (t : Bool). eqb (get_or marks v 0) 0 && not t) (same_test _ _ (waits_there A B S marks v) (waits_there B A (λ a b. sym (S a b)) marks v))

from_same : (A B : Arcs) → Same A B → (g k : ℕ) (marks : List ℕ) → order_from A g k marks ≡ order_from B g k marks
unfolding order_from
from_same A B S g zero marks = refl
from_same A B S g (suc k) marks =
    rw (first_to_ext g (ready A marks) (ready B marks) (λ v _. ready_same A B S marks v))
    (ap (or_none (first_to g (ready B marks)) g) (from_same A B S g k (set marks (first_to g (ready B marks)) 1)))

pub order_same : (A B : Arcs) → Same A B → (g : ℕ) → order_of A g ≡ order_of B g
unfolding order_of
order_same A B S g = from_same A B S g g (zeros g)

-- of the marks only their entries count, so that a longer list of them gives the same order
ready_marks : (A : Arcs) (l m : List ℕ) → ((i : ℕ) → get_or l i 0 ≡ get_or m i 0) → (v : ℕ) → ready A l v ≡ ready A m v
unfolding ready waits
ready_marks A l m e v = rw (e v) (ap (λ (t : Bool). eqb (get_or m v 0) 0 && not t) (any_ext A.count _ _ (λ j _. rw (e (A.from j)))))

from_marks : (A : Arcs) (g k : ℕ) (l m : List ℕ) → g ≤ length l → g ≤ length m → ((i : ℕ) → get_or l i 0 ≡ get_or m i 0) → order_from A g k l ≡ order_from A g k m
unfolding order_from or_none
from_marks A g zero l m hl hm e = refl
from_marks A g (suc k) l m hl hm e =
    let u = first_to g (ready A m) in
    rw (first_to_ext g (ready A l) (ready A m) (λ v _. ready_marks A l m e v))
    (by (ltb u g)
    (λ t.
    let h = ltb-true u g t in
    rw t
    (ap (λ (z : List ℕ). u ∷ z)
    (from_marks A g k (set l u 1) (set m u 1) (rw (length-set l u 1) hl) (rw (length-set m u 1) hm)
    (λ i.
    either (eq_or_ne i u)
    (λ q. rw (q, get_or-set_same l u 1 0 (omega arith), get_or-set_same m u 1 0 (omega arith)))
    (λ n. get_or-set_other l u i 1 0 n ∙ e i ∙ sym (get_or-set_other m u i 1 0 n))))))
    (λ t. rw t))

pub order_wide : (A : Arcs) (g w : ℕ) → g ≤ w → order_from A g g (zeros w) ≡ order_of A g
unfolding order_of
order_wide A g w h =
    from_marks A g g (zeros w) (zeros g) (omega (arith, length-zeros w)) (omega (arith, length-zeros g)) (λ i. get_d_zeros w i ∙ sym (get_d_zeros g i))

-- levels
rise_there : (A B : Arcs) → Same A B → (levels : List ℕ) (v : ℕ) → max_to A.count (rise A levels v) ≤ max_to B.count (rise B levels v)
unfolding rise
rise_there A B S levels v =
    max_le A.count _ _ (λ j l.
    by (eqb (A.to j) v && not (eqb (A.from j) v))
    (λ t.
    let (p, r) = both (eqb (A.to j) v) _ t in
    let (i, li, ef, et) = moved A B S v j l (eqb-true (A.to j) v p) (eqb-false (A.from j) v (not_yes _ r)) in
    let h = max_ge B.count (λ x. when (eqb (B.to x) v && not (eqb (B.from x) v)) (suc (get_or levels (B.from x) 0))) i li in
    rw t (rw (ef, et, eq-eqb v v refl, r) at h))
    (λ t. rw t (omega arith)))

after_same : (A B : Arcs) → Same A B → (g r : ℕ) → levels_after A g r ≡ levels_after B g r
unfolding levels_after
after_same A B S g zero = refl
after_same A B S g (suc r) =
    rw (after_same A B S g r)
    (list_to_ext g _ _ (λ v _. omega (arith, rise_there A B S (levels_after B g r) v, rise_there B A (λ a b. sym (S a b)) (levels_after B g r) v)))

pub levels_same : (A B : Arcs) → Same A B → (g : ℕ) → levels_of A g ≡ levels_of B g
unfolding levels_of
levels_same A B S g = after_same A B S g g

-- the lowest on a cycle
on_cycle_there : (A B : Arcs) → Same A B → (g : ℕ) → Inside B g → (v : ℕ) → on_cycle A g v ≡ true → on_cycle B g v ≡ true
on_cycle_there A B S g inside v t = walk_on_cycle B g inside v (walk_map (λ a b e. sym (S a b) ∙ e) (on_cycle_walk A g v t))

pub lowest_same : (A B : Arcs) → Same A B → (g : ℕ) → Inside A g → Inside B g → lowest_on_cycle A g ≡ lowest_on_cycle B g
unfolding lowest_on_cycle
lowest_same A B S g ia ib =
    first_to_ext g _ _ (λ v _. same_test _ _ (on_cycle_there A B S g ib v) (on_cycle_there B A (λ a b. sym (S a b)) g ia v))
