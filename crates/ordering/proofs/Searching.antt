-- A search from v: what its steps keep, and that at its end it has marked what walks from v go to.
use Prim.Native.Nat.{ℕ, suc, ◌+◌, ◌≤◌, ◌<◌}
use mathlib.Core.Path.{◌≡◌, refl, sym, ap, ◌∙◌}
use mathlib.Core.Bool.{Bool, true, false}
use mathlib.Core.Logic.{◌⊎◌}
use mathlib.Core.List.{List}
use native.Mathlib.Omega.{arith}
use lib.Dec.{ltb}
use lib.ListN.{length, get_or, set, length-set, replicate, get_or-replicate}
use Rattle.std.proofs.lemmas.List.{get_or_past}
use lib.Seq.{get_or-set_same, get_or-set_other}
use borrow.Author.Tests.{eq-eqb, ne_eqb, ltb-true, ltb-false}
use Rattle.folds.specs.Fold.{count_to, zeros}
use Rattle.folds.proofs.Cases.{no_bool, by, either, eq_or_ne, same_test}
use Rattle.folds.proofs.Sums.{with, with_same, with_other, count_to_le, count_to_ext, count_to_with, count_to_zero}
use Rattle.folds.proofs.Lists.{length-zeros}
use Rattle.graph.specs.Walk.{Walk, one, more}
use Rattle.graph.specs.Graph.{Arcs, Edge, Inside}
use Rattle.graph.specs.Links.{Linked, leave}
use Rattle.graph.proofs.Links.{On, leave_at, leave_from}
use Rattle.graph.proofs.Edges.{arc_edge, edge_arc, edge_other}
use Rattle.topology.specs.Reach.{on_cycle}
use Rattle.ordering.specs.Search.{marked, Queued, Spread, Entered}
use Rattle.topology.proofs.Reaches.{on_cycle_walk, walk_on_cycle}

-- at first nothing is marked
pub none_marked : (x : ℕ) → marked (replicate 512 false) x ≡ false
none_marked x = by (ltb x 512) (λ t. get_or-replicate 512 x false false (ltb-true x 512 t)) (λ t. get_or_past (replicate 512 false) x false (ltb-false x 512 t))

marked_low : (marks : List Bool) (x : ℕ) → marked marks x ≡ true → x < length marks
marked_low marks x t =
    by (ltb x (length marks)) (λ e. ltb-true _ _ e)
    (λ e. absurd (no_bool (sym (get_or_past marks x false (ltb-false x (length marks) e)) ∙ t)))

-- one more is marked
marked-set : (marks : List Bool) (b x : ℕ) → b < length marks → marked (set marks b true) x ≡ with (marked marks) b x
unfolding with
marked-set marks b x l =
    either (eq_or_ne x b) (λ e. rw (e, get_or-set_same marks b true false l, eq-eqb b b refl))
    (λ n. rw (get_or-set_other marks b x true false n, ne_eqb x b n))

module _ {A : Arcs} {v b n : ℕ} {marks : List Bool} {queue : List ℕ} (Q : Queued A v marks queue n) where
  more_marked : b < 512 → marked marks b ≡ false → count_to 512 (marked (set marks b true)) ≡ suc n
  more_marked l z =
      count_to_ext 512 _ _ (λ x _. marked-set marks b x (omega (arith, Q.tall)))
      ∙ count_to_with 512 (marked marks) b l z
      ∙ ap suc (sym Q.many)

  -- there is room for one that is not marked
  pub queue_room : b < 512 → marked marks b ≡ false → n < 512
  queue_room l z = omega (arith, more_marked l z, count_to_le 512 (marked (set marks b true)))

  was_marked : (x : ℕ) → b < 512 → (x ≡ b → ⊥) → marked (set marks b true) x ≡ true → marked marks x ≡ true
  was_marked x l ne t = sym (with_other (marked marks) b x ne) ∙ sym (marked-set marks b x (omega (arith, Q.tall))) ∙ t

module _ {A : Arcs} {v u b n : ℕ} {marks : List Bool} {queue : List ℕ} (Q : Queued A v marks queue n) where
  pub entered_same : b ≡ u → Entered A v u b marks queue n marks queue n
  entered_same e = record { now = Q; more = omega arith; kept = λ i _. refl; grown = λ x t. t; done = λ ne. absurd (ne e) }

  pub entered_old : marked marks b ≡ true → Entered A v u b marks queue n marks queue n
  entered_old t = record { now = Q; more = omega arith; kept = λ i _. refl; grown = λ x t. t; done = λ _. t }

  pub entered_new : b < 512 → marked marks b ≡ false → (b ≡ u → ⊥) → ((b ≡ u → ⊥) → Walk (Edge A) v b) → Entered A v u b marks queue n (set marks b true) (set queue n b) (n + 1)
  entered_new l z ne walk =
      record {
        now = record {
          tall = length-set marks b true ∙ Q.tall;
          long = length-set queue n b ∙ Q.long;
          many = omega (arith, more_marked Q l z);
          entries = λ i h. either (eq_or_ne i n) (λ e. rw (e, get_or-set_same queue n b 0 room) (is_marked b (with_same (marked marks) b)))
              (λ d. rw (get_or-set_other queue n i b 0 d) (grows _ (Q.entries i (omega arith))));
          queued = λ x t. either (eq_or_ne x b) (λ e. (n, omega arith, get_or-set_same queue n b 0 room ∙ sym e)) (λ d. found x (Q.queued x (was_marked Q x l d t)));
          walks = λ x t. either (eq_or_ne x b) (λ e. rw e (walk ne)) (λ d. Q.walks x (was_marked Q x l d t));
        };
        more = omega arith;
        kept = λ i h. get_or-set_other queue n i b 0 (λ e. omega arith);
        grown = grows;
        done = λ _. is_marked b (with_same (marked marks) b);
      }
    where
      room : n < length queue
      room = omega (arith, queue_room Q l z, Q.long)

      is_marked : (x : ℕ) → with (marked marks) b x ≡ true → marked (set marks b true) x ≡ true
      is_marked x t = marked-set marks b x (omega (arith, Q.tall)) ∙ t

      grows : (x : ℕ) → marked marks x ≡ true → marked (set marks b true) x ≡ true
      grows x t = is_marked x (either (eq_or_ne x b) (λ e. rw e (with_same (marked marks) b)) (λ d. with_other (marked marks) b x d ∙ t))

      found : (x : ℕ) → (i : ℕ) × (i < n) × (get_or queue i 0 ≡ x) → (i : ℕ) × (i < n + 1) × (get_or (set queue n b) i 0 ≡ x)
      found x (i, h, e) = (i, omega arith, get_or-set_other queue n i b 0 (λ q. omega arith) ∙ e)

-- the edges from u, along their links
module _ {A : Arcs} {v u m n : ℕ} {marks : List Bool} {head next queue : List ℕ} (L : Linked (leave A) m head next) where
  pub spread_none : Queued A v marks queue n → u < 512 → Spread A v u (get_or head u 0) marks queue n marks queue n
  spread_none Q l =
      record { now = Q; more = omega arith; kept = λ i _. refl; grown = λ x t. t; done = λ i h e ne. absurd ((L.heads u l).skips i (omega arith) h (leave_at A i e ne)) }

  pub spread_turn : {j b n' n'' : ℕ} {marks' marks'' : List Bool} {queue' queue'' : List ℕ} → Spread A v u j marks queue n marks' queue' n' → On (leave A) m u j → j < m
      → b ≡ A.to j → Entered A v u b marks' queue' n' marks'' queue'' n'' → Spread A v u (get_or next j 0) marks queue n marks'' queue'' n''
  spread_turn {j} {b} S o l eb E =
      record {
        now = E.now;
        more = omega (arith, S.more, E.more);
        kept = λ i h. E.kept i (omega (arith, S.more)) ∙ S.kept i h;
        grown = λ x t. E.grown x (S.grown x t);
        done = λ i h e ne.
            either (eq_or_ne i j) (λ q. rw (q, ← eb) (E.done (λ z. ne (ap A.to q ∙ sym eb ∙ z))))
            (λ d. by (ltb i j) (λ t. E.grown _ (S.done i (ltb-true i j t) e ne))
            (λ t. absurd ((rw (o.at l) at (L.nexts j l)).skips i (omega (arith, ltb-false i j t)) h (leave_at A i e ne))));
      }

  -- a walk goes to what an edge from u goes to
  pub spread_walk : {j b : ℕ} {marks' : List Bool} {queue' : List ℕ} {n' : ℕ} → ((u ≡ v) ⊎ (marked marks u ≡ true)) → Spread A v u j marks queue n marks' queue' n'
      → m ≡ A.count → On (leave A) m u j → j < m → u < 512 → b ≡ A.to j → (b ≡ u → ⊥) → Walk (Edge A) v b
  spread_walk {j} {b} at S em o l lu eb ne =
      let near = leave_from A j (o.at l) lu in
      let e = arc_edge A j (omega arith) (λ q. ne (eb ∙ sym q ∙ near)) in
      let f : Edge A u b = rw (near, ← eb) at e in
      either at (λ q. one (rw q at f)) (λ t. more (S.now.walks u (S.grown u t)) f)

-- the whole search: the edges of v and of the first i in the queue are done
pub record Searched (A : Arcs) (v i : ℕ) (marks : List Bool) (queue : List ℕ) (n : ℕ) : Type 0 where
  pub now : Queued A v marks queue n
  pub upto : i ≤ n
  pub first : (x : ℕ) → Edge A v x → marked marks x ≡ true
  pub closed : (k x : ℕ) → k < i → Edge A (get_or queue k 0) x → marked marks x ≡ true

pub queued_none : (A : Arcs) (v : ℕ) → Queued A v (replicate 512 false) (zeros 512) 0
queued_none A v =
    record {
      tall = refl;
      long = length-zeros 512;
      many = sym (count_to_zero 512 _ (λ x _. none_marked x));
      entries = λ i h. absurd (omega arith);
      queued = λ x t. absurd (no_bool (sym (none_marked x) ∙ t));
      walks = λ x t. absurd (no_bool (sym (none_marked x) ∙ t));
    }

-- all edges of u are done
spread_all : {A : Arcs} {v u : ℕ} {marks marks' : List Bool} {queue queue' : List ℕ} {n n' : ℕ} → Spread A v u A.count marks queue n marks' queue' n' → (x : ℕ) → Edge A u x → marked marks' x ≡ true
spread_all {A} {v} {u} S x e =
    let (j, h, eu, ex) = edge_arc A u x e in rw ex at (S.done j h eu (λ q. edge_other A u x e (sym q ∙ ex)))

module _ {A : Arcs} {v : ℕ} where
  pub searched_first : {marks marks' : List Bool} {queue queue' : List ℕ} {n n' : ℕ} → Spread A v v A.count marks queue n marks' queue' n' → Searched A v 0 marks' queue' n'
  searched_first S = record { now = S.now; upto = omega arith; first = spread_all S; closed = λ k x h. absurd (omega arith) }

  pub searched_turn : {marks marks' : List Bool} {queue queue' : List ℕ} {i u n n' : ℕ} → Searched A v i marks queue n → i < n → u ≡ get_or queue i 0
      → Spread A v u A.count marks queue n marks' queue' n' → Searched A v (i + 1) marks' queue' n'
  searched_turn {i = i} W l e S =
      record {
        now = S.now;
        upto = omega (arith, S.more);
        first = λ x t. S.grown x (W.first x t);
        closed = λ k x h t.
            let q = rw (S.kept k (omega arith)) at t in
            either (eq_or_ne k i) (λ d. spread_all S x (rw (d, ← e) at q)) (λ d. S.grown x (W.closed k x (omega arith) q));
      }

  searched_walk : {marks : List Bool} {queue : List ℕ} {i n x : ℕ} → Searched A v i marks queue n → n ≤ i → Walk (Edge A) v x → marked marks x ≡ true
  searched_walk W l (one e) = W.first _ e
  searched_walk W l (more {b = y} w e) =
      let (k, h, q) = W.now.queued y (searched_walk W l w) in W.closed k _ (omega arith) (rw q e)

  -- at the end v is marked exactly if a walk from it comes back
  pub searched_end : {marks : List Bool} {queue : List ℕ} {i n g : ℕ} → Inside A g → Searched A v i marks queue n → n ≤ i → marked marks v ≡ on_cycle A g v
  searched_end {g = g} inside W l =
      same_test _ _ (λ t. walk_on_cycle A g inside v (W.now.walks v t)) (λ t. searched_walk W l (on_cycle_walk A g v t))

pub queued_low : {A : Arcs} {v n i : ℕ} {marks : List Bool} {queue : List ℕ} → Queued A v marks queue n → i < n → get_or queue i 0 < 512
queued_low {marks = marks} Q l = omega (arith, Q.tall, marked_low marks _ (Q.entries _ l))

pub queued_few : {A : Arcs} {v n : ℕ} {marks : List Bool} {queue : List ℕ} → Queued A v marks queue n → n ≤ 512
queued_few {marks = marks} Q = omega (arith, Q.many, count_to_le 512 (marked marks))
