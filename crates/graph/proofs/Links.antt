-- Links made from the last edge down, and walks along them.
use Prim.Native.Nat.{ℕ, ◌+◌, ◌-◌, ◌≤◌, ◌<◌}
use mathlib.Core.Path.{◌≡◌, refl, sym, ap, ◌∙◌}
use mathlib.Core.Bool.{Bool, false}
use mathlib.Core.Logic.{⊎_elim}
use mathlib.Core.List.{List}
use native.Mathlib.Nat.{eq-or-lt_of_le}
use native.Mathlib.Omega.{arith}
use borrow.Author.Tests.{eq-eqb, ne_eqb}
use lib.ListN.{length, get_or, set, replicate, get_or-replicate, length-set}
use lib.Seq.{get_or-set_same, get_or-set_other}
use Rattle.folds.specs.Fold.{sum_to, first_to, turns, Read}
use Rattle.folds.proofs.Cases.{either, eq_or_ne}
use Rattle.folds.proofs.Sums.{sum_to_zero, sum_to_turn, sum_to_skip}
use Rattle.folds.proofs.Searches.{first_to_zero, first_to_more, first_to_skip}
use Rattle.folds.proofs.Loops.{turns_zero, turns_turn, turns_skip}
use Rattle.graph.specs.Graph.{Arcs}
use Rattle.graph.specs.Links.{Hop, Linked, Ends, Joins, Cluster, leave}

-- the links of the edges from j on
pub record Made (key : ℕ → ℕ) (m j : ℕ) (head next : List ℕ) : Type 0 where
  pub tall : length head ≡ 513
  pub long : length next ≡ 1024
  pub heads : (a : ℕ) → a < 513 → Hop key m a j (get_or head a 0)
  pub nexts : (i : ℕ) → j ≤ i → i < m → Hop key m (key i) (i + 1) (get_or next i 0)

pub hop_none : (key : ℕ → ℕ) (m a : ℕ) → Hop key m a m m
hop_none key m a = record { within = omega arith; past = omega arith; skips = λ i l h e. omega arith; lands = λ l. absurd (omega arith) }

pub hop_here : (key : ℕ → ℕ) (m a j : ℕ) → j ≤ m → key j ≡ a → Hop key m a j j
hop_here key m a j l e = record { within = l; past = omega arith; skips = λ i l h e. omega arith; lands = λ _. e }

-- an edge of another key in front
pub hop_over : (key : ℕ → ℕ) (m a j x : ℕ) → (key j ≡ a → ⊥) → Hop key m a (j + 1) x → Hop key m a j x
hop_over key m a j x n h =
    record {
      within = h.within;
      past = omega (arith, h.past);
      skips = λ i l g e. ⊎_elim (λ q. n (ap key q ∙ e)) (λ q. h.skips i (omega arith) g e) (eq-or-lt_of_le l);
      lands = h.lands;
    }

module _ (key : ℕ → ℕ) (m : ℕ) where
  pub made_none : (next : List ℕ) → length next ≡ 1024 → Made key m m (replicate 513 m) next
  made_none next e =
      record {
        tall = refl;
        long = e;
        heads = λ a l. rw (get_or-replicate 513 a m 0 l) (hop_none key m a);
        nexts = λ i l h. absurd (omega arith);
      }

  pub made_turn : (j k : ℕ) (head next : List ℕ) → key j ≡ k → k < 513 → j < m → m ≤ 1024
      → Made key m (j + 1) head next → Made key m j (set head k j) (set next j (get_or head k 0))
  made_turn j k head next e lk lj lm w =
      record {
        tall = length-set head k j ∙ w.tall;
        long = length-set next j (get_or head k 0) ∙ w.long;
        heads = λ a l. ⊎_elim (head_same a) (head_other a l) (eq_or_ne a k);
        nexts = λ i l h. ⊎_elim (next_same i) (next_other i l h) (eq_or_ne i j);
      }
    where
      head_same : (a : ℕ) → a ≡ k → Hop key m a j (get_or (set head k j) a 0)
      head_same a q = rw (q, get_or-set_same head k j 0 (omega (arith, w.tall))) (hop_here key m k j (omega arith) e)

      head_other : (a : ℕ) → a < 513 → (a ≡ k → ⊥) → Hop key m a j (get_or (set head k j) a 0)
      head_other a l n = rw (get_or-set_other head k a j 0 n) (hop_over key m a j _ (λ q. n (sym q ∙ e)) (w.heads a l))

      next_same : (i : ℕ) → i ≡ j → Hop key m (key i) (i + 1) (get_or (set next j (get_or head k 0)) i 0)
      next_same i q = rw (q, get_or-set_same next j (get_or head k 0) 0 (omega (arith, w.long)), e) (w.heads k lk)

      next_other : (i : ℕ) → j ≤ i → i < m → (i ≡ j → ⊥) → Hop key m (key i) (i + 1) (get_or (set next j (get_or head k 0)) i 0)
      next_other i l h n = rw (get_or-set_other next j i (get_or head k 0) 0 n) (w.nexts i (omega arith) h)

  -- the same at the code's j - 1
  pub made_down : (j k : ℕ) (head next : List ℕ) → key (j - 1) ≡ k → k < 513 → 0 < j → j ≤ m → m ≤ 1024
      → Made key m j head next → Made key m (j - 1) (set head k (j - 1)) (set next (j - 1) (get_or head k 0))
  made_down j k head next e lk l lj lm w =
      let q : j ≡ (j - 1) + 1 = omega arith in made_turn (j - 1) k head next e lk (omega arith) lm (rw q at w)

  pub made_end : {j : ℕ} {head next : List ℕ} → j ≡ 0 → Made key m j head next → Linked key m head next
  made_end {j} e w = record { tall = w.tall; long = w.long; heads = λ a l. rw e at (w.heads a (omega arith)); nexts = λ i l. w.nexts i (omega arith) l }

-- what two reads give: the cluster of an edge's end
pub end_in : {row ends : List ℕ} {j v b : ℕ} → Ends row ends → j < length ends → Read ends j b v → v < length row
end_in p l r = rw r.is (p.in_row _ l)

pub cluster_is : {row ends : List ℕ} {j v a b b' : ℕ} → Ends row ends → j < length ends → Read ends j b v → Read row v b' a → Cluster row ends j a
cluster_is {row} p l r q = record { is = q.is ∙ ap (λ (x : ℕ). get_or row x 0) r.is; low = rw q.is (p.low _ (end_in p l r)) }

-- edges at which f is not 0 have the key a
abbrev pub Only : (ℕ → ℕ) → ℕ → (ℕ → ℕ) → Type 0
Only key a f = (i : ℕ) → (key i ≡ a → ⊥) → f i ≡ 0

-- edges at which f does something have the key a
abbrev pub Acts : {S : Type 0} → (ℕ → ℕ) → ℕ → (ℕ → S → S) → Type 0
Acts {S} key a f = (i : ℕ) → (key i ≡ a → ⊥) → (t : S) → f i t ≡ t

-- on the list of a, or at its end
pub record On (key : ℕ → ℕ) (m a j : ℕ) : Type 0 where
  pub within : j ≤ m
  pub at : j < m → key j ≡ a

hop_on : {key : ℕ → ℕ} {m a from to : ℕ} → Hop key m a from to → On key m a to
hop_on h = record { within = h.within; at = h.lands }

pub hop_sum : {key : ℕ → ℕ} {m a from to : ℕ} (f : ℕ → ℕ) → Only key a f → Hop key m a from to → sum_to to f ≡ sum_to from f
hop_sum f o h = sum_to_skip f _ _ h.past (λ i l g. o i (λ e. h.skips i l g e))

pub hop_turns : {S : Type 0} {key : ℕ → ℕ} {m a from to : ℕ} (f : ℕ → S → S) (s : S) → Acts key a f → Hop key m a from to → turns to f s ≡ turns from f s
hop_turns f s o h = turns_skip f s _ _ h.past (λ i l g. o i (λ e. h.skips i l g e))

-- a walk `j = head[a]; while j < m { .. j = next[j]; }`
module _ {key : ℕ → ℕ} {m : ℕ} {head next : List ℕ} (L : Linked key m head next) where
  pub walk_on : (a : ℕ) → a < 512 → On key m a (get_or head a 0)
  walk_on a l = hop_on (L.heads a l)

  hop : (a j : ℕ) → On key m a j → j < m → Hop key m a (j + 1) (get_or next j 0)
  hop a j o l = rw (o.at l) at (L.nexts j l)

  pub walk_next : (a j : ℕ) → On key m a j → j < m → On key m a (get_or next j 0)
  walk_next a j o l = hop_on (hop a j o l)

  pub walk_less : (j : ℕ) → j < m → j < get_or next j 0
  walk_less j l = omega (arith, (L.nexts j l).past)

  -- a sum: where the walk begins, and a turn
  pub sum_on : (a : ℕ) (f : ℕ → ℕ) → Only key a f → a < 512 → 0 ≡ sum_to (get_or head a 0) f
  sum_on a f o l = sym (hop_sum f o (L.heads a l) ∙ sum_to_zero f)

  pub sum_next : (a j s x : ℕ) (f : ℕ → ℕ) → Only key a f → On key m a j → j < m → s ≡ sum_to j f → x ≡ f j → s + x ≡ sum_to (get_or next j 0) f
  sum_next a j s x f o n l e h = sum_to_turn f e h ∙ sym (hop_sum f o (hop a j n l))

  -- a state
  pub turns_on : {S : Type 0} (a : ℕ) (f : ℕ → S → S) (s : S) → Acts key a f → a < 512 → s ≡ turns (get_or head a 0) f s
  turns_on a f s o l = turns_zero f s ∙ sym (hop_turns f s o (L.heads a l))

  pub turns_next : {S : Type 0} (a j : ℕ) (f : ℕ → S → S) (s t u : S) → Acts key a f → On key m a j → j < m → t ≡ turns j f s → u ≡ f j t → u ≡ turns (get_or next j 0) f s
  turns_next a j f s t u o n l e h = turns_turn f s e h ∙ sym (hop_turns f s o (hop a j n l))

-- where the walk has ended
pub on_end : {key : ℕ → ℕ} {m a j : ℕ} → On key m a j → m ≤ j → j ≡ m
on_end o l = omega (arith, o.within)

-- a search: tests that hold have the key a
abbrev pub Finds : (ℕ → ℕ) → ℕ → (ℕ → Bool) → Type 0
Finds key a p = (i : ℕ) → (key i ≡ a → ⊥) → p i ≡ false

module _ {key : ℕ → ℕ} {m : ℕ} {head next : List ℕ} (L : Linked key m head next) where
  pub first_on : (a : ℕ) (p : ℕ → Bool) → Finds key a p → a < 512 → first_to (get_or head a 0) p ≡ get_or head a 0
  first_on a p o l = first_to_skip p 0 (get_or head a 0) (omega arith) (λ i li gi. o i (λ e. (L.heads a l).skips i li gi e)) (first_to_zero p)

  pub first_next : (a j : ℕ) (p : ℕ → Bool) → Finds key a p → On key m a j → j < m → first_to j p ≡ j → p j ≡ false → first_to (get_or next j 0) p ≡ get_or next j 0
  first_next a j p o n l e h =
      let k = rw (n.at l) at (L.nexts j l) in
      first_to_skip p (j + 1) (get_or next j 0) k.past (λ i li gi. o i (λ q. k.skips i li gi q)) (first_to_more j p e h)

-- an edge has both ends
pub joined_ends : {row starts ends : List ℕ} {j : ℕ} → Joins row starts ends → j < length starts → j < length ends
joined_ends p l = omega (arith, p.same)

-- edges that leave a cluster
module _ (A : Arcs) (j : ℕ) {u : ℕ} where
  pub leave_at : A.from j ≡ u → (A.to j ≡ u → ⊥) → leave A j ≡ u
  unfolding leave
  leave_at e n = rw (ne_eqb (A.from j) (A.to j) (λ q. n (sym q ∙ e))) e

  pub stays : (leave A j ≡ u → ⊥) → A.from j ≡ u → A.to j ≡ u
  stays n e = either (eq_or_ne (A.to j) u) (λ q. q) (λ q. absurd (n (leave_at e q)))

  module _ (e : leave A j ≡ u) (l : u < 512) where
    crosses : A.from j ≡ A.to j → ⊥
    unfolding leave
    crosses q = let z : 512 ≡ u = rw (eq-eqb (A.from j) (A.to j) q) at e in omega arith

    pub leave_from : A.from j ≡ u
    unfolding leave
    leave_from = rw (ne_eqb (A.from j) (A.to j) crosses) at e

-- of the keys only those of the m edges count
hop_same : {key key' : ℕ → ℕ} {m a from to : ℕ} → ((i : ℕ) → i < m → key i ≡ key' i) → Hop key m a from to → Hop key' m a from to
hop_same e h =
    record {
      within = h.within;
      past = h.past;
      skips = λ i l u q. h.skips i l u (e i (omega (arith, h.within)) ∙ q);
      lands = λ l. sym (e _ l) ∙ h.lands l;
    }

pub linked_same : {key key' : ℕ → ℕ} {m : ℕ} {head next : List ℕ} → ((i : ℕ) → i < m → key i ≡ key' i) → Linked key m head next → Linked key' m head next
linked_same {key} {key'} {m} e L =
    record {
      tall = L.tall;
      long = L.long;
      heads = λ a l. hop_same e (L.heads a l);
      nexts = λ j l. rw (e j l) at (hop_same {key = key} {key' = key'} {m = m} {a = key j} e (L.nexts j l));
    }

-- an edge between two clusters leaves the first
pub leave_apart : (A : Arcs) (j : ℕ) → (A.from j ≡ A.to j → ⊥) → leave A j ≡ A.from j
leave_apart A j n = leave_at A j refl (λ q. n (sym q))
