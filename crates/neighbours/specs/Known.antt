-- What is known of the clusters from one visit to the next: for each the lowest part of a successor, one more than the highest of a
-- predecessor, and a mark. Closed: no candidate is open to it. Right: the two numbers are right. Stale: a neighbour's move may have changed them.
use Rattle.std.specs.Prelude.{ℕ, ◌+◌, ◌≤◌, ◌<◌, min, max, ◌≡◌, Bool, false, ◌&&◌, ◌||◌, ◌⊎◌, List, eqb, ltb, leb, length, get_or}
use Rattle.folds.specs.Fold.{pick, turns}
use Rattle.neighbours.specs.declared.Mark.{Mark}
use Rattle.neighbours.specs.declared.Mark.TheVariants.{Closed, Right, Stale}
use Rattle.neighbours.specs.Visit.{lower_by, raise_by, low_next, high_before}

-- a candidate is open to a cluster of part own: from the part below high to low there is another, after own or before it
unfoldable pub open_to : ℕ → ℕ → ℕ → ℕ → Bool
open_to own low high k = (ltb own low && ltb (own + 1) k) || (ltb 0 own && leb high own)

-- the mark for a byte
abbrev pub mark_by : ℕ → Mark
mark_by byte = pick (eqb byte 0) Closed (pick (eqb byte 2) Stale Right)

-- the mark of cluster c
abbrev pub mark_at : List Mark → ℕ → Mark
mark_at marks c = get_or marks c Closed

-- a mark other than Stale says that the two numbers are right, and Closed that by them nothing is open
pub record Known (froms tos table : List ℕ) (k : ℕ) (low high : List ℕ) (marks : List Mark) : Type 0 where
  pub low_long : length low ≡ 512
  pub high_long : length high ≡ 512
  pub marks_long : length marks ≡ 512
  pub low_is : (c : ℕ) → c < 512 → (mark_at marks c ≡ Stale → ⊥) → get_or low c 0 ≡ low_next froms tos table c k
  pub high_is : (c : ℕ) → c < 512 → (mark_at marks c ≡ Stale → ⊥) → get_or high c 0 ≡ high_before froms tos table c
  pub closed : (c : ℕ) → c < 512 → mark_at marks c ≡ Closed → open_to (get_or table c 0) (get_or low c 0) (get_or high c 0) k ≡ false

-- and the two numbers of h are right
pub record Fresh (froms tos table : List ℕ) (k h : ℕ) (low high : List ℕ) (marks : List Mark) : Type 0 where
  pub known : Known froms tos table k low high marks
  pub right : mark_at marks h ≡ Stale → ⊥

-- the number of cluster c is one from first to last
unfoldable pub among : List ℕ → ℕ → ℕ → ℕ → Bool
among numbers first last c = leb first (get_or numbers c 0) && leb (get_or numbers c 0) last

-- the marks after a move of h from part own to part t: Stale at its successors and predecessors, but where their number is beyond both parts, so that
-- another neighbour gives it; a mark that is not Stale is as it was
pub record Roused (froms tos : List ℕ) (h own t : ℕ) (low high : List ℕ) (marks marks' : List Mark) : Type 0 where
  pub long : length marks' ≡ 512
  pub next : (i : ℕ) → i < length froms → get_or froms i 0 ≡ h → (mark_at marks' (get_or tos i 0) ≡ Stale) ⊎ (among high 0 (max (own + 1) t) (get_or tos i 0) ≡ false)
  pub before : (i : ℕ) → i < length froms → get_or tos i 0 ≡ h → (mark_at marks' (get_or froms i 0) ≡ Stale) ⊎ (among low (min own (t + 1)) 16 (get_or froms i 0) ≡ false)
  pub others : (c : ℕ) → (mark_at marks' c ≡ Stale → ⊥) → mark_at marks' c ≡ mark_at marks c

-- What the loops have done so far.
-- The two numbers of every cluster by the first m edges:
pub record Swept (froms tos table : List ℕ) (k m : ℕ) (low high : List ℕ) : Type 0 where
  pub low_long : length low ≡ 512
  pub high_long : length high ≡ 512
  pub low_is : (c : ℕ) → c < 512 → get_or low c 0 ≡ turns m (lower_by froms tos table c) k
  pub high_is : (c : ℕ) → c < 512 → get_or high c 0 ≡ turns m (raise_by tos froms table c) 0

-- the marks of the first g clusters by their numbers; of the others nothing is claimed
pub record Opened (table low high : List ℕ) (k g : ℕ) (marks : List Mark) : Type 0 where
  pub long : length marks ≡ 512
  pub is : (c : ℕ) → c < g → mark_at marks c ≡ pick (open_to (get_or table c 0) (get_or low c 0) (get_or high c 0) k) Right Closed
  pub rest : (c : ℕ) → g ≤ c → c < 512 → mark_at marks c ≡ Stale

-- the marks after a walk along the first m edges whose near end is h: those at the far ends are Stale where the number there is one from first to last
pub record Staled (near far numbers : List ℕ) (first last h m : ℕ) (marks marks' : List Mark) : Type 0 where
  pub long : length marks' ≡ 512
  pub far_ends : (i : ℕ) → i < m → get_or near i 0 ≡ h → (mark_at marks' (get_or far i 0) ≡ Stale) ⊎ (among numbers first last (get_or far i 0) ≡ false)
  pub others : (c : ℕ) → (mark_at marks' c ≡ Stale → ⊥) → mark_at marks' c ≡ mark_at marks c
