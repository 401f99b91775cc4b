-- Join rules 1 and 2, over any list of pairs of clusters, whoever picked them.
use Rattle.std.specs.Prelude.{ℕ, ◌+◌, ◌<◌, ◌≡◌, ◌⊎◌, List, length, get_or}
use Rattle.graph.specs.Graph.{Arcs, Edge}
use Rattle.topology.specs.Level.{level}

-- document 01: a pair (u, v) of groups
pub record Pair : Type 0 where
  pub from : ℕ
  pub to : ℕ

abbrev pub pair : ℕ → ℕ → Pair
pair u v = record { from = u; to = v }

-- document 01: a round is a set of pairs, perhaps empty: here a list in which no cluster is in two
abbrev pub Round : Type 0
Round = List Pair

abbrev pub pair_at : Round → ℕ → Pair
pair_at ps i = get_or ps i (pair 0 0)

module _ (A : Arcs) (g : ℕ) where
  -- the level of v is one above that of u
  abbrev pub Next : ℕ → ℕ → Type 0
  Next u v = level A g v ≡ level A g u + 1

  -- document 01: v is u's only receiver; u is v's only sender
  abbrev pub OnlySuccessor : ℕ → ℕ → Type 0
  OnlySuccessor u v = (w : ℕ) → Edge A u w → w ≡ v

  abbrev pub OnlyPredecessor : ℕ → ℕ → Type 0
  OnlyPredecessor u v = (w : ℕ) → Edge A w v → w ≡ u

  -- document 01, join rule 1
  pub record RuleOne (p : Pair) : Type 0 where
    pub joins : Edge A p.from p.to
    pub near : Next p.from p.to ⊎ (OnlySuccessor p.from p.to ⊎ OnlyPredecessor p.from p.to)

  -- document 01, join rule 2, of two different pairs p and q
  pub record RuleTwo (p q : Pair) : Type 0 where
    pub clear : Edge A p.from q.to → Next p.from q.to → ⊥
    -- no group is in two pairs
    pub from_from : p.from ≡ q.from → ⊥
    pub from_to : p.from ≡ q.to → ⊥
    pub to_to : p.to ≡ q.to → ⊥

  -- a round on g clusters keeps both rules, by the levels that these clusters have
  pub record Keeps (ps : Round) : Type 0 where
    pub one : (i : ℕ) → i < length ps → RuleOne (pair_at ps i)
    pub two : (i k : ℕ) → i < length ps → k < length ps → (i ≡ k → ⊥) → RuleTwo (pair_at ps i) (pair_at ps k)
