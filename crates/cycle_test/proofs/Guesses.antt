-- Numbers that rise along every edge rule cycles out; each list of edges leads on.
use Rattle.std.proofs.Common.{◌≡◌, ℕ, ◌+◌, ◌*◌, ◌/◌, ◌%◌, ◌<◌, ◌≤◌, List, length, get_or, set, replicate, refl, ap, mod-lt, div-lt_iff_lt-mul, le-div_iff_mul-le, arith, length-set, get_or-set_other, get_or-set_same}
use lib.Arith.{digits_div}
use lib.ListN.{get_or-replicate}
use Rattle.folds.proofs.Cases.{either, eq_or_ne}
use Rattle.graph.specs.Walk.{Acyclic}
use Rattle.graph.specs.Graph.{joining, Edge}
use Rattle.graph.proofs.Walks.{rank_law}
use Rattle.graph.proofs.Edges.{edge_arc}
use Rattle.cycle_test.specs.Guess.{Filling}

module _ (starts ends : List ℕ) where
  pub ranks_free : (φ : ℕ → ℕ) → ((j : ℕ) → j < length starts → φ (get_or starts j 0) < φ (get_or ends j 0)) → Acyclic (Edge (joining starts ends))
  ranks_free φ up =
      rank_law (Edge (joining starts ends)) φ
      (λ a b e. let (j, h, ea, eb) = edge_arc (joining starts ends) a b e in omega (arith, up j h, ap φ ea, ap φ eb))

  pub none_free : length starts ≡ 0 → Acyclic (Edge (joining starts ends))
  none_free z = ranks_free (λ v. v) (λ j h. absurd (omega arith))

-- the lists
pub filling_none : {m : ℕ} {arcs : List ℕ} → m ≤ 1024 → length arcs ≡ 1024 → Filling m m (replicate 512 (m * 65536)) arcs
filling_none {m} l e =
    record {
      tall = refl;
      long = e;
      heads = λ v h. rw (get_or-replicate 512 v (m * 65536) 0 h) (omega arith);
      small = λ v h. rw (get_or-replicate 512 v (m * 65536) 0 h) (omega arith);
      later = λ i p h. absurd (omega arith);
    }

-- the first edge of a list
pub head_few : {x : ℕ} → x ≤ 67109888 → x / 65536 ≤ 1024
head_few {x} l = let h : x / 65536 < 1025 = (div-lt_iff_lt-mul {k = 65536} {x = x} {y = 1025} (omega arith)).1 (omega arith) in omega arith

-- edge k comes to the front of the list of a, whose edges were all past it
module _ {k a : ℕ} (cells : List ℕ) (lk : k < 1024) (la : a < length cells) (heads : (v : ℕ) → v < 512 → (k + 1) * 65536 ≤ get_or cells v 0)
    (small : (v : ℕ) → v < 512 → get_or cells v 0 + (k + 1) ≤ 67109888) where
  abbrev headed : List ℕ
  headed = set cells a (k * 65536 + get_or cells a 0 % 65536)

  headed_room : (v : ℕ) → v < 512 → (k * 65536 ≤ get_or headed v 0) × (get_or headed v 0 + (k + 1) ≤ 67109888)
  headed_room v lv =
      either (eq_or_ne v a)
      (λ q. let h : get_or cells a 0 % 65536 < 65536 = mod-lt (get_or cells a 0) (omega arith) in rw (q, get_or-set_same cells a (k * 65536 + get_or cells a 0 % 65536) 0 la) (omega arith, omega arith))
      (λ n. rw (get_or-set_other cells a v (k * 65536 + get_or cells a 0 % 65536) 0 n) (omega (arith, heads v lv), small v lv))

  counted_room : {b : ℕ} → b < 512 → length cells ≡ 512 → (v : ℕ) → v < 512
      → (k * 65536 ≤ get_or (set headed b (get_or headed b 0 + 1)) v 0) × (get_or (set headed b (get_or headed b 0 + 1)) v 0 + k ≤ 67109888)
  counted_room {b} lb e v lv =
      let (hv, sv) = headed_room v lv in
      let (hb, sb) = headed_room b lb in
      either (eq_or_ne v b)
      (λ q. rw (q, get_or-set_same headed b (get_or headed b 0 + 1) 0 (omega (arith, length-set cells a (k * 65536 + get_or cells a 0 % 65536)))) (omega arith, omega arith))
      (λ n. rw (get_or-set_other headed b v (get_or headed b 0 + 1) 0 n) (hv, omega arith))

pub filling_down : {m k a b : ℕ} {cells arcs : List ℕ} → k < 1024 → a < 512 → b < 512 → Filling m (k + 1) cells arcs
    → (get_or cells a 0 ≤ 67109888) × (get_or (set cells a (k * 65536 + get_or cells a 0 % 65536)) b 0 < 67109888)
    × Filling m k (set (set cells a (k * 65536 + get_or cells a 0 % 65536)) b (get_or (set cells a (k * 65536 + get_or cells a 0 % 65536)) b 0 + 1)) (set arcs k (get_or cells a 0 / 65536 * 512 + b))
filling_down {m} {k} {a} {b} {cells} {arcs} lk la lb F = (
  omega (arith, F.small a la),
  omega (arith, (headed_room cells lk ia F.heads F.small b lb).1),
  record {
    tall = simp length-set F.tall;
    long = simp length-set F.long;
    heads = λ v lv. (counted_room cells lk ia F.heads F.small lb F.tall v lv).0;
    small = λ v lv. (counted_room cells lk ia F.heads F.small lb F.tall v lv).1;
    later = λ i l h.
        either (eq_or_ne i k)
        (λ q. rw (q, get_or-set_same arcs k x 0 (omega (arith, F.long)), digits_div (get_or cells a 0 / 65536) lb)
        (let z : k + 1 ≤ get_or cells a 0 / 65536 = (le-div_iff_mul-le {k = 65536} {x = k + 1} {y = get_or cells a 0} (omega arith)).1 (F.heads a la) in omega arith))
        (λ n. rw (get_or-set_other arcs k i x 0 n) (F.later i (omega arith) h));
  },
)
  where
    ia : a < length cells
    ia = omega (arith, F.tall)

    x : ℕ
    x = get_or cells a 0 / 65536 * 512 + b
