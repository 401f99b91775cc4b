-- One round on the rows.
use Prim.Native.Nat.{ℕ, ◌+◌, ◌-◌, ◌*◌, ◌≤◌, ◌<◌}
use mathlib.Core.Path.{◌≡◌, sym, ap, ◌∙◌}
use mathlib.Core.Bool.{true, false}
use mathlib.Core.List.{List}
use native.Mathlib.Nat.{suc-mul, mul-le-mul_right}
use native.Mathlib.Omega.{arith}
use lib.Dec.{ltb}
use lib.ListN.{length, get_or, take, drop}
use lib.Seq.{length-take-le}
use borrow.Author.Tests.{lt-ltb, le-ltb}
use Rattle.std.specs.Prelude.{Some, None}
use Rattle.folds.specs.Fold.{put, part}
use Rattle.folds.proofs.Sums.{count_to_le}
use Rattle.folds.proofs.Slices.{length_part, take-over}
use Rattle.graph.specs.Graph.{Graph, vertices, seen, RowOf}
use Rattle.graph.specs.Rows.{clusters, rows_in}
use Rattle.graph.proofs.Edges.{row_inside}
use Rattle.contraction.specs.Rules.{Keeps}
use Rattle.contraction.specs.Next.{mate_of, joined_row, next_row_of, lowest_of, leads}
use Rattle.contraction.specs.Promises.{mate_in, Mated, Short, Joined, Renamed}
use Rattle.contraction.proofs.Mates.{mate_back, keeps_disjoint}
use Rattle.contraction.proofs.Next.{length_next, next_clusters}
use Rattle.contraction.proofs.Arrays.{mates_mated, joined_mates}
use Rattle.matching.specs.Choice.{round_of}
use Rattle.matching.specs.Promises.{RoundReady, Matched}
use Rattle.matching.proofs.Choices.{round_keeps}
use Rattle.hierarchy.specs.Rounds.{large, poor, kept}
use Rattle.hierarchy.specs.Promises.{JoinedRow}

-- a round's mates, and the row they give
module _ {G : Graph} {row : List ℕ} {g : ℕ} (bound : ℕ) (R : RoundReady G row g) where
  row_own : RowOf G row (clusters row)
  row_own = rw R.count at R.row_of

  keeps : Keeps (seen G row) (clusters row) (round_of G bound row)
  keeps = round_keeps G bound row R.proper.formed row_own

  small : clusters row ≤ 512
  small = rw R.count at R.small

  pub tried_mated : {mates : List ℕ} {r : ℕ} → Matched G bound row mates r → Mated mates
  tried_mated M = rw M.mates_are (mates_mated (row_inside R.proper.formed row_own) small keeps)

  pub ready_short : Short row
  ready_short = record { few = omega (arith, R.row_of.whole, R.proper.few); low = λ v l. omega (arith, R.row_of.below v (omega (arith, R.row_of.whole)), R.small) }

  -- the row that joining the mates leaves is the next row
  pub tried_joined : {mates out out' : List ℕ} {r c : ℕ} → Matched G bound row mates r → Joined row (mate_in mates) out out' c → Joined row (mate_of (round_of G bound row)) out out' c
  tried_joined M J = joined_mates (row_inside R.proper.formed row_own) small keeps (rw M.mates_are at J)

  -- the new numbers are those of the next row
  pub tried_renamed : {mates out out' map : List ℕ} {r c : ℕ} → Matched G bound row mates r → Joined row (mate_in mates) out out' c → Renamed row (joined_row row (mate_in mates)) map
      → Renamed row (next_row_of row (round_of G bound row)) map
  tried_renamed {mates} {out} {out'} {map} M J N =
      let m = round_of G bound row in
      let e : joined_row row (mate_in mates) ≡ next_row_of row m =
      sym (take-over (joined_row row (mate_in mates)) out (length row) (length_next row (mate_in mates)))
      ∙ ap (take (length row)) (sym J.row_is ∙ (tried_joined M J).row_is)
      ∙ take-over (next_row_of row m) out (length row) (length_next row (mate_of m)) in
      record { tall = N.tall; is = λ v l. N.is v l ∙ ap (λ (l : List ℕ). get_or l v 0) e }

  pub next_few : clusters (next_row_of row (round_of G bound row)) ≤ length row
  next_few = rw (next_clusters row (mate_of (round_of G bound row)) (mate_back (round_of G bound row) (keeps_disjoint keeps))) (count_to_le (length row) (leads (lowest_of row (mate_of (round_of G bound row)))))

pub length_taken : (l : List ℕ) (a n : ℕ) → a + n ≤ length l → length (take n (drop a l)) ≡ n
unfolding part
length_taken l a n h = length_part l a n h

pub taken_all : (l out : List ℕ) → length l ≤ 512 → length out ≡ 512 → length (take (length l) out) ≡ length l
taken_all l out h e = length-take-le (length l) out (omega arith)

-- places of the rows
pub rows_in_lem : (r n m : ℕ) → r < 8 → 9 * n ≤ m → r * n + n + n ≤ m
rows_in_lem r n m l h = omega (arith, suc-mul r n, mul-le-mul_right n l)

module _ (G : Graph) (k bound r g : ℕ) (rows : List ℕ) (R : RoundReady G (rows_in rows (vertices G) r) g) where
  abbrev n : ℕ
  n = vertices G

  abbrev row : List ℕ
  row = rows_in rows (vertices G) r

  pub joined_small : g ≤ 2 * k → JoinedRow G k bound r rows rows None
  unfolding kept large
  joined_small l =
      let t : ltb (2 * k) (clusters row) ≡ false = le-ltb (2 * k) (clusters row) (omega (arith, R.count)) in
      record { rows_are = rw t; answer_is = rw t }

  -- the row that the code hands on
  pub row_handed : take (r * n + n - r * n) (drop (r * n) rows) ≡ row
  unfolding part
  row_handed = let e : r * n + n - r * n ≡ n = omega arith in rw e

  module _ (lr : r < 8) (room : 9 * n ≤ length rows) (l : 2 * k < g) {mates : List ℕ} {pairs : ℕ} (M : Matched G bound row mates pairs) where
    abbrev next : List ℕ
    next = next_row_of row (round_of G bound row)

    is_large : large k row ≡ true
    unfolding large
    is_large = lt-ltb (2 * k) (clusters row) (omega (arith, R.count))

    pub joined_poor : 10 * pairs < g → JoinedRow G k bound r rows rows None
    unfolding kept poor
    joined_poor h =
        let t : ltb (10 * length (round_of G bound row)) (clusters row) ≡ true = lt-ltb (10 * length (round_of G bound row)) (clusters row) (omega (arith, R.count, M.counts)) in
        record { rows_are = rw (is_large, t); answer_is = rw (is_large, t) }

    length_row : length next ≡ n
    length_row = length_next row (mate_of (round_of G bound row)) ∙ R.row_of.whole

    module _ {out₀ out : List ℕ} {left : ℕ} (J₀ : Joined (take (r * n + n - r * n) (drop (r * n) rows)) (mate_in mates) out₀ out left) where
      J : Joined row (mate_of (round_of G bound row)) out₀ out left
      J = tried_joined bound R M (rw row_handed at J₀)

      pub joined_kept : g ≤ 10 * pairs → {rows' : List ℕ} → rows' ≡ put rows (r * n + n) (take n out) → JoinedRow G k bound r rows rows' (Some left)
      unfolding kept poor
      joined_kept h eq =
          let t : ltb (10 * length (round_of G bound row)) (clusters row) ≡ false = le-ltb (10 * length (round_of G bound row)) (clusters row) (omega (arith, R.count, M.counts)) in
          let q : take n out ≡ next = ap (take n) J.row_is ∙ take-over next out₀ n length_row in
          record {
            rows_are = eq ∙ ap (put rows (r * n + n)) q ∙ rw (is_large, t);
            answer_is = ap Some J.count_is ∙ rw (is_large, t);
          }
