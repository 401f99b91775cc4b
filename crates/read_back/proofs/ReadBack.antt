-- What the split prints is read back: nothing is asked of the graph but that it was split, and of its widths but 16 bits, as every list that a call borrows has.
use Prim.Native.Nat.{ℕ, ◌*◌, ◌≤◌, ◌<◌}
use mathlib.Core.Path.{◌≡◌, refl, sym, ap, ◌∙◌}
use mathlib.Core.Bool.{Bool, true, false, not}
use mathlib.Core.List.{List, [], ◌∷◌}
use native.Mathlib.Omega.{arith}
use lib.Dec.{eqb, ltb}
use lib.ListN.{length, get_or, take}
use borrow.Author.Tests.{le-ltb, le-leb, ltb-true, ltb-false}
use Rattle.folds.specs.Fold.{when, over}
use Rattle.folds.proofs.Cases.{by}
use Rattle.folds.proofs.Lists.{get_d_past}
use Rattle.folds.proofs.Slices.{take-over}
use Rattle.folds.proofs.Sums.{sum_to_le}
use Rattle.graph.specs.Graph.{Graph, vertices, edges, seen, crossing, cut, cut_of}
use Rattle.validity.specs.Cause.{Answer, told, Passed}
use Rattle.validity.proofs.Passed.{valid_sound}
use Rattle.hierarchy.proofs.Own.{kept_few}
use Rattle.validity.specs.Check.{most_vertices}
use Rattle.partition.specs.Split.{split_of, table_after}
use Rattle.partition.proofs.Claims.{split_answered, split_least, split_few_moves, split_good}
use Rattle.line_forms.specs.Form.{fits}
use Rattle.line_forms.specs.Stand.{Low}
use Rattle.answer_text.specs.Forms.{split_form}
use Rattle.answer_text.specs.Answers.{split_text}
use Rattle.answer_text.specs.Tables.{saved_in, table_answer, table_written, Savable}
use Rattle.answer_text.proofs.Claims.{saved_own, table_long}

-- the cut of a table, over 16-bit widths
when_low : (b : Bool) (w : ℕ) → w < 65536 → when b w ≤ 65535
when_low true w h = omega arith
when_low false w h = omega arith

crossing_low : (G : Graph) (parts : List ℕ) → ((j : ℕ) → get_or G.widths j 0 < 65536) → (j : ℕ) → crossing (seen G parts) G.widths j ≤ 65535
unfolding crossing
crossing_low G parts narrow j = when_low (not (eqb ((seen G parts).from j) ((seen G parts).to j))) (get_or G.widths j 0) (narrow j)

cut_low : (G : Graph) (parts : List ℕ) → ((j : ℕ) → get_or G.widths j 0 < 65536) → cut_of G parts ≤ edges G * 65535
unfolding cut
cut_low G parts narrow = sum_to_le (edges G) 65535 (crossing (seen G parts) G.widths) (crossing_low G parts narrow)

-- four figures that fit the split line
figures_fit : (c r g m : ℕ) → c ≤ 99999999 → r ≤ 99999999 → g ≤ 99999999 → m ≤ 99999999 → fits split_form.fields (c ∷ r ∷ g ∷ m ∷ []) ≡ true
unfolding fits
figures_fit c r g m hc hr hg hm = rw (le-leb _ _ hc, le-leb _ _ hr, le-leb _ _ hg, le-leb _ _ hm)

-- entries below 16 have 16 bits
entries_low : (parts : List ℕ) (n k : ℕ) → length parts ≡ n → k ≤ 16 → ((v : ℕ) → v < n → get_or parts v 0 < k) → Low parts
entries_low parts n k l few below i = by (ltb i n) (λ e. omega (arith, below i (ltb-true i n e))) (λ e. omega (arith, get_d_past parts i (rw l (ltb-false i n e))))

module _ (G : Graph) (k bound : ℕ) (table ladder : List ℕ) (narrow : (j : ℕ) → get_or G.widths j 0 < 65536) where
  -- the table that the split left, as it is printed
  abbrev printed_parts : List ℕ
  printed_parts = take (vertices G) (table_after most_vertices G k bound table ladder)

  record Printed (values : List ℕ) : Type 0 where
    whole : length printed_parts ≡ vertices G
    can : Savable values printed_parts

  -- after an answer that is no refusal it is whole and of the form
  printed : (values : List ℕ) → split_of most_vertices G k bound table ladder ≡ told Passed values → Printed values
  printed values e =
      let (valid, (rung, first, tally, A)) = split_answered most_vertices (omega arith) G k bound table ladder (ap (λ (a : Answer). a.number) e) in
      let S = valid_sound G k bound valid in
      let good = split_good G k bound valid A.result in
      let few = kept_few G k bound S.proper.formed S.acyclic in
      let kept = (split_least G k bound valid A.result).kept in
      let edged = S.proper.many in
      let last = cut_low G tally.parts narrow in
      let start = cut_low G first narrow in
      let moved = split_few_moves G k bound valid A.result in
      let parts : printed_parts ≡ tally.parts = rw A.table_is (take-over tally.parts table (vertices G) good.table.whole) in
      record {
        whole = rw parts good.table.whole;
        can = rw parts (record {
          figures = rw (ap (λ (a : Answer). a.values) (sym e ∙ A.answer)) (figures_fit _ _ _ _ (omega arith) (omega arith) (omega arith) (omega arith));
          few = omega (arith, good.table.whole, S.proper.few);
          low = entries_low tally.parts (vertices G) k good.table.whole S.few good.table.below;
        });
      }

  -- THE SPLIT'S LINES ARE READ BACK: from what is printed of an answer that is no refusal, with a list that is long enough, come its figures and its table
  pub split_read_back : (c r g m : ℕ) → split_of most_vertices G k bound table ladder ≡ told Passed (c ∷ r ∷ g ∷ m ∷ []) → (old : List ℕ) → vertices G ≤ length old
      → (table_answer (saved_in (split_text c r g m printed_parts)) (length old) ≡ told Passed (c ∷ r ∷ g ∷ m ∷ vertices G ∷ []))
      × (table_written (saved_in (split_text c r g m printed_parts)) old ≡ over printed_parts old)
  unfolding table_answer table_written
  split_read_back c r g m e old room =
      let P = printed (c ∷ r ∷ g ∷ m ∷ []) e in
      let own = saved_own (c ∷ r ∷ g ∷ m ∷ []) printed_parts P.can in
      let h : length printed_parts ≤ length old = omega (arith, P.whole) in
      rw (own, le-ltb _ _ h, P.whole) (refl, refl)

  -- and its buffer of 16,384 bytes is always long enough
  pub split_fits : (c r g m : ℕ) → split_of most_vertices G k bound table ladder ≡ told Passed (c ∷ r ∷ g ∷ m ∷ []) → length (split_text c r g m printed_parts) ≤ 16384
  split_fits c r g m e = omega (arith, table_long (c ∷ r ∷ g ∷ m ∷ []) printed_parts (printed (c ∷ r ∷ g ∷ m ∷ []) e).can)
