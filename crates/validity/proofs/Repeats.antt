-- The bits of the edges passed: an edge repeats an earlier one exactly where its bit is set already.
use Prim.Native.Nat.{ℕ, ◌+◌, ◌*◌, ◌/◌, ◌%◌, ◌^◌, ◌≤◌, ◌<◌}
use mathlib.Core.Path.{◌≡◌, refl, sym, ap, ◌∙◌}
use mathlib.Core.Bool.{Bool, true, false, ◌&&◌, or-false}
use mathlib.Core.List.{List}
use native.Mathlib.Nat.{div-add-mod', div-lt_iff_lt-mul, mod-lt, suc-mul, mul-le-mul_right}
use native.Mathlib.Omega.{arith}
use lib.Arith.{digits_div, digits_mod}
use lib.Bits.{bit_or}
use lib.Dec.{eqb, ltb}
use lib.ListN.{length, get_or, set}
use lib.Seq.{get_or-set_same, get_or-set_other}
use borrow.Author.Tests.{eqb-true, eq-eqb, ne_eqb, ltb-true, ltb-false, lt-ltb, le-ltb}
use Rattle.folds.specs.Fold.{first_to, any_to}
use Rattle.folds.proofs.Cases.{by, no_bool, either, eq_or_ne, both, both_i, and_false, same_test}
use Rattle.folds.proofs.Searches.{first_to_none, first_to_hit, any_i, any_ext, any_step, any_zero}
use Rattle.graph.specs.Graph.{Graph, vertices, edges, identity, arcs}
use Rattle.topology.specs.Reach.{lowest_on_cycle}
use Rattle.pool.specs.Pool.{word}
use Rattle.pool.proofs.Words.{word_ext, word_none, word_bit, word_or}
use Rattle.validity.specs.Check.{refuse_at, repeats, cycles_from, repeats_from, lists_from, checked}
use Rattle.validity.specs.Promises.{Fits}
use Rattle.validity.specs.Repeat.{first_repeat, tried, tried_of, Found}
use Rattle.validity.specs.Drawn.{tried_by, checked_with}
use Rattle.validity.specs.declared.Checked.{Checked}
use Rattle.validity.specs.declared.Cause.{Cause}
use Rattle.validity.specs.declared.Cause.TheVariants.{Repeat}
use Rattle.validity.proofs.Checks.{lists_early}
use Rattle.validity.specs.Words.{WordsRoom, word_of, is_bit, BitsSet, Trying}
use Rattle.validity.specs.Cause.{Verdict, Passed, Refused}

-- a search that found none so far goes on to an edge that it tries
pub tries_next : (m j : ℕ) (p : ℕ → Bool) → first_to j p ≡ j → j < m → j < tried (first_to m p) m
unfolding tried
tries_next m j p e l =
    by (ltb (first_to m p) m)
    (λ t.
    let h = ltb-true (first_to m p) m t in
    rw t (by (ltb (first_to m p) j) (λ u. absurd (no_bool (sym (first_to_none j p e (first_to m p) (ltb-true _ _ u)) ∙ first_to_hit m p h))) (λ u. omega (arith, ltb-false (first_to m p) j u)))) (λ f. rw f (omega arith))

tried_le : (place m : ℕ) → tried place m ≤ m
unfolding tried
tried_le place m = by (ltb place m) (λ t. rw t (omega (arith, ltb-true place m t))) (λ f. rw f (omega arith))

-- only edges that are there are tried
tried_there : (starts ends : List ℕ) {j : ℕ} → j < tried_of starts ends → j < length starts
tried_there starts ends h = omega (arith, tried_le (first_repeat starts ends) (length starts))

pub next_there : {starts ends words : List ℕ} {stride j : ℕ} → Trying starts ends stride j words → j < length starts
next_there {starts = starts} {ends = ends} N = tried_there starts ends N.next

-- what a verdict of checks 7 and 8 tells is what the search tried
pub tried_found : (n : ℕ) (starts ends : List ℕ) → tried_by (repeats_from n starts ends) (length starts) ≡ tried_of starts ends
unfolding tried_by tried repeats_from cycles_from refuse_at
tried_found n starts ends =
    by (ltb (first_repeat starts ends) (length starts)) (λ t. rw t refl)
    (λ f. rw f (by (ltb (lowest_on_cycle (arcs (identity n) starts ends) n) n) (λ t. rw t refl) (λ g. rw g refl)))

-- all checks, from 1 to 6: refused there no edge was tried, passed there the rest decides
module _ (most : ℕ) (G : Graph) (k bound : ℕ) (room : Bool) where
  pub lists_refused : {cause : Cause} {place : ℕ} → lists_from most G k bound room Passed ≡ Refused cause place
      → record { verdict = Refused cause place; tried = 0 } ≡ checked_with (checked most G k bound room) (edges G)
  unfolding checked
  lists_refused {cause} {place} h =
      let (q, z) = (lists_early most G k bound room).refuses h (repeats_from (vertices G) G.starts G.ends) (edges G) in rw q (ap (λ (x : ℕ). record { verdict = Refused cause place; tried = x }) (sym z))

  pub lists_passed : {x : Checked} → lists_from most G k bound room Passed ≡ Passed → (x.verdict ≡ repeats_from (vertices G) G.starts G.ends) × (x.tried ≡ tried_of G.starts G.ends)
      → x ≡ checked_with (checked most G k bound room) (edges G)
  unfolding checked
  lists_passed h (v, c) =
      rw ((lists_early most G k bound room).passes h (repeats_from (vertices G) G.starts G.ends), tried_found (vertices G) G.starts G.ends, ← v, ← c) refl

high_bits : {s x : ℕ} → x < s * 64 → x / 64 < s
high_bits l = (div-lt_iff_lt-mul {k = 64} (omega arith)).1 l

-- word and bit tell the start and the end
same_place : (s a x b y : ℕ) → x < s * 64 → y < s * 64 → a * s + x / 64 ≡ b * s + y / 64 → x % 64 ≡ y % 64 → (a ≡ b) × (x ≡ y)
same_place s a x b y lx ly e h =
    let q : x / 64 ≡ y / 64 = sym (digits_mod a (high_bits lx)) ∙ ap (λ (z : ℕ). z % s) e ∙ digits_mod b (high_bits ly) in
    (sym (digits_div a (high_bits lx)) ∙ ap (λ (z : ℕ). z / s) e ∙ digits_div b (high_bits ly), sym (div-add-mod' x 64) ∙ (rw (q, h) (div-add-mod' y 64)))

same_tests : (s a x b y : ℕ) → x < s * 64 → y < s * 64 → (eqb (a * s + x / 64) (b * s + y / 64) && eqb (x % 64) (y % 64)) ≡ (eqb a b && eqb x y)
same_tests s a x b y lx ly =
    same_test _ _
    (λ t. let (p, q) = both (eqb (a * s + x / 64) (b * s + y / 64)) _ t in
    let (e, h) = same_place s a x b y lx ly (eqb-true _ _ p) (eqb-true _ _ q) in both_i (eqb a b) _ (eq-eqb a b e) (eq-eqb x y h))
    (λ t. let (p, q) = both (eqb a b) _ t in
    rw (eqb-true a b p, eqb-true x y q, eq-eqb (b * s + y / 64) (b * s + y / 64) refl) (eq-eqb (y % 64) (y % 64) refl))

module _ (starts ends : List ℕ) (stride : ℕ) where
  own_bit : (j : ℕ) → is_bit starts ends stride (word_of starts ends stride j) (get_or ends j 0 % 64) j ≡ true
  unfolding is_bit
  own_bit j = both_i _ _ (eq-eqb (word_of starts ends stride j) _ refl) (eq-eqb (get_or ends j 0 % 64) _ refl)

  other_word : (j w i : ℕ) → (w ≡ word_of starts ends stride j → ⊥) → is_bit starts ends stride w i j ≡ false
  unfolding is_bit
  other_word j w i n = rw (ne_eqb (word_of starts ends stride j) w (λ e. n (sym e)))

  other_bit : (j w i : ℕ) → (i ≡ get_or ends j 0 % 64 → ⊥) → is_bit starts ends stride w i j ≡ false
  unfolding is_bit
  other_bit j w i n = rw (ne_eqb (get_or ends j 0 % 64) i (λ e. n (sym e))) (and_false (eqb (word_of starts ends stride j) w))

  any_more : (j w i : ℕ) → is_bit starts ends stride w i j ≡ false → any_to (j + 1) (is_bit starts ends stride w i) ≡ any_to j (is_bit starts ends stride w i)
  any_more j w i n = any_step j _ ∙ rw n (or-false _)

  pub bits_none : (words : List ℕ) → ((w : ℕ) → get_or words w 0 ≡ 0) → BitsSet starts ends stride 0 words
  bits_none words z = record { is = λ w. z w ∙ sym (word_none 64 _ (λ i _. any_zero _)) }

  -- edge j, in the word w with the bit of x
  module _ {words : List ℕ} {j w x : ℕ} (S : BitsSet starts ends stride j words) (at : w ≡ word_of starts ends stride j) (bit : x ≡ 2 ^ (get_or ends j 0 % 64)) where
    low : get_or ends j 0 % 64 < 64
    low = mod-lt (get_or ends j 0) (omega arith)

    own : any_to (j + 1) (is_bit starts ends stride w (get_or ends j 0 % 64)) ≡ true
    own = any_i (j + 1) _ j (omega arith) (rw at (own_bit j))

    set_bit : bit_or (get_or words w 0) x ≡ word 64 (λ i. any_to (j + 1) (is_bit starts ends stride w i))
    set_bit = rw (bit, S.is w) (word_or 64 (get_or ends j 0 % 64) _ _ low own (λ i _ n. any_more j w i (other_bit j w i n)))

    pub bits_turn : w < length words → BitsSet starts ends stride (j + 1) (set words w (bit_or (get_or words w 0) x))
    bits_turn l =
        record {
          is = λ v. either (eq_or_ne v w)
              (λ e. rw e (get_or-set_same words w _ 0 l ∙ set_bit))
              (λ n. get_or-set_other words w v _ 0 n ∙ S.is v ∙ word_ext 64 _ _ (λ i _. sym (any_more j v i (other_word j v i (λ e. n (e ∙ sym at))))));
        }

    module _ {rooms : ℕ} (R : WordsRoom starts ends stride rooms) (l : j < tried_of starts ends) where
      was_set : any_to j (is_bit starts ends stride w (get_or ends j 0 % 64)) ≡ repeats starts ends j
      unfolding repeats is_bit word_of
      was_set = any_ext j _ _ (λ i h. rw at (same_tests stride _ _ _ _ (R.end_in i (omega arith)) (R.end_in j l)))

      -- its bit is set already exactly if it repeats an earlier one
      pub bit_repeats : eqb (get_or words w 0) (bit_or (get_or words w 0) x) ≡ repeats starts ends j
      bit_repeats =
          same_test _ _
          (λ t. sym was_set ∙ word_bit 64 _ _ (sym (S.is w) ∙ eqb-true _ _ t ∙ set_bit) (get_or ends j 0 % 64) low ∙ own)
          (λ t. eq-eqb _ _ (S.is w ∙ sym (word_or 64 (get_or ends j 0 % 64) _ _ low (was_set ∙ t) (λ _ _ _. refl)) ∙ rw (bit, S.is w)))

-- what was read of edge j, and its word and bit
module _ (starts ends : List ℕ) (j : ℕ) {a b : ℕ} (stride : ℕ) (from : a ≡ get_or starts j 0) (to : b ≡ get_or ends j 0) where
  pub word_is : a * stride + b / 64 ≡ word_of starts ends stride j
  unfolding word_of
  word_is = rw (from, to)

  pub word_in : {words : ℕ} → WordsRoom starts ends stride words → j < tried_of starts ends → a * stride + b / 64 < words
  word_in R l = rw (from, to) (omega (arith, R.start_in j l, high_bits (R.end_in j l)))

pub bit_is : (ends : List ℕ) (j : ℕ) {b x : ℕ} → b ≡ get_or ends j 0 → x ≡ 2 ^ (b % 64) → x ≡ 2 ^ (get_or ends j 0 % 64)
bit_is ends j to e = rw to at e

-- as many words for each vertex as have a bit for each
pub fits_roomy : {n : ℕ} {starts ends : List ℕ} (stride : ℕ) → Fits n starts ends → n ≤ stride * 64 → WordsRoom starts ends stride (stride * 64 * stride)
fits_roomy {starts = starts} {ends = ends} stride F l =
    record {
      ended = omega (arith, F.same, tried_le (first_repeat starts ends) (length starts));
      start_low = λ j h. omega (arith, F.few, F.start_in j (tried_there starts ends h));
      start_in = λ j h. rw (← suc-mul (get_or starts j 0) stride) (mul-le-mul_right stride (omega (arith, F.start_in j (tried_there starts ends h))));
      end_in = λ j h. omega (arith, F.end_in j (tried_there starts ends h));
    }

-- what the search answered: where it found none, all edges were tried, and check 8 decides
module _ {starts ends : List ℕ} {place t : ℕ} (F : Found starts ends place t) where
  pub tried_all : length starts ≤ place → t ≡ length starts
  unfolding tried
  tried_all l = F.count_is ∙ rw (← F.place_is, le-ltb _ _ l) refl

  pub repeat_refused : {x : Checked} (n : ℕ) → place < length starts → (x.verdict ≡ Refused Repeat place) × (x.tried ≡ t) → (x.verdict ≡ repeats_from n starts ends) × (x.tried ≡ tried_of starts ends)
  unfolding repeats_from refuse_at
  repeat_refused n l (v, c) = (rw (← F.place_is, lt-ltb _ _ l) v, c ∙ F.count_is)

  pub repeat_passed : {r : Verdict} (n : ℕ) → length starts ≤ place → r ≡ cycles_from n starts ends → (r ≡ repeats_from n starts ends) × (t ≡ tried_of starts ends)
  unfolding repeats_from refuse_at
  repeat_passed n l h = (rw (← F.place_is, le-ltb _ _ l) h, F.count_is)
