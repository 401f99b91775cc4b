-- The reader and the writer of a line, a field a turn: what is done, and what the fields from k on still ask for.
use Rattle.std.proofs.Common.{arith, ℕ, ◌+◌, ◌≤◌, ◌<◌, ◌≡◌, refl, sym, ap, ◌∙◌, Bool, true, false, List, [], ◌∷◌, ◌++◌, length, get_or, take, drop, set, None, Some, map, replicate}
use Rattle.std.proofs.lemmas.List.{drop-map, take_more_set, append-nil, take_all}
use lib.ListN.{length-set, length-replicate, drop_of_length-le}
use lib.Seq.{append_snoc}
use Rattle.folds.proofs.Lists.{left_cons}
use Rattle.decimal.specs.Read.{Number, Is, starts_of, field_of}
use Rattle.folds.proofs.Parts.{put_none}
use Rattle.decimal.specs.Decimal.{decimal}
use Rattle.decimal.specs.Write.{Puts}
use Rattle.decimal.proofs.Writing.{puts_then, room_then, room_first}
use Rattle.std.proofs.Common.{append_assoc}
use Rattle.line_forms.specs.Form.{Field, field, printed_fields, needs_fields}
use Rattle.line_forms.specs.Read.{Got, got, nope, after, read_fields}
use Rattle.line_forms.specs.Lent.{field_in, fields_in}
use Rattle.decimal.specs.declared.Field as lent

-- numbers before those of a line that was read
abbrev pub joined : List ℕ → Got → Got
joined us (Some (vs, j)) = Some (us ++ vs, j)
joined us None = None

joined_none : (g : Got) → joined [] g ≡ g
joined_none (Some (vs, j)) = refl
joined_none None = refl

joined_after : (us : List ℕ) (v : ℕ) (g : Got) → joined us (after v g) ≡ joined (us ++ (v ∷ [])) g
joined_after us v (Some (vs, j)) = ap (λ (s : List ℕ). got s j) (sym (append_snoc us v vs))
joined_after us v None = refl

-- k fields from place `from` of t on have been read, their numbers stand in ns, and the reading stands at i
pub record Got_to (fs : List Field) (end t : List ℕ) (from n i k : ℕ) (ns : List ℕ) : Type 0 where
  pub whole : length ns ≡ n
  pub tie : read_fields fs end t from ≡ joined (take k ns) (read_fields (drop k fs) end t i)

fields_left : (ls : List lent.Field) (k : ℕ) (f : lent.Field) → k < length ls → f ≡ get_or ls k f → drop k (fields_in ls) ≡ field_in f ∷ drop (k + 1) (fields_in ls)
fields_left ls k f h e =
    drop-map field_in k ls ∙ (ap (map field_in) (left_cons ls k f h) ∙ rw (← e) (ap (λ (fs : List Field). field_in f ∷ fs) (sym (drop-map field_in (k + 1) ls))))

fields_out : (ls : List lent.Field) (k : ℕ) → length ls ≤ k → drop k (fields_in ls) ≡ []
fields_out ls k h = drop-map field_in k ls ∙ rw (drop_of_length-le ls h)

pub got_start : (fs : List Field) (end t : List ℕ) (from n : ℕ) → Got_to fs end t from n from 0 (replicate n 0)
got_start fs end t from n = record { whole = length-replicate n 0; tie = sym (joined_none _) }

module _ (ls : List lent.Field) (end t : List ℕ) (from n i k : ℕ) (ns : List ℕ) (g : Got_to (fields_in ls) end t from n i k ns) where
  module _ (f : lent.Field) (h : k < length ls) (e : f ≡ get_or ls k f) where
    pub got_stop : None ≡ field_of f.word.now f.most t i → nope ≡ read_fields (fields_in ls) end t from
    unfolding read_fields
    got_stop q = sym (g.tie ∙ rw (fields_left ls k f h e, ← q))

    pub got_turn : (v j : ℕ) → Some (v, j) ≡ field_of f.word.now f.most t i → k < n → Got_to (fields_in ls) end t from n j (k + 1) (set ns k v)
    unfolding read_fields
    got_turn v j q l =
        let m : k < length ns = omega (arith, g.whole) in
        record {
          whole = length-set ns k v ∙ g.whole;
          tie = g.tie ∙ (rw (fields_left ls k f h e, ← q, take_more_set ns k v m) (joined_after (take k ns) v (read_fields (drop (k + 1) (fields_in ls)) end t j)));
        }

  module _ (h : length ls ≤ k) (b : Bool) (e : b ≡ starts_of end (drop i t)) where
    pub got_open : b ≡ false → nope ≡ read_fields (fields_in ls) end t from
    unfolding read_fields
    got_open q = sym (g.tie ∙ rw (fields_out ls k h, ← e, q))

    pub got_all : n ≤ k → b ≡ true → got ns (i + length end) ≡ read_fields (fields_in ls) end t from
    unfolding read_fields
    got_all l q =
        let w : length ns ≤ k = omega (arith, g.whole) in
        sym (g.tie ∙ rw (fields_out ls k h, ← e, q, take_all k ns w, append-nil))

-- of the text `whole`, which is written into l₀ from a on, what stands before the fields fs with the numbers vs has been written; it now is l, and the writing stands at i
pub record Laid (whole end l₀ : List ℕ) (a : ℕ) (fs : List lent.Field) (vs l : List ℕ) (i : ℕ) : Type 0 where
  pub front : List ℕ
  pub done : Puts l₀ a front l i
  pub left : whole ≡ front ++ printed_fields (fields_in fs) end vs
  pub room : a + length whole ≤ length l₀

fields_next : (end : List ℕ) (fs fs' : List lent.Field) (vs vs' : List ℕ) (f : lent.Field) (v : ℕ) → fs ≡ f ∷ fs' → vs ≡ v ∷ vs' → printed_fields (fields_in fs) end vs ≡ f.word.now ++ (decimal v ++ printed_fields (fields_in fs') end vs')
unfolding printed_fields
fields_next end fs fs' vs vs' f v p q = rw (p, q)

-- where the shorter of the two lists ends
pub none_fields : (end : List ℕ) (fs : List lent.Field) (vs : List ℕ) → length fs ≡ 0 → printed_fields (fields_in fs) end vs ≡ end
unfolding printed_fields
none_fields end [] vs h = refl
none_fields end (f ∷ fs) vs h = absurd (omega arith)

pub none_numbers : (end : List ℕ) (fs : List lent.Field) (vs : List ℕ) → length vs ≡ 0 → printed_fields (fields_in fs) end vs ≡ end
unfolding printed_fields
none_numbers end [] vs h = refl
none_numbers end (f ∷ fs) [] h = refl
none_numbers end (f ∷ fs) (v ∷ vs) h = absurd (omega arith)

pub laid_start : (end l : List ℕ) (a : ℕ) (fs fs' : List lent.Field) (vs vs' : List ℕ) → fs' ≡ fs → vs' ≡ vs → a + length (printed_fields (fields_in fs) end vs) ≤ length l → Laid (printed_fields (fields_in fs) end vs) end l a fs' vs' l a
laid_start end l a fs fs' vs vs' p q h = record { front = []; done = record { next = omega arith; is = sym (put_none l a) }; left = rw (p, q); room = h }

module _ {whole end l₀ l : List ℕ} {a i : ℕ} where
  module _ (fs fs' : List lent.Field) (vs vs' : List ℕ) (f : lent.Field) (v : ℕ) (z : Laid whole end l₀ a fs vs l i) (p : fs ≡ f ∷ fs') (q : vs ≡ v ∷ vs') where
    abbrev pub word : List ℕ
    word = f.word.now ++ decimal v

    laid_next : whole ≡ (z.front ++ word) ++ printed_fields (fields_in fs') end vs'
    unfolding printed_fields
    laid_next =
        z.left
        ∙ (ap (λ (s : List ℕ). z.front ++ s) (fields_next end fs fs' vs vs' f v p q ∙ sym (append_assoc f.word.now (decimal v) (printed_fields (fields_in fs') end vs')))
        ∙ sym (append_assoc z.front word (printed_fields (fields_in fs') end vs')))

    laid_short : a + length (z.front ++ word) ≤ length l₀
    laid_short = room_first (z.front ++ word) (printed_fields (fields_in fs') end vs') a _ (rw laid_next at z.room)

    pub laid_room : i + length word ≤ length l
    laid_room = room_then word z.done laid_short

    pub laid_turn : {l' : List ℕ} {j : ℕ} → Puts l i word l' j → Laid whole end l₀ a fs' vs' l' j
    laid_turn w = record { front = z.front ++ word; done = puts_then z.done w laid_short; left = laid_next; room = z.room }

  module _ (fs : List lent.Field) (vs : List ℕ) (z : Laid whole end l₀ a fs vs l i) (e : printed_fields (fields_in fs) end vs ≡ end) where
    laid_last : whole ≡ z.front ++ end
    laid_last = z.left ∙ ap (λ (s : List ℕ). z.front ++ s) e

    pub laid_close : i + length end ≤ length l
    laid_close = room_then end z.done (rw laid_last at z.room)

    pub laid_end : {l' : List ℕ} {j : ℕ} → Puts l i end l' j → Puts l₀ a whole l' j
    laid_end w = rw laid_last (puts_then z.done w (rw laid_last at z.room))

-- a field's part of what a line needs
pub needs_next : (end : List ℕ) (fs fs' : List lent.Field) (vs vs' : List ℕ) (f : lent.Field) (v : ℕ) → fs ≡ f ∷ fs' → vs ≡ v ∷ vs' → needs_fields (fields_in fs) end vs ≡ length f.word.now + (length (decimal v) + needs_fields (fields_in fs') end vs')
unfolding needs_fields
needs_next end fs fs' vs vs' f v p q = rw (p, q)

pub needs_least : (fs : List lent.Field) (end vs : List ℕ) → length end ≤ needs_fields (fields_in fs) end vs
unfolding needs_fields
needs_least [] end vs = omega arith
needs_least (f ∷ fs) end [] = omega arith
needs_least (f ∷ fs) end (v ∷ vs) = omega (arith, needs_least fs end vs)

pub needs_no_fields : (end : List ℕ) (fs : List lent.Field) (vs : List ℕ) → length fs ≡ 0 → needs_fields (fields_in fs) end vs ≡ length end
unfolding needs_fields
needs_no_fields end [] vs h = refl
needs_no_fields end (f ∷ fs) vs h = absurd (omega arith)

pub needs_no_numbers : (end : List ℕ) (fs : List lent.Field) (vs : List ℕ) → length vs ≡ 0 → needs_fields (fields_in fs) end vs ≡ length end
unfolding needs_fields
needs_no_numbers end [] vs h = refl
needs_no_numbers end (f ∷ fs) [] h = refl
needs_no_numbers end (f ∷ fs) (v ∷ vs) h = absurd (omega arith)

-- the last field of a line, with what ends it
module _ (p : List ℕ) (most : ℕ) (fs : List Field) (end t : List ℕ) (i : ℕ) (x : Number) (e : x ≡ field_of p most t i) where
  module _ (v j : ℕ) (h : x ≡ Is v j) where
    pub field_end : (b : Bool) → fs ≡ [] → b ≡ starts_of end (drop j t) → b ≡ true → got (v ∷ []) (j + length end) ≡ read_fields (field p most ∷ fs) end t i
    unfolding read_fields
    field_end b z q w = rw (← e, h, z, ← q, w)

    pub field_open : (b : Bool) → fs ≡ [] → b ≡ starts_of end (drop j t) → b ≡ false → nope ≡ read_fields (field p most ∷ fs) end t i
    unfolding read_fields
    field_open b z q w = rw (← e, h, z, ← q, w)
