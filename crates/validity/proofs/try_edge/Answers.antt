-- The edge has its word and its bit, since it is one of those that are tried; the bit is set already exactly if the edge repeats an earlier one.
use native.Mathlib.Omega.{arith}
use lib.ListN.{length-set}
use Rattle.validity.proofs.Repeats.{next_there, bits_turn, bit_repeats, word_in, word_is, bit_is}
use Rattle.validity.proofs.try_edge.Goals as goal

pub bounds-ends-j : goal.bounds-ends-j
bounds-ends-j c = omega (arith, c.requires.next, c.requires.room.ended)

pub bounds-starts-j : goal.bounds-starts-j
bounds-starts-j c = next_there c.requires

pub overflow_mul-w : goal.overflow_mul-w
overflow_mul-w c = omega (arith, word_in _ _ _ _ c.from.ensures c.from-b.ensures c.requires.room c.requires.next)

pub overflow_add-w : goal.overflow_add-w
overflow_add-w c = omega (arith, word_in _ _ _ _ c.from.ensures c.from-b.ensures c.requires.room c.requires.next)

pub offset_bounds-seen-w : goal.offset_bounds-seen-w
offset_bounds-seen-w c = omega (arith, word_in _ _ _ _ c.from.ensures c.from-b.ensures c.requires.room c.requires.next)

pub bounds-seen-w : goal.bounds-seen-w
bounds-seen-w c = omega (arith, word_in _ _ _ _ c.from.ensures c.from-b.ensures c.requires.room c.requires.next)

pub offset_bounds-seen-w-2 : goal.offset_bounds-seen-w-2
offset_bounds-seen-w-2 c = omega (arith, word_in _ _ _ _ c.from.ensures c.from-b.ensures c.requires.room c.requires.next)

pub bounds-seen-w-2 : goal.bounds-seen-w-2
bounds-seen-w-2 c = omega (arith, word_in _ _ _ _ c.from.ensures c.from-b.ensures c.requires.room c.requires.next)

pub returns : goal.returns
returns c = let N = c.requires in
    let at = word_is _ _ _ _ c.from.ensures c.from-b.ensures in
    let bit = bit_is c.args.ends.now c.args.j c.from-b.ensures c.bit.ensures in
    record {
      value = bit_repeats _ _ _ N.bits at bit N.room N.next;
      tried = record { same = simp length-set; bits = bits_turn _ _ _ N.bits at bit (word_in _ _ _ _ c.from.ensures c.from-b.ensures N.room N.next) };
    }
