use mathlib.Core.Path.{◌≡◌, refl, sym, ◌∙◌}
use native.Mathlib.Omega.{arith}
use lib.ListN.{length}
use borrow.Author.Tests.{lt-ltb, le-ltb}
use Rattle.folds.specs.Fold.{zeros}
use Rattle.folds.proofs.Lists.{get_d_zeros, length-zeros}
use Rattle.folds.proofs.Searches.{first_to_zero, first_to_more, first_to_at, first_to_end}
use Rattle.validity.specs.Repeat.{tried}
use Rattle.cycle_test.proofs.Thins.{marked_none, marked_next}
use Rattle.validity.proofs.Repeats.{bits_none, tries_next}
use Rattle.validity.proofs.first_repeat.Goals as goal

pub loop-j-init : goal.loop-j-init
unfolding tried zeros
loop-j-init g c = record { same = length-zeros _; bits = bits_none _ _ _ _ (get_d_zeros _); none = first_to_zero _; marked = λ _. marked_none _ (omega arith) }

pub note-requires : goal.note-requires
unfolding tried
note-requires g c = (c.loop-j-test.true, c.requires.words_room.start_low _ (tries_next _ _ _ c.loop-j.invariant.none c.loop-j-test.true))

pub try_edge-requires : goal.try_edge-requires
unfolding tried
try_edge-requires g c = record {
  next = tries_next _ _ _ c.loop-j.invariant.none c.loop-j-test.true;
  room = rw c.loop-j.invariant.same c.requires.words_room;
  bits = c.loop-j.invariant.bits;
}

pub returns-then-try_edge : goal.returns-then-try_edge
unfolding tried
returns-then-try_edge g c =
    let low = c.requires.words_room.start_low _ (tries_next _ _ _ c.loop-j.invariant.none c.loop-j-test.true) in
    let hit = sym c.try_edge.ensures.value ∙ c.if-try_edge.true in
    let e = first_to_at _ _ _ c.loop-j.invariant.none hit c.loop-j-test.true in
    record {
      found = record { place_is = e; count_is = rw (← e, lt-ltb _ _ c.loop-j-test.true) refl };
      marked = λ w. rw (c.note.ensures w) (marked_next _ refl low (c.loop-j.invariant.marked w));
    }

pub loop-j-preserved : goal.loop-j-preserved
unfolding tried
loop-j-preserved g c =
    let low = c.requires.words_room.start_low _ (tries_next _ _ _ c.loop-j.invariant.none c.loop-j-test.true) in
    record {
      same = c.try_edge.ensures.tried.same ∙ c.loop-j.invariant.same;
      bits = c.try_edge.ensures.tried.bits;
      none = first_to_more _ _ c.loop-j.invariant.none (sym c.try_edge.ensures.value ∙ c.if-try_edge.false);
      marked = λ w. rw (c.note.ensures w) (marked_next _ refl low (c.loop-j.invariant.marked w));
    }

pub returns : goal.returns
unfolding tried
returns g c =
    let end = c.loop-j.auto.j-end in
    let e = first_to_end _ _ _ c.loop-j.invariant.none end c.loop-j-test.false in
    record {
      found = record { place_is = omega (arith, e); count_is = rw (← e, le-ltb _ _ c.loop-j-test.false) (omega arith) };
      marked = λ w. let q : c.loop-j.j ≡ length c.args.starts.now = omega arith in rw q at (c.loop-j.invariant.marked w);
    }
