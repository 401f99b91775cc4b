use mathlib.Core.Path.{◌≡◌, ◌∙◌, refl}
use native.Mathlib.Omega.{arith}
use Rattle.hierarchy.proofs.Rounds.{joining_start, joining_ready, joining_turn, joining_stop, joining_end}
use Rattle.hierarchy.proofs.join_rows.Goals as goal

pub loop-r-init : goal.loop-r-init
loop-r-init c = record {
  rows = joining_start _ _ _ c.requires.buildable _ c.requires.rows_room.row_room c.requires.costs_value;
  carrying = c.requires.carrying;
  room = c.requires.rows_room;
  links = c.requires.linked_at.0;
  same = refl;
  levels = c.requires.linked_at.1;
}

pub step-requires : goal.step-requires
step-requires c = record {
  round_ready = (joining_ready _ _ _ c.requires.buildable _ c.requires.rows_room.row_room c.requires.costs_value c.loop-r.invariant.rows, c.loop-r.invariant.rows.sound);
  carrying = c.loop-r.invariant.carrying;
  rows_room = c.loop-r.invariant.room;
  r_bound = (c.loop-r-test.true, c.loop-r.invariant.rows.few, c.loop-r.invariant.links, c.loop-r.invariant.levels);
}

pub returns-in_default : goal.returns-in_default
returns-in_default c = record {
  built = joining_stop _ _ _ c.requires.buildable _ c.requires.rows_room.row_room c.requires.costs_value c.loop-r.invariant.rows c.loop-r-test.true c.in_default.ensures.steps.joined;
  carried_2 = c.in_default.ensures.steps.none refl;
  linked_at_2 = c.in_default.ensures.steps.links_stay refl;
  same_links = c.in_default.ensures.same_links ∙ c.loop-r.invariant.same;
}

pub loop-r-preserved : goal.loop-r-preserved
loop-r-preserved c = record {
  rows = joining_turn _ _ _ c.requires.buildable _ c.requires.rows_room.row_room c.requires.costs_value c.loop-r.invariant.rows c.loop-r-test.true c.in-Some.ensures.steps.joined;
  carrying = c.in-Some.ensures.steps.some _ refl;
  room = c.in-Some.ensures.rows_room_2;
  links = c.in-Some.ensures.steps.links_next _ refl;
  same = c.in-Some.ensures.same_links ∙ c.loop-r.invariant.same;
  levels = c.in-Some.ensures.steps.levels_next _ refl;
}

pub returns : goal.returns
returns c = let e : c.loop-r.r ≡ 8 = omega arith in record {
  built = rw e at (joining_end _ _ _ c.requires.buildable _ c.requires.rows_room.row_room c.requires.costs_value c.loop-r.invariant.rows c.loop-r-test.false);
  carried_2 = rw e at c.loop-r.invariant.carrying.carried;
  linked_at_2 = rw e at c.loop-r.invariant.links;
  same_links = c.loop-r.invariant.same;
}
