-- The edges out, into sums of 0; then those in, into what the first left.
use Rattle.neighbours.proofs.Laws.{room_next, both_ways}
use Rattle.neighbours.proofs.pulls.Goals as goal

pub add_widths-requires-2-clause-sums_room : goal.add_widths-requires-2-clause-sums_room
add_widths-requires-2-clause-sums_room c = let (n, f, _) = c.leaving-out.ensures in
    room_next _ _ _ _ c.requires.listed.narrow (rw (n, f) at c.add_widths.ensures)

pub returns : goal.returns
returns c = let (n, f, _) = c.leaving-out.ensures in
    let (n', f', _) = c.entering-back.ensures in
    both_ways _ _ _ _ c.args.edges.now.ended.same (rw (n, f) at c.add_widths.ensures) (rw (n', f') at c.add_widths-2.ensures)
