-- The front of the caller's table is refined; what stands past the vertices stays.
use Rattle.refine.proofs.Down.{front_refined}
use Rattle.refine.proofs.refine.Goals as goal

pub returns : goal.returns
returns c = front_refined c.args.table.now c.requires.descends _ c.refine_down.ensures.moves_after c.refine_down.ensures.cut_value_2
