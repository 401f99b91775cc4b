-- What is joined in local lists is copied behind the lists of the row before.
use Rattle.folds.specs.Fold.{put}
use Rattle.folds.proofs.Slices.{length_part}
use Rattle.row_lists.proofs.Carrying.{carried, carry_room}
use native.Mathlib.Omega.{arith}
use Rattle.row_lists.proofs.carry.Goals as goal

pub copy-requires : goal.copy-requires
copy-requires c = omega (arith, carry_room c.args.store.now.froms.now c.args.store.now.tos.now c.args.store.now.wides.now c.join_part.new.joined.froms c.args.a c.args.size c.args.names.maps c.requires.between (omega arith) (rw (c.view.ensures.froms, c.view.ensures.tos, c.view.ensures.wides) at c.join_part.ensures) c.join_part.ensures.listed.tall_from)

pub copy-requires-2 : goal.copy-requires-2
copy-requires-2 c = omega (arith, carry_room c.args.store.now.froms.now c.args.store.now.tos.now c.args.store.now.wides.now c.join_part.new.joined.tos c.args.a c.args.size c.args.names.maps c.requires.between (omega arith) (rw (c.view.ensures.froms, c.view.ensures.tos, c.view.ensures.wides) at c.join_part.ensures) c.join_part.ensures.listed.tall_to)

pub copy-requires-3 : goal.copy-requires-3
copy-requires-3 c = omega (arith, carry_room c.args.store.now.froms.now c.args.store.now.tos.now c.args.store.now.wides.now c.join_part.new.joined.widths c.args.a c.args.size c.args.names.maps c.requires.between (omega arith) (rw (c.view.ensures.froms, c.view.ensures.tos, c.view.ensures.wides) at c.join_part.ensures) c.join_part.ensures.listed.tall_width)

pub returns-clause-next : goal.returns-clause-next
unfolding put
returns-clause-next c = carried c.args.names.maps c.requires.between (length_part c.args.store.now.froms.now c.args.a c.args.size (omega arith)) (rw (c.view.ensures.froms, c.view.ensures.tos, c.view.ensures.wides) at c.join_part.ensures) c.copy.ensures c.copy-2.ensures c.copy-3.ensures
