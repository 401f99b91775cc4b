-- Each array has as many words as its vertices need.
use native.Mathlib.Omega.{arith}
use Rattle.validity.proofs.Repeats.{fits_roomy}
use Rattle.validity.proofs.find_repeat.Goals as goal

pub first_repeat-requires : goal.first_repeat-requires
first_repeat-requires c = record { words_room = fits_roomy _ c.args.lists.fits (omega arith); few = omega arith }

pub first_repeat-requires-then-lists-le256 : goal.first_repeat-requires-then-lists-le256
first_repeat-requires-then-lists-le256 c = record { words_room = fits_roomy _ c.args.lists.fits (omega arith); few = omega arith }

pub first_repeat-requires-2 : goal.first_repeat-requires-2
first_repeat-requires-2 c = record { words_room = fits_roomy _ c.args.lists.fits c.args.lists.fits.few; few = omega arith }
