-- A mark other than 2 says that the numbers are right; where it is 2, two walks find them.
use Rattle.neighbours.proofs.Known.{known_set, low_walked, high_walked}
use Rattle.neighbours.proofs.refresh.Goals as goal

pub returns : goal.returns
returns c = let (n, f, _) = c.leaving-out.ensures in
    let (n', f', _) = c.entering-back.ensures in
    known_set c.requires.h_bound.0 (low_walked _ _ _ n f c.fold_far.ensures) (high_walked _ _ n' f' c.args.edges.now.ended.same c.fold_far-2.ensures) c.requires.known
