-- One round: what the edges leave is marked, and then they are sifted.
use Rattle.cycle_test.proofs.Thins.{front_named, marked_front, rethinned}
use Rattle.cycle_test.proofs.Sieve.thin.Goals as goal

pub mark-requires : goal.mark-requires
mark-requires c = front_named c.requires.starts

pub resift-requires : goal.resift-requires
resift-requires c = c.requires

pub returns : goal.returns
returns c = rethinned c.requires (marked_front c.requires.starts c.mark.ensures) c.resift.ensures
