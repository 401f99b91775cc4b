-- ranks that rise along every edge, whoever guessed them
use Rattle.cycle_test.proofs.is_ranked.Goals as goal

pub returns : goal.returns
returns c = c.rises_by.ensures
