-- where the edges are seen to form no cycle, there is no lowest on one; else the order decides
use Rattle.topology.proofs.Reaches.{lowest_none}
use Rattle.std.proofs.Common.{arith}
use Rattle.folds.proofs.Found.{below_none}
use Rattle.cycle_test.proofs.find_cycle.Goals as goal

pub returns-then-is_free : goal.returns-then-is_free
returns-then-is_free c = below_none (omega (arith, lowest_none _ _ c.requires.inside (c.is_free.ensures c.if-is_free.true)))
