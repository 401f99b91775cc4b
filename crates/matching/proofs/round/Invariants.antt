-- the arrays hold the pairs that the clusters of the order before u have made
use lib.ListN.{take}
use Rattle.matching.proofs.Steps.{Rounding}
use Rattle.graph.specs.Graph.{graph_of, identity}
use Rattle.matching.proofs.round.Given as goal

abbrev pub invariant-loop-u : goal.invariant-loop-u
invariant-loop-u l = Rounding (graph_of (take l.g l.scan.costs.now) l.scan.links.edges.starts.now l.scan.links.edges.ends.now l.scan.widths.now) (identity l.g) l.scan.levels.now l.g l.scan.bound l.u-index l.pairs.mates l.pairs.tos l.pairs.blocked l.count
