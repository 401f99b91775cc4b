-- the links of the edges from j on are made
use Rattle.graph.proofs.Links.{Made}
use Rattle.graph.specs.Links.{leave}
use Rattle.joined_edges.specs.Lent.{arcs_in}
use lib.ListN.{length}
use mathlib.Core.Path.{◌≡◌}
use Rattle.joined_edges.proofs.fill_leaving.Given as goal

abbrev pub invariant-loop-j : goal.invariant-loop-j
invariant-loop-j l = (l.m ≡ length l.edges.starts.now) × Made (leave (arcs_in l.edges)) l.m l.j l.table.head l.table.next
