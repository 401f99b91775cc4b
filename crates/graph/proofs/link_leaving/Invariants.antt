-- the edges from j on are linked
use Rattle.graph.proofs.Links.{Made}
use Rattle.graph.specs.Graph.{joining}
use Rattle.graph.specs.Links.{leave}
use lib.ListN.{length}
use mathlib.Core.Path.{◌≡◌}
use Prim.Native.Nat.{◌≤◌}
use Rattle.graph.proofs.link_leaving.Given as goal

abbrev pub invariant-loop-j : goal.invariant-loop-j
invariant-loop-j l = (l.m ≡ length l.edges.starts.now) × (l.j ≤ l.m) × Made (leave (joining l.edges.starts.now l.edges.ends.now)) l.m l.j l.links.head l.links.next
