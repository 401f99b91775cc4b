-- What the lists of a call are: a graph, or edges between clusters.
use Rattle.graph.specs.Graph.{Graph, Arcs, graph_of, joining}
use Rattle.graph.specs.declared.Lists.{Lists}
use Rattle.graph.specs.declared.EdgeLists.{EdgeLists}

abbrev pub graph_in : Lists → Graph
graph_in l = graph_of l.costs.now l.starts.now l.ends.now l.widths.now

-- The edges that two lists of ends are.
abbrev pub arcs_in : EdgeLists → Arcs
arcs_in e = joining e.starts.now e.ends.now
