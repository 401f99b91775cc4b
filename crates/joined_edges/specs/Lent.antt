-- The edges between clusters that the lists of a call are.
use Rattle.graph.specs.Graph.{Arcs, arcs}
use Rattle.joined_edges.specs.declared.edges.RowEdges.{RowEdges}

abbrev pub arcs_in : RowEdges → Arcs
arcs_in e = arcs e.row.now e.starts.now e.ends.now
