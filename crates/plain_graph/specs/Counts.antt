-- How many there are of each part of a graph.
use Rattle.std.specs.Prelude.{length}
use Rattle.plain_graph.specs.Graph.{Graph, block_count, property_count}
use Rattle.plain_graph.specs.declared.counts.Counts.{Counts}

abbrev pub counts_of : Graph → Counts
counts_of graph = record {
  nodes = length graph.nodes;
  edges = length graph.edges;
  properties = property_count graph;
  blocks = block_count graph;
  names = length graph.names;
}
