use Rattle.gremlin_parse.proofs.Making.{edge_making_spells, node_making_spells}
use Rattle.gremlin_parse.proofs.laws.views_make_again.Goals as goal

pub returns-clause-node : goal.returns-clause-node
returns-clause-node c = node_making_spells

pub returns-clause-edge : goal.returns-clause-edge
returns-clause-edge c = edge_making_spells
