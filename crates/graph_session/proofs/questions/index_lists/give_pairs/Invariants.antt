use Rattle.std.proofs.Common.{◌≤◌, ◌*◌, ◌-◌}
use Rattle.graph_session.specs.IndexLists.{lines_below}
use Rattle.graph_session.proofs.ListedLines.{HasLines}
use Rattle.graph_session.proofs.questions.index_lists.give_pairs.Given as goal

abbrev pub invariant-each : goal.invariant-each
invariant-each g l = record {
  has : HasLines g.K.Sink l.fn.lines l.lines (lines_below l.names.names l.count l.pairs l.from);
  low : l.from ≤ l.count * l.count;
}

abbrev pub decreases-each : goal.decreases-each
decreases-each g l = l.count * l.count - l.from
