use Rattle.std.proofs.Common.{ap, ◌∙◌}
use Rattle.traversal_run.specs.Row.{stream, through, with_first}
use Rattle.traversal_run.specs.Source.{left_of}
use Rattle.traversal_run.proofs.HeldRuns.{within-none}
use Rattle.traversal_run.proofs.Rows.{left_of-over}
use Rattle.traversal_run.specs.Owing.{rows_owe}
use Rattle.traversal_run.proofs.run.Run.stop.Goals as goal

pub returns-clause-nothing : goal.returns-clause-nothing
returns-clause-nothing c = λ graph.
    let nothing = ap (left_of graph) c.end.ensures ∙ left_of-over graph c.args.self.now.source.edges in
    λ i. with_first (c.new.ensures i) (through graph (c.clear.ensures.items i) (stream (nothing i)))

pub returns-clause-within : goal.returns-clause-within
returns-clause-within c = λ d most. within-none d most _ c.clear.ensures.items c.new.ensures

pub returns-clause-owes : goal.returns-clause-owes
returns-clause-owes c = λ records i. rows_owe records (c.end.ensures i) (c.clear.ensures.items i)
