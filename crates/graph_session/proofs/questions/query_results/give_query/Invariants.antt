use Rattle.graph_session.proofs.HopQueries.{HopGoes}
use Rattle.graph_session.proofs.QueryReads.{RunOwes}
use Rattle.graph_session.proofs.Running.{IsRunning}
use Rattle.graph_session.proofs.questions.query_results.give_query.Given as goal

abbrev pub invariant-loop : goal.invariant-loop
invariant-loop g l = record {
  running : IsRunning g.R.Reads g.K.Sink l.context.names.now.names l.query l.fn.space l.space l.fn.lines l.lines l.run;
  hop : HopGoes g.R.Reads l.context.names.now.names l.query l.fn.space l.space l.run;
  owes : RunOwes g.R.Reads l.context.names.now.names l.query l.fn.space l.space l.run;
}
