use Rattle.graph_session.specs.Session.{shared_view}
use Rattle.graph_session.specs.SharedConsole.{IsSharedAt}
use Rattle.graph_console.specs.Sample.{sample_store}
use Rattle.graph_console.specs.Sampling.{TookTurns}
use Rattle.graph_console.proofs.sample.turns.take_turns.Given as goal

abbrev pub invariant-turns : goal.invariant-turns
invariant-turns g l =
    IsSharedAt g.D.Disk (shared_view l.fn.session) (sample_store l.fn.options)
    → TookTurns g.D.Disk l.fn.options l._turn l.sampler (shared_view l.session)
