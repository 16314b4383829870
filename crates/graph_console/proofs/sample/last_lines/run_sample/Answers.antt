use Rattle.graph_session.specs.Session.{shared_view}
use Rattle.graph_console.proofs.Samples.{ends_first, sampled_first}
use Rattle.graph_console.proofs.sample.last_lines.run_sample.Goals as goal

pub returns-in-Ok-clause-samples : goal.returns-in-Ok-clause-samples
returns-in-Ok-clause-samples g c = λ is_at k.
    let took = c.in-Ok.ensures is_at in
    c.ask_last_lines.ensures.samples c.args.options (sampled_first took.0 (shared_view c.take_turns.new.session) took.1) k

pub returns-in-Err-clause-samples : goal.returns-in-Err-clause-samples
returns-in-Err-clause-samples g c = λ is_at k.
    ends_first g.D.Disk.tells_reads c.args.options _ _ c.end_without_memory.result (c.end_without_memory.ensures.written k)
