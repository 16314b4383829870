use Rattle.disk_model.specs.PlainDisk.{contents}
use Rattle.graph_session.specs.Session.{shared_view}
use Rattle.graph_console.proofs.Samples.{ends_first}
use Rattle.graph_console.proofs.SampleStores.{opens_empty, unmade_zeros}
use Rattle.graph_console.proofs.sample.sample.Goals as goal

pub returns-in_default-clause-samples : goal.returns-in_default-clause-samples
returns-in_default-clause-samples g c = λ k.
    ends_first (Unit {0}) c.args.options _ _ c.end_without_memory.result (c.end_without_memory.ensures.written k)

pub returns-in_default-open-clause-samples : goal.returns-in_default-open-clause-samples
returns-in_default-open-clause-samples g c = λ k.
    ends_first (Unit {0}) c.args.options _ _ c.end_without_memory-in_default-open.result (c.end_without_memory-in_default-open.ensures.written k)

pub returns-clause-samples : goal.returns-clause-samples
returns-clause-samples g c = λ k.
    c.run_sample-exit.ensures.samples
    (opens_empty _ c.args.options c.config_of.result c.in-Ok.disk (shared_view c.in-Ok-open.session) c.config_of.ensures tt
    (unmade_zeros (contents c.in-Ok.disk.files) c.in-Ok.ensures.zeros) c.in-Ok-open.ensures.opened c.in-Ok-open.ensures.stored
    c.in-Ok-open.ensures.no_snapshots) k
