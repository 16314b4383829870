use Rattle.graph_session.proofs.Judging.{gives-counts}
use Rattle.graph_session.proofs.PartCounts.{counts_are}
use Rattle.graph_session.proofs.Running.{is_read-none}
use Rattle.graph_session.proofs.questions.counts.give_counts.Goals as goal

pub returns-clause-gives : goal.returns-clause-gives
returns-clause-gives g c = λ names.
    let s = g.R.Reads.state c.args.space.now in
    gives-counts names (is_read-none g.R.Reads g.met.R.Reads.stays_onward c.args.space.now) _
    (λ store. rw (c.meta.ensures, c.meta-2.ensures, c.meta-3.ensures, c.meta-4.ensures, c.meta-5.ensures) (counts_are s.records s.shape store))
    (rw (c.as_bytes.ensures, c.counted.ensures) at c.give_line.ensures.gives)
