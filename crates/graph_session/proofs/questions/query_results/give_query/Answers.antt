use Rattle.std.proofs.Common.{◌∙◌, Err, ap, refl, subst, sym}
use Rattle.plain_graph.specs.Lines.{index_of_source}
use Rattle.plain_graph.specs.Reply.{PastCount}
use Rattle.rec_bytes.specs.declared.fault.Fault.TheVariants as faults
use Rattle.store_rules.specs.Graph.{graph_of}
use Rattle.traversal_run.specs.FoundNodes.{IsSourceRefusal}
use Rattle.traversal_run.specs.declared.run.Next.TheVariants as nexts
use Rattle.graph_session.specs.declared.reply_lines.ReplyLines.{ReplyLines}
use Rattle.graph_session.proofs.HopQueries.{goes-first, goes-on, line-ends, line-next, line-shown, line-unread}
use Rattle.graph_session.proofs.IndexQuestions.{asks-unfound}
use Rattle.graph_session.proofs.QueryReads.{owes-end, owes-first, owes-none, owes-shown, owes-shown-end, owes-stop}
use Rattle.graph_session.proofs.Reasons.{index-there}
use Rattle.graph_session.proofs.Running.{is_read-none, running-end, running-fault, running-first, running-on}
use Rattle.graph_session.proofs.Running.{running-stop, running-stopped, running-unshown, shows-past}
use Rattle.graph_session.proofs.WholeReplies.{asks-query}
use Rattle.graph_session.proofs.questions.query_results.give_query.Goals as goal

pub loop-init : goal.loop-init
loop-init g c =
    let s = g.R.Reads.state c.args.space.now in
    let met = c.in-Ok.ensures in
    let query = c.args.query.now in
    record {
      running = running-first c.args.context.names.now.names query met.read c.begin.ensures _ (λ told store. met.found told store)
          (λ told store. index-there (graph_of s.records) (index_of_source query.source) (met.there told store)) met.stopped;
      hop = goes-first g.R.Reads c.args.context.names.now.names query c.args.space.now c.new.new.space _
          (λ id hop is. met.no_read (ap index_of_source is.source))
          met.hop;
      owes = owes-first g.R.Reads c.args.context.names.now.names query c.args.space.now c.new.new.space _ (λ told store. met.cost told store)
          (λ told store. met.found told store) (λ told store. met.owes told store);
    }

pub returns-in-Err-clause-gives : goal.returns-in-Err-clause-gives
returns-in-Err-clause-gives g c =
    let s = g.R.Reads.state c.args.space.now in
    let met = c.in-Err.ensures in
    let fault = c.in-Err.fault in
    let query = c.args.query.now in
    asks-unfound (asks-query query) (λ graph. tt) met.read fault (λ is none. let memory = met.memory none in absurd (let e = sym is ∙ memory in cc))
    (λ disk. met.cause.disk (ap Err disk))
    (λ told store is. subst (IsSourceRefusal (graph_of s.records) query.source) is (met.refused told store))
    (λ told. met.damaged told) (rw c.from.ensures at c.give_answer.ensures.gives)

pub loop-preserved : goal.loop-preserved
loop-preserved g c =
    record {
      running = running-on g.met.R.Reads.further_onward c.loop.invariant.running c.next.ensures.read c.next.new.self c.in-Item.item c.in-Item.ensures.item
          c.in-Ok-add_shown.ensures.added c.in-Ok-add_shown.ensures.read c.in-Go.is c.in-Item.ensures.stops;
      hop = goes-on g.R.Reads c.args.context.names.now.names c.args.query.now c.args.space.now c.loop.space c.next.new.space c.loop.run c.next.new.self
          (nexts.Item c.in-Item.item) c.loop.invariant.hop c.in-Item.ensures.hop c.in-Item.ensures.ready
          c.add_shown.new.space (λ none. c.add_shown.ensures.unread none) (λ ready. ready);
      owes = owes-shown g.R.Reads c.args.context.names.now.names c.args.query.now c.args.space.now c.loop.space c.next.new.space c.loop.run c.next.new.self
          c.loop.invariant.running.read.same c.loop.invariant.owes (λ told store. c.next.ensures.owes told store)
          c.in-Item.item (λ told store. c.in-Item.ensures.item told store) c.add_shown.new.space c.add_shown.ensures.at_most;
    }

pub returns-in_default-clause-gives : goal.returns-in_default-clause-gives
returns-in_default-clause-gives g c =
    running-stop g.met.R.Reads.further_onward c.loop.invariant.running c.next.ensures.read c.next.new.self c.in-Item.item c.in-Item.ensures.item
    c.in-Ok-add_shown.ensures.added c.in-Ok-add_shown.ensures.read c.in_default.not-Go

pub returns-in-Err-add_shown-clause-gives : goal.returns-in-Err-add_shown-clause-gives
returns-in-Err-add_shown-clause-gives g c =
    running-unshown g.met.R.Reads.further_onward c.loop.invariant.running c.next.ensures.read c.next.new.self c.in-Item.item c.in-Item.ensures.item
    c.in-Err-add_shown.fault c.in-Err-add_shown.ensures.read c.in-Err-add_shown.ensures.stopped c.stop.result c.stop.ensures.gives

pub returns-in-End-clause-gives : goal.returns-in-End-clause-gives
returns-in-End-clause-gives g c =
    running-end g.met.R.Reads.further_onward c.loop.invariant.running c.next.ensures.read
    (λ told store. c.in-End.ensures.end told store c.loop.invariant.running.goes refl) c.finish.new.self.output.now c.finish.result
    (rw c.end_of_results.ensures at c.finish.ensures.gives)

pub returns-in-Memory-clause-gives : goal.returns-in-Memory-clause-gives
returns-in-Memory-clause-gives g c = running-stopped g.met.R.Reads.further_onward c.loop.invariant.running c.next.ensures.read faults.Memory (λ e. cc)
    (λ told. tt) c.stop-in-Memory.new.self.output.now c.stop-in-Memory.result c.stop-in-Memory.ensures.gives

pub returns-in-Disk-clause-gives : goal.returns-in-Disk-clause-gives
returns-in-Disk-clause-gives g c =
    running-stopped g.met.R.Reads.further_onward c.loop.invariant.running c.next.ensures.read faults.Disk
    (λ e. c.in-Disk.ensures.cause c.loop.invariant.running.goes refl) (λ told. tt)
    c.stop-in-Disk.new.self.output.now c.stop-in-Disk.result c.stop-in-Disk.ensures.gives

pub returns-in-Damaged-clause-gives : goal.returns-in-Damaged-clause-gives
returns-in-Damaged-clause-gives g c =
    running-stopped g.met.R.Reads.further_onward c.loop.invariant.running c.next.ensures.read (faults.Damaged c.in-Damaged.damage) (λ e. cc)
    (λ told. c.in-Damaged.ensures.damaged told c.loop.invariant.running.goes) c.stop-in-Damaged.new.self.output.now c.stop-in-Damaged.result
    c.stop-in-Damaged.ensures.gives

pub returns-in-PastCount-clause-gives : goal.returns-in-PastCount-clause-gives
returns-in-PastCount-clause-gives g c =
    running-fault g.met.R.Reads.further_onward c.loop.invariant.running c.next.ensures.read PastCount
    (shows-past g.met.R.Reads.further_onward c.loop.invariant.running (λ told-now store-now. c.in-PastCount.ensures.past told-now store-now
    c.loop.invariant.running.goes refl))
    (λ blames. absurd (blames refl)) (λ told. tt) c.finish-in-PastCount.new.self.output.now c.finish-in-PastCount.result
    (rw c.past_count.ensures at c.finish-in-PastCount.ensures.gives)

pub returns-clause-gives : goal.returns-clause-gives
returns-clause-gives g c =
    running-stopped g.met.R.Reads.further_onward c.loop.invariant.running (is_read-none g.R.Reads g.met.R.Reads.stays_onward c.loop.space) faults.Memory
    (λ e. cc) (λ told. tt) c.stop-2.new.self.output.now c.stop-2.result c.stop-2.ensures.gives

pub returns-in-Err-clause-cost : goal.returns-in-Err-clause-cost
returns-in-Err-clause-cost g c =
    line-unread g.R.Reads c.args.context.names.now.names c.args.query.now c.args.space.now c.new.new.space
    (λ id hop is. c.in-Err.ensures.no_read (ap index_of_source is.source))

pub returns-in-End-clause-cost : goal.returns-in-End-clause-cost
returns-in-End-clause-cost g c =
    line-next g.R.Reads c.args.context.names.now.names c.args.query.now c.args.space.now c.loop.space c.next.new.space c.loop.run c.next.new.self c.next.result
    c.loop.invariant.hop c.next.ensures.hop c.next.ensures.ready

pub returns-in-Memory-clause-cost : goal.returns-in-Memory-clause-cost
returns-in-Memory-clause-cost g c =
    line-next g.R.Reads c.args.context.names.now.names c.args.query.now c.args.space.now c.loop.space c.next.new.space c.loop.run c.next.new.self c.next.result
    c.loop.invariant.hop c.next.ensures.hop c.next.ensures.ready

pub returns-in-Disk-clause-cost : goal.returns-in-Disk-clause-cost
returns-in-Disk-clause-cost g c =
    line-next g.R.Reads c.args.context.names.now.names c.args.query.now c.args.space.now c.loop.space c.next.new.space c.loop.run c.next.new.self c.next.result
    c.loop.invariant.hop c.next.ensures.hop c.next.ensures.ready

pub returns-in-Damaged-clause-cost : goal.returns-in-Damaged-clause-cost
returns-in-Damaged-clause-cost g c =
    line-next g.R.Reads c.args.context.names.now.names c.args.query.now c.args.space.now c.loop.space c.next.new.space c.loop.run c.next.new.self c.next.result
    c.loop.invariant.hop c.next.ensures.hop c.next.ensures.ready

pub returns-in-PastCount-clause-cost : goal.returns-in-PastCount-clause-cost
returns-in-PastCount-clause-cost g c =
    line-next g.R.Reads c.args.context.names.now.names c.args.query.now c.args.space.now c.loop.space c.next.new.space c.loop.run c.next.new.self c.next.result
    c.loop.invariant.hop c.next.ensures.hop c.next.ensures.ready

pub returns-in_default-clause-cost : goal.returns-in_default-clause-cost
returns-in_default-clause-cost g c =
    line-shown g.R.Reads c.args.context.names.now.names c.args.query.now c.args.space.now c.loop.space c.next.new.space c.loop.run c.next.new.self c.next.result
    c.loop.invariant.hop c.next.ensures.hop c.next.ensures.ready
    c.add_shown.new.space (λ none. c.add_shown.ensures.unread none)

pub returns-in-Err-add_shown-clause-cost : goal.returns-in-Err-add_shown-clause-cost
returns-in-Err-add_shown-clause-cost g c =
    line-shown g.R.Reads c.args.context.names.now.names c.args.query.now c.args.space.now c.loop.space c.next.new.space c.loop.run c.next.new.self c.next.result
    c.loop.invariant.hop c.next.ensures.hop c.next.ensures.ready
    c.add_shown.new.space (λ none. c.add_shown.ensures.unread none)

pub returns-clause-cost : goal.returns-clause-cost
returns-clause-cost g c =
    line-ends g.R.Reads c.args.context.names.now.names c.args.query.now c.args.space.now c.loop.space c.loop.run c.loop.invariant.hop

pub returns-in-Err-clause-at_most : goal.returns-in-Err-clause-at_most
returns-in-Err-clause-at_most g c =
    owes-none g.R.Reads c.args.context.names.now.names c.args.query.now c.args.space.now c.new.new.space (λ told store. c.in-Err.ensures.cost told store)

pub returns-in-End-clause-at_most : goal.returns-in-End-clause-at_most
returns-in-End-clause-at_most g c =
    owes-stop g.R.Reads c.args.context.names.now.names c.args.query.now c.args.space.now c.loop.space c.next.new.space c.loop.run c.next.new.self
    c.loop.invariant.running.read.same c.loop.invariant.owes (λ told store. c.next.ensures.owes told store)

pub returns-in-Memory-clause-at_most : goal.returns-in-Memory-clause-at_most
returns-in-Memory-clause-at_most g c =
    owes-stop g.R.Reads c.args.context.names.now.names c.args.query.now c.args.space.now c.loop.space c.next.new.space c.loop.run c.next.new.self
    c.loop.invariant.running.read.same c.loop.invariant.owes (λ told store. c.next.ensures.owes told store)

pub returns-in-Disk-clause-at_most : goal.returns-in-Disk-clause-at_most
returns-in-Disk-clause-at_most g c =
    owes-stop g.R.Reads c.args.context.names.now.names c.args.query.now c.args.space.now c.loop.space c.next.new.space c.loop.run c.next.new.self
    c.loop.invariant.running.read.same c.loop.invariant.owes (λ told store. c.next.ensures.owes told store)

pub returns-in-Damaged-clause-at_most : goal.returns-in-Damaged-clause-at_most
returns-in-Damaged-clause-at_most g c =
    owes-stop g.R.Reads c.args.context.names.now.names c.args.query.now c.args.space.now c.loop.space c.next.new.space c.loop.run c.next.new.self
    c.loop.invariant.running.read.same c.loop.invariant.owes (λ told store. c.next.ensures.owes told store)

pub returns-in-PastCount-clause-at_most : goal.returns-in-PastCount-clause-at_most
returns-in-PastCount-clause-at_most g c =
    owes-stop g.R.Reads c.args.context.names.now.names c.args.query.now c.args.space.now c.loop.space c.next.new.space c.loop.run c.next.new.self
    c.loop.invariant.running.read.same c.loop.invariant.owes (λ told store. c.next.ensures.owes told store)

pub returns-in_default-clause-at_most : goal.returns-in_default-clause-at_most
returns-in_default-clause-at_most g c =
    owes-shown-end g.R.Reads c.args.context.names.now.names c.args.query.now c.args.space.now c.loop.space c.next.new.space c.loop.run c.next.new.self
    c.loop.invariant.running.read.same c.loop.invariant.owes (λ told store. c.next.ensures.owes told store)
    c.in-Item.item (λ told store. c.in-Item.ensures.item told store) c.add_shown.new.space c.add_shown.ensures.at_most

pub returns-in-Err-add_shown-clause-at_most : goal.returns-in-Err-add_shown-clause-at_most
returns-in-Err-add_shown-clause-at_most g c =
    owes-shown-end g.R.Reads c.args.context.names.now.names c.args.query.now c.args.space.now c.loop.space c.next.new.space c.loop.run c.next.new.self
    c.loop.invariant.running.read.same c.loop.invariant.owes (λ told store. c.next.ensures.owes told store)
    c.in-Item.item (λ told store. c.in-Item.ensures.item told store) c.add_shown.new.space c.add_shown.ensures.at_most

pub returns-clause-at_most : goal.returns-clause-at_most
returns-clause-at_most g c =
    owes-end g.R.Reads c.args.context.names.now.names c.args.query.now c.args.space.now c.loop.space _ c.loop.invariant.owes.within

pub returns-in_default-clause-same_sink : goal.returns-in_default-clause-same_sink
returns-in_default-clause-same_sink g c = c.in-Ok-add_shown.ensures.added.adds.same_sink ∙ c.loop.invariant.running.has.same_sink

pub returns-in-Err-add_shown-clause-same_sink : goal.returns-in-Err-add_shown-clause-same_sink
returns-in-Err-add_shown-clause-same_sink g c =
    c.stop.ensures.same_sink ∙ ap (λ (lines : ReplyLines _). lines.output.ghost_name) c.in-Err-add_shown.ensures.stopped.same
    ∙ c.loop.invariant.running.has.same_sink

pub returns-in-End-clause-same_sink : goal.returns-in-End-clause-same_sink
returns-in-End-clause-same_sink g c = c.finish.ensures.same_sink ∙ c.loop.invariant.running.has.same_sink

pub returns-in-Memory-clause-same_sink : goal.returns-in-Memory-clause-same_sink
returns-in-Memory-clause-same_sink g c = c.stop-in-Memory.ensures.same_sink ∙ c.loop.invariant.running.has.same_sink

pub returns-in-Disk-clause-same_sink : goal.returns-in-Disk-clause-same_sink
returns-in-Disk-clause-same_sink g c = c.stop-in-Disk.ensures.same_sink ∙ c.loop.invariant.running.has.same_sink

pub returns-in-Damaged-clause-same_sink : goal.returns-in-Damaged-clause-same_sink
returns-in-Damaged-clause-same_sink g c = c.stop-in-Damaged.ensures.same_sink ∙ c.loop.invariant.running.has.same_sink

pub returns-in-PastCount-clause-same_sink : goal.returns-in-PastCount-clause-same_sink
returns-in-PastCount-clause-same_sink g c = c.finish-in-PastCount.ensures.same_sink ∙ c.loop.invariant.running.has.same_sink

pub returns-clause-same_sink : goal.returns-clause-same_sink
returns-clause-same_sink g c = c.stop-2.ensures.same_sink ∙ c.loop.invariant.running.has.same_sink
