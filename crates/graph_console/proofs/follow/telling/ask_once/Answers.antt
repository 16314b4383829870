use Rattle.std.proofs.Common.{◌∙◌, true, ap}
use Rattle.std.proofs.lemmas.Result.{IfOk-weaker}
use Rattle.plain_graph.specs.Counts.{counts_of}
use Rattle.plain_graph.specs.Graph.{Graph}
use Rattle.plain_graph.specs.Lines.{counts_text}
use Rattle.plain_graph.specs.Reply.{text_line}
use Rattle.graph_session.specs.Session.{shared_view}
use Rattle.graph_session.proofs.SnapshotTaking.{opens-shared}
use Rattle.graph_console.specs.Run.{begins_with}
use Rattle.graph_console.proofs.Stats.{answers_stats}
use Rattle.graph_console.proofs.follow.telling.ask_once.Goals as goal

pub returns-in-Ok : goal.returns-in-Ok
returns-in-Ok g c = IfOk-weaker c.ask-reply.result _ _
    (λ page h told shape graph stands.
    let begins = c.in-Ok.ensures.opened.begins true (λ _. record { shape = shape; graph = graph; stands = stands }) in
    let at = opens-shared g.D.Disk (shared_view c.in-Ok.session) begins.0 begins.2 c.in-Ok.ensures.stored begins.1.closed c.in-Ok.ensures.no_snapshots in
    answers_stats g.D.Disk (begins_with begins.0) page.taken (shared_view c.ask-reply.new.session) told begins.1.live begins.1.closed
    (h (begins_with begins.0) at)
    ∙ ap (λ (counted : Graph). text_line (counts_text (counts_of counted))) (begins.1.same told shape graph stands))
    c.ask-reply.ensures
