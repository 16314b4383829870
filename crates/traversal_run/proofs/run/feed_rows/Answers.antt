use Rattle.std.proofs.Common.{[], ◌≡◌, List, OnOk, ap, arith, length, sym, ◌∙◌, subst}
use Rattle.std.proofs.lemmas.Result.{on_ok_weaker}
use Rattle.plain_graph.specs.declared.item.Item.{Item}
use Rattle.store_rules.specs.Graph.{graph_of}
use Rattle.traversal_run.specs.Row.{stream, through, with_first}
use Rattle.traversal_run.specs.Scan.{limit_row}
use Rattle.traversal_run.specs.Source.{left_of}
use Rattle.traversal_run.proofs.Fed.{plain_no_count}
use Rattle.traversal_run.proofs.FilteredCounts.{none_allowed, one_counts}
use Rattle.traversal_run.proofs.run.feed_rows.Goals as goal

pub returns-clause-same : goal.returns-clause-same
returns-clause-same g c = λ tells store.
    let graph = graph_of (g.R.Reads.state c.args.space.now).records in
    subst (λ (ready : List Item). OnOk c.feed_count.result (with_first ready (through graph c.feed_count.new.rows
    (stream (left_of graph c.feed_count.new.source))) ≡ through graph c.args.rows.now (stream (left_of graph c.args.source.now)))) (sym c.requires.none)
    (c.feed_count.ensures.same tells store)

pub returns-clause-near : goal.returns-clause-near
returns-clause-near g c = λ tells store d most degrees near.
    let rows = c.args.rows.now in
    let count = c.in-Some.count in
    let any = limit_row 0 [] in
    let one = one_counts rows count.at any count.so_far count.given c.in-Some.ensures.some.1 (c.in-Some.ensures.counts any) in
    let none = plain_no_count rows near.plain in
    absurd cc

pub returns-clause-allowed : goal.returns-clause-allowed
returns-clause-allowed g c =
    on_ok_weaker c.feed_count.result (λ counts before after.
    none_allowed c.feed_count.new.rows after (length c.args.ready.now) counts.1
    ∙ sym (none_allowed c.args.rows.now before 0 counts.0)) c.feed_count.ensures.counts

pub returns-clause-hop : goal.returns-clause-hop
returns-clause-hop g c = λ alone vertices.
    let one : length c.args.rows.now ≡ 1 = ap length alone.is in
    let within = c.in-Some.ensures.some in
    absurd (omega (arith, one, within.0, within.1))
