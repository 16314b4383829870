use Rattle.std.proofs.Common.{◌∙◌, ◌<◌, ◌≤◌, List, ℕ, [], length, sym, subst, take, arith}
use Rattle.std.proofs.lemmas.List.{length-take-le}
use Rattle.plain_graph.specs.Reply.{end_text, text_line}
use Rattle.graph_session.specs.ReplyLines.{AddsLine}
use Rattle.graph_session.specs.NameLists.{name_text}
use Rattle.graph_session.specs.declared.turn.Turn.TheVariants.{Go}
use Rattle.graph_session.proofs.ListedLines.{lines-none}
use Rattle.graph_session.proofs.NamesTold.{name-taken}
use Rattle.graph_session.proofs.WalkReplies.{listing-end, listing-more, listing-stop}
use Rattle.graph_session.proofs.questions.name_lists.give_first.Goals as goal

pub loop-id-init : goal.loop-id-init
loop-id-init g c = lines-none c.begin.ensures

pub loop-id-preserved : goal.loop-id-preserved
loop-id-preserved g c =
    let names = c.args.names.now.names in
    let all = take c.args.count names in
    let long = length-take-le c.args.count names c.requires in
    let low : c.loop-id.id < length all = omega (arith, long, c.loop-id-test.true) in
    listing-more name_text [] all c.loop-id.invariant [] low c.add_name.new.self
    (subst (λ (text : List ℕ). AddsLine g.K.Sink (text_line (name_text text)) c.loop-id.lines c.add_name.new.self Go)
    (sym (name-taken names c.args.count c.loop-id.id c.text.result.now c.loop-id-test.true c.text.ensures.is)) (rw c.in-Go.is at c.add_name.ensures))

pub returns-in_default-clause-gives : goal.returns-in_default-clause-gives
returns-in_default-clause-gives g c =
    let names = c.args.names.now.names in
    let all = take c.args.count names in
    let long = length-take-le c.args.count names c.requires in
    let low : c.loop-id.id < length all = omega (arith, long, c.loop-id-test.true) in
    listing-stop name_text [] all c.loop-id.invariant [] low c.add_name.new.self end_text c.add_name.result
    (subst (λ (text : List ℕ). AddsLine g.K.Sink (text_line (name_text text)) c.loop-id.lines c.add_name.new.self
    c.add_name.result)
    (sym (name-taken names c.args.count c.loop-id.id c.text.result.now c.loop-id-test.true c.text.ensures.is)) c.add_name.ensures) c.in_default.not-Go

pub returns-clause-gives : goal.returns-clause-gives
returns-clause-gives g c =
    let names = c.args.names.now.names in
    let all = take c.args.count names in
    let long = length-take-le c.args.count names c.requires in
    let low : c.loop-id.id ≤ length all = omega (arith, long, c.loop-id.auto.id-end) in
    let high : length all ≤ c.loop-id.id = omega (arith, long, c.loop-id-test.false) in
    listing-end name_text [] all c.loop-id.invariant low high end_text c.finish.new.self.output.now c.finish.result
    (rw c.end_of_results.ensures at c.finish.ensures.gives)

pub returns-in_default-clause-same_sink : goal.returns-in_default-clause-same_sink
returns-in_default-clause-same_sink g c = c.add_name.ensures.same_sink ∙ c.loop-id.invariant.same_sink

pub returns-clause-same_sink : goal.returns-clause-same_sink
returns-clause-same_sink g c = c.finish.ensures.same_sink ∙ c.loop-id.invariant.same_sink
