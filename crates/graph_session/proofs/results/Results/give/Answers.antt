use Rattle.std.proofs.Common.{◌≡◌, ◌<◌, ◌≤◌, ◌∙◌, List, [], get_or, length, ap, arith, subst}
use Rattle.plain_graph.specs.Reply.{end_text, item_line, result_text}
use Rattle.plain_graph.specs.declared.item.Item.{Item}
use Rattle.graph_session.specs.ReplyLines.{AddsLine}
use Rattle.graph_session.proofs.WalkReplies.{listing-end, listing-stop}
use Rattle.graph_session.proofs.results.Results.give.Goals as goal

pub returns-in_default-clause-gives : goal.returns-in_default-clause-gives
returns-in_default-clause-gives g c =
    let items = c.args.self.now.items.items in
    let item = c.item-item.result in
    let is : item ≡ get_or items c.loop-item.item-index item = cc in
    let lt : c.loop-item.item-index < length items = omega (arith, ap (λ (list : List Item). length list) c.deref-item-items.ensures.value) in
    listing-stop item_line [] items c.loop-item.invariant item lt c.add_result.new.self end_text c.add_result.result
    (subst (λ (i : Item). AddsLine g.K.Sink (result_text i) c.loop-item.lines c.add_result.new.self
    c.add_result.result) is c.add_result.ensures) c.in_default.not-Go

pub returns-clause-gives : goal.returns-clause-gives
returns-clause-gives g c =
    let items = c.args.self.now.items.items in
    let same = ap (λ (list : List Item). length list) c.deref-item-items.ensures.value in
    let low : c.loop-item.item-index ≤ length items = omega (arith, same) in
    let high : length items ≤ c.loop-item.item-index = omega (arith, same) in
    listing-end item_line [] items c.loop-item.invariant low high end_text c.finish.new.self.output.now c.finish.result
    (rw c.end_of_results.ensures at c.finish.ensures.gives)

pub returns-in_default-clause-same_sink : goal.returns-in_default-clause-same_sink
returns-in_default-clause-same_sink g c = c.add_result.ensures.same_sink ∙ c.loop-item.invariant.same_sink

pub returns-clause-same_sink : goal.returns-clause-same_sink
returns-clause-same_sink g c = c.finish.ensures.same_sink ∙ c.loop-item.invariant.same_sink
