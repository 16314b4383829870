use Rattle.std.proofs.Common.{◌≡◌, ◌∙◌, ◌+◌, ◌≤◌, ◌*◌, ◌/◌, ◌%◌, ℕ, Some, List, [], slice_get, sym, subst, arith}
use Rattle.std.proofs.Math.Nat.{mul-le-mul_right}
use Rattle.std.proofs.lemmas.Option.{get_or_from_slice_get}
use Rattle.plain_graph.specs.Reply.{Told, end_text, index_line, prefixed_text, text_line}
use Rattle.graph_session.specs.Answer.{Gives}
use Rattle.graph_session.specs.Exchange.{AreFirst}
use Rattle.graph_session.specs.IndexLists.{index_lines, place_line}
use Rattle.graph_session.specs.ReplyLines.{AddsLine}
use Rattle.graph_session.specs.declared.turn.Turn.TheVariants.{Go}
use Rattle.graph_session.proofs.ListedLines.{HasLines, lines-add, lines-last, lines-none, lines-stop_in}
use Rattle.graph_session.proofs.Places.{lines-begin, lines-next, lines-over, place-parts, taken-below}
use Rattle.graph_session.proofs.questions.index_lists.give_pairs.Goals as goal

pub each-init : goal.each-init
each-init g c = record { has = lines-none c.begin.ensures; low = omega arith }

pub nonzero_div-place : goal.nonzero_div-place
nonzero_div-place g c = (place-parts c.args.count c.in-Some.place (taken-below c.args.count c.args.pairs.now c.in-Some.place c.in-Some.ensures.1)).0

pub nonzero_rem-place : goal.nonzero_rem-place
nonzero_rem-place g c = (place-parts c.args.count c.in-Some.place (taken-below c.args.count c.args.pairs.now c.in-Some.place c.in-Some.ensures.1)).0

pub text-label-requires : goal.text-label-requires
text-label-requires g c =
    let parts = place-parts c.args.count c.in-Some.place (taken-below c.args.count c.args.pairs.now c.in-Some.place c.in-Some.ensures.1) in
    omega (arith, parts.1, c.requires.named)

pub text-key-requires : goal.text-key-requires
text-key-requires g c =
    let parts = place-parts c.args.count c.in-Some.place (taken-below c.args.count c.args.pairs.now c.in-Some.place c.in-Some.ensures.1) in
    omega (arith, parts.2, c.requires.named)

pub overflow_add-from : goal.overflow_add-from
overflow_add-from g c =
    let low = taken-below c.args.count c.args.pairs.now c.in-Some.place c.in-Some.ensures.1 in
    let wide : c.args.count * c.args.count ≤ 4096 * c.args.count = mul-le-mul_right c.args.count c.requires.few in
    omega (arith, low, wide, c.requires.few)

pub each-smaller : goal.each-smaller
each-smaller g c =
    let low = taken-below c.args.count c.args.pairs.now c.in-Some.place c.in-Some.ensures.1 in
    let le = c.in-Some.ensures.0 in
    omega (arith, low, le)

-- the line of the place, by the texts of its numbers
placed : (names : List (List ℕ)) (count place : ℕ) (label key : List ℕ) → slice_get names (place / count) ≡ Some label
    → slice_get names (place % count) ≡ Some key → index_line label key ≡ place_line names count place
placed names count place label key label_is key_is =
    λ i. index_line (sym (get_or_from_slice_get names (place / count) label [] label_is) i) (sym (get_or_from_slice_get names (place % count) key [] key_is) i)

pub each-preserved : goal.each-preserved
each-preserved g c =
    let names = c.args.names.now.names in
    let count = c.args.count in
    let pairs = c.args.pairs.now in
    let place = c.in-Some.place in
    let low = taken-below count pairs place c.in-Some.ensures.1 in
    let line = placed names count place c.text-label.result.now c.text-key.result.now c.text-label.ensures.is c.text-key.ensures.is in
    record {
      has = subst (λ (lines : List (List ℕ)). HasLines g.K.Sink c.args.lines.now c.add_index.new.self lines)
          (sym (lines-next names count pairs c.each.from place c.in-Some.ensures))
          (lines-add c.each.invariant.has (place_line names count place) c.add_index.new.self
          (subst (λ (text : List ℕ). AddsLine g.K.Sink (text_line text) c.each.lines c.add_index.new.self Go) line
          (rw c.in-Go.is at c.add_index.ensures)));
      low = omega (arith, low);
    }

pub returns-in_default-add_index-clause-gives : goal.returns-in_default-add_index-clause-gives
returns-in_default-add_index-clause-gives g c =
    let names = c.args.names.now.names in
    let count = c.args.count in
    let pairs = c.args.pairs.now in
    let place = c.in-Some.place in
    let low = taken-below count pairs place c.in-Some.ensures.1 in
    let line = placed names count place c.text-label.result.now c.text-key.result.now c.text-label.ensures.is c.text-key.ensures.is in
    lines-stop_in c.each.invariant.has (index_lines names count pairs) end_text (place_line names count place)
    (subst (λ (lines : List (List ℕ)). AreFirst lines (index_lines names count pairs)) (lines-next names count pairs c.each.from place c.in-Some.ensures)
    (lines-begin names count pairs (place + 1) (omega (arith, low))))
    c.add_index.new.self c.add_index.result
    (subst (λ (text : List ℕ). AddsLine g.K.Sink (text_line text) c.each.lines c.add_index.new.self c.add_index.result)
    line c.add_index.ensures) c.in_default-add_index.not-Go

pub returns-clause-gives : goal.returns-clause-gives
returns-clause-gives g c =
    let names = c.args.names.now.names in
    let count = c.args.count in
    let pairs = c.args.pairs.now in
    subst (λ (lines : List (List ℕ)). Gives g.K.Sink (prefixed_text c.args.lines.now.prefix.now (Told lines end_text)) c.args.lines.now.output.now
    c.finish.new.self.output.now c.finish.result)
    (sym (lines-over names count pairs c.each.from c.each.invariant.low (rw c.in_default.is at c.next_place.ensures)))
    (lines-last c.each.invariant.has (text_line end_text) c.finish.new.self.output.now c.finish.result (rw c.end_of_results.ensures at c.finish.ensures.gives))

pub returns-in_default-add_index-clause-same_sink : goal.returns-in_default-add_index-clause-same_sink
returns-in_default-add_index-clause-same_sink g c = c.add_index.ensures.same_sink ∙ c.each.invariant.has.same_sink

pub returns-clause-same_sink : goal.returns-clause-same_sink
returns-clause-same_sink g c = c.finish.ensures.same_sink ∙ c.each.invariant.has.same_sink
