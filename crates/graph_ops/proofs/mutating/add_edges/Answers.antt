use Rattle.std.proofs.Common.{◌≡◌, ◌∙◌, ◌++◌, ◌∷◌, [], List, take, append_assoc, inl, sym, ap, subst}
use Rattle.std.proofs.lemmas.List.{take_all}
use Rattle.plain_graph.specs.Reply.{Reply}
use Rattle.plain_graph.specs.declared.command.Command.{Command}
use Rattle.plain_graph.specs.declared.item.Item.{Item}
use Rattle.graph_ops.specs.Mutating.{IsListCaused, MakesPart, steps_for}
use Rattle.change_parts.proofs.Exits.{fault_exit}
use Rattle.plain_graph.specs.Mutations.{changes_of, new_elements}
use Rattle.graph_ops.proofs.ChangeLeft.{elements_then}
use Rattle.graph_ops.proofs.Parts.{making_more, next_exit, next_caused, up_to}
use Rattle.graph_ops.proofs.Spreading.{edges_spread}
use Rattle.rec_bytes.proofs.Causes.{never_ok, ok_cause}
use Rattle.rec_bytes.specs.Format as format
use Rattle.graph_ops.proofs.NewIds.{shows_then}
use Rattle.graph_ops.proofs.mutating.add_edges.Goals as goal

pub returns-in_err-more-clause-refused : goal.returns-in_err-more-clause-refused
returns-in_err-more-clause-refused g c told store =
    let inv = c.loop-item.invariant.making in
    let edge = c.args.edge.now in
    let item = c.item-item.result in
    next_exit (changes_of (steps_for edge)) (edges_spread edge.label.now edge.to edge.pairs.now) c.args.items.now c.loop-item.item-index item item
    c.loop-item-test.true c.item-item.is c.loop-item.weight (g.S.Reads.state c.args.space.now) (g.S.Reads.state c.loop-item.space) c.args.names.now.names
    c.loop-item.names.names c.in_err-more.field-0.0 c.from_residual.result told store inv.part inv.shape c.from_residual.ensures.1
    (λ kept. c.in_err-more.ensures.refused told kept)

pub loop-item-preserved : goal.loop-item-preserved
loop-item-preserved g c =
    let inv = c.loop-item.invariant.making in
    let edge = c.args.edge.now in
    let item = c.item-item.result in
    let of : List Item → List Command = changes_of (steps_for edge) in
    let spread = edges_spread edge.label.now edge.to edge.pairs.now in
    let s = g.S.Reads.state c.args.space.now in
    let t = g.S.Reads.state c.loop-item.space in
    let results = c.args.items.now in
    let i = c.loop-item.item-index in
    let start = c.args.shown.now.items in
    record {
      making = making_more of spread results i item item c.loop-item-test.true c.item-item.is c.loop-item.weight c.in_ok-more.more c.in_ok-both.both s t
          (g.S.Reads.state c.add_edge_from.new.space) c.args.names.now.names c.loop-item.names.names c.add_edge_from.new.names.names
          (g.S.Reads.faults c.args.space.now)
          (g.S.Reads.faults c.loop-item.space) (g.S.Reads.faults c.add_edge_from.new.space) c.in_ok-both.ensures.sum c.in_ok-both.ensures.few inv
          c.in_ok-more.ensures.part c.add_edge_from.ensures.prefix (g.met.S.Reads.onward_shape _ _ c.add_edge_from.ensures.onward)
          (g.met.S.Reads.further_onward c.args.space.now c.loop-item.space c.add_edge_from.new.space inv.onward_is c.add_edge_from.ensures.onward)
          c.add_edge_from.ensures.cause.later
          (λ rs ts a each b.
          b ∙ ap (λ (l : List Item). l ++ new_elements (of (item ∷ [])) ts) a
          ∙ append_assoc start (new_elements (of (take i results)) rs) (new_elements (of (item ∷ [])) ts)
          ∙ ap (λ (l : List Item). start ++ l)
          (sym (elements_then (of (take i results)) (of (item ∷ [])) rs ts s.records t.records c.loop-item.names.names each) ∙ ap
          (λ (cs : List Command). new_elements cs (rs ++ ts)) (sym (up_to of spread results i item item c.loop-item-test.true c.item-item.is))));
      ids = λ tells. shows_then s.records t.records (g.S.Reads.state c.add_edge_from.new.space).records format.relationships_file start c.loop-item.shown.items
          c.add_edge_from.new.shown.items (c.loop-item.invariant.ids tells) (c.in_ok-more.ensures.ids tells);
      lines = λ shown. c.in_ok-more.ensures.lines (c.loop-item.invariant.lines shown);
    }

pub returns-clause-part : goal.returns-clause-part
returns-clause-part g c =
    let mutation = steps_for c.args.edge.now in
    subst
    (λ (results : List Item). MakesPart g.S.Reads.tells (changes_of mutation results) (λ (replies : List Reply). c.loop-item.shown.items ≡
    c.args.shown.now.items ++ new_elements (changes_of mutation results) replies) c.loop-item.weight (g.S.Reads.state c.args.space.now)
    (g.S.Reads.state c.loop-item.space)
    c.args.names.now.names c.loop-item.names.names)
    (take_all c.loop-item.item-index c.args.items.now c.loop-item-test.false) c.loop-item.invariant.making.part

-- ---- why it is refused, by the space as it is left

pub returns-in_err-more-clause-caused_after : goal.returns-in_err-more-clause-caused_after
returns-in_err-more-clause-caused_after g c tells =
    let t = g.S.Reads.state c.add_edge_from.new.space in
    let edge = c.args.edge.now in
    let item = c.item-item.result in
    next_caused (changes_of (steps_for edge)) (edges_spread edge.label.now edge.to edge.pairs.now) c.args.items.now c.loop-item.item-index item item
    c.loop-item-test.true c.item-item.is t c.args.names.now.names c.loop-item.names.names c.add_edge_from.new.names.names c.in_err-more.field-0.0
    c.from_residual.result c.loop-item.invariant.making.prefix c.from_residual.ensures.1 (c.in_err-more.ensures.caused_after tells)

pub returns-in_err-both-clause-caused_after : goal.returns-in_err-both-clause-caused_after
returns-in_err-both-clause-caused_after g c tells =
    let t = g.S.Reads.state c.add_edge_from.new.space in
    fault_exit (λ f. f) (IsListCaused (changes_of (steps_for c.args.edge.now) c.args.items.now) t c.args.names.now.names
    c.add_edge_from.new.names.names) c.in_err-both.field-0.0 c.from_residual-in_err-both.result c.from_residual-in_err-both.ensures.1
    (inl c.in_err-both.ensures.memory)

pub returns-in_err-more-clause-part : goal.returns-in_err-more-clause-part
returns-in_err-more-clause-part g c = never_ok c.from_residual.result _ _ c.from_residual.ensures.1

pub returns-in_err-more-clause-lines : goal.returns-in_err-more-clause-lines
returns-in_err-more-clause-lines g c _ = never_ok c.from_residual.result _ _ c.from_residual.ensures.1

pub returns-in_err-both-clause-part : goal.returns-in_err-both-clause-part
returns-in_err-both-clause-part g c = never_ok c.from_residual-in_err-both.result _ _ c.from_residual-in_err-both.ensures.1

pub returns-in_err-both-clause-lines : goal.returns-in_err-both-clause-lines
returns-in_err-both-clause-lines g c _ = never_ok c.from_residual-in_err-both.result _ _ c.from_residual-in_err-both.ensures.1

pub returns-clause-cause : goal.returns-clause-cause
returns-clause-cause g c = ok_cause _ _ _ _ c.loop-item.invariant.making.later

-- ---- which identifiers they get

pub returns-clause-ids : goal.returns-clause-ids
returns-clause-ids g c tells = c.loop-item.invariant.ids tells

pub returns-in_err-more-clause-ids : goal.returns-in_err-more-clause-ids
returns-in_err-more-clause-ids g c _ = never_ok c.from_residual.result _ _ c.from_residual.ensures.1

pub returns-in_err-both-clause-ids : goal.returns-in_err-both-clause-ids
returns-in_err-both-clause-ids g c _ = never_ok c.from_residual-in_err-both.result _ _ c.from_residual-in_err-both.ensures.1
