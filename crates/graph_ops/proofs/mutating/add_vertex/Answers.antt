use Rattle.std.proofs.Common.{◌≡◌, ◌∙◌, ◌++◌, ◌∷◌, [], List, ap, subst, inl, rules}
use Rattle.graph_ops.specs.Mutating.{IsListCaused}
use Rattle.change_parts.proofs.Exits.{fault_exit}
use Rattle.plain_graph.specs.Reply.{NodeMade, Reply}
use Rattle.plain_graph.specs.declared.command.Command.TheVariants as commands
use Rattle.plain_graph.specs.declared.item.Item.TheVariants as items
use Rattle.plain_graph.specs.Mutations.{new_elements}
use Rattle.node_changes.specs.NodeAdding.{IsNodeLabelled}
use Rattle.graph_ops.proofs.Parts.{one_caused, one_part}
use Rattle.rec_bytes.proofs.Causes.{never_ok, ok_cause}
use Rattle.graph_ops.proofs.mutating.add_vertex.Goals as goal

pub returns-clause-part : goal.returns-clause-part
returns-clause-part g c =
    let made = c.in_ok-id.ensures in
    let command = commands.Node c.args.label.now c.args.pairs.now in
    let id = c.in_ok-id.field-0.id in
    let old = c.args.shown.now.items in
    let shown : c.show.new.shown.items ≡ old ++ items.Vertex id ∷ [] = c.in_ok-show.ensures.shown in
    let t = g.S.Reads.state c.add_node.new.space in
    let names = c.add_node.new.names.names in
    one_part g.S.Reads.tells command (λ (replies : List Reply). c.show.new.shown.items ≡ old ++ new_elements (command ∷ []) replies) (NodeMade id)
    c.in_ok-id.field-0.weight (g.S.Reads.state c.args.space.now) t c.args.names.now.names names made.made
    (λ told. (ap NodeMade (made.taken told), subst (λ n. IsNodeLabelled t.records names n c.args.label.now) (made.taken told) (made.stands told)))
    made.light made.writes shown

-- ---- why it is refused, by the space as it is left

pub returns-in_err-id-clause-caused_after : goal.returns-in_err-id-clause-caused_after
returns-in_err-id-clause-caused_after g c tells =
    let t = g.S.Reads.state c.add_node.new.space in
    let names = c.args.names.now.names in
    let now = c.add_node.new.names.names in
    let command = commands.Node c.args.label.now c.args.pairs.now in
    let fault = c.in_err-id.field-0.0 in
    fault_exit (λ f. f) (IsListCaused (command ∷ []) t names now) fault c.from_residual.result c.from_residual.ensures.1
    (one_caused command t names now fault c.add_node.ensures.prefix (c.in_err-id.ensures.caused_after tells))

pub returns-in_err-show-clause-caused_after : goal.returns-in_err-show-clause-caused_after
returns-in_err-show-clause-caused_after g c tells =
    let t = g.S.Reads.state c.add_node.new.space in
    let command = commands.Node c.args.label.now c.args.pairs.now in
    fault_exit (λ f. f) (IsListCaused (command ∷ []) t c.args.names.now.names c.add_node.new.names.names) c.in_err-show.field-0.0
    c.from_residual-in_err-show.result c.from_residual-in_err-show.ensures.1 (inl c.in_err-show.ensures.memory)

pub returns-in_err-id-clause-part : goal.returns-in_err-id-clause-part
returns-in_err-id-clause-part g c = never_ok c.from_residual.result _ _ c.from_residual.ensures.1

pub returns-in_err-id-clause-lines : goal.returns-in_err-id-clause-lines
returns-in_err-id-clause-lines g c _ = never_ok c.from_residual.result _ _ c.from_residual.ensures.1

pub returns-in_err-id-clause-onward : goal.returns-in_err-id-clause-onward
returns-in_err-id-clause-onward g c = search rules

pub returns-in_err-show-clause-part : goal.returns-in_err-show-clause-part
returns-in_err-show-clause-part g c = never_ok c.from_residual-in_err-show.result _ _ c.from_residual-in_err-show.ensures.1

pub returns-in_err-show-clause-lines : goal.returns-in_err-show-clause-lines
returns-in_err-show-clause-lines g c _ = never_ok c.from_residual-in_err-show.result _ _ c.from_residual-in_err-show.ensures.1

pub returns-clause-cause : goal.returns-clause-cause
returns-clause-cause g c = ok_cause _ _ _ _ c.in_ok-id.ensures.cause.later

-- ---- which identifier it gets

pub returns-clause-ids : goal.returns-clause-ids
returns-clause-ids g c tells =
    let old = c.args.shown.now.items in
    c.in_ok-show.ensures.shown ∙ (λ i. old ++ items.Vertex (c.in_ok-id.ensures.taken tells i) ∷ [])

pub returns-in_err-id-clause-ids : goal.returns-in_err-id-clause-ids
returns-in_err-id-clause-ids g c _ = never_ok c.from_residual.result _ _ c.from_residual.ensures.1

pub returns-in_err-show-clause-ids : goal.returns-in_err-show-clause-ids
returns-in_err-show-clause-ids g c _ = never_ok c.from_residual-in_err-show.result _ _ c.from_residual-in_err-show.ensures.1
