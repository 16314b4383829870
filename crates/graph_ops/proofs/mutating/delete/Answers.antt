use Rattle.std.proofs.Common.{[], ◌∷◌, sym, subst}
use Rattle.std.specs.Prelude.{IfErr, IfOk}
use Rattle.change_parts.specs.Causes.{IsCausedAfter}
use Rattle.plain_graph.specs.Reply.{Done}
use Rattle.plain_graph.specs.declared.command.Command.TheVariants as commands
use Rattle.plain_graph.specs.declared.command.Target.{Target}
use Rattle.graph_ops.specs.Mutating.{MakesPart, any_replies}
use Rattle.change_parts.specs.Change.{IsRefusal}
use Rattle.graph_ops.proofs.ChangeLeft.{on_ok_both}
use Rattle.graph_ops.proofs.Parts.{one_result}
use Rattle.graph_ops.proofs.mutating.delete.Goals as goal
use Rattle.store_rules.specs.Graph.{graph_in}

pub returns-in-Node-clause-part : goal.returns-in-Node-clause-part
returns-in-Node-clause-part g c =
    let s = g.S.Reads.state c.args.space.now in
    let t = g.S.Reads.state c.delete_node.new.space in
    let names = c.args.names.now.names in
    subst (λ (target : Target). IfOk c.delete_node.result (λ weight. MakesPart g.S.Reads.tells (commands.Delete target ∷ []) any_replies weight s t names
    names)) (sym c.in-Node.is)
    (one_result c.delete_node.result g.S.Reads.tells _ Done s t names names c.delete_node.ensures.made
    (λ told. on_ok_both c.delete_node.result _ _ (c.delete_node.ensures.lone told) (c.delete_node.ensures.gone told)) c.delete_node.ensures.light
    c.delete_node.ensures.writes)

pub returns-in-Edge-clause-part : goal.returns-in-Edge-clause-part
returns-in-Edge-clause-part g c =
    let s = g.S.Reads.state c.args.space.now in
    let t = g.S.Reads.state c.delete_edge.new.space in
    let names = c.args.names.now.names in
    subst (λ (target : Target). IfOk c.delete_edge.result (λ weight. MakesPart g.S.Reads.tells (commands.Delete target ∷ []) any_replies weight s t names
    names)) (sym c.in-Edge.is)
    (one_result c.delete_edge.result g.S.Reads.tells _ Done s t names names c.delete_edge.ensures.made
    (λ told. on_ok_both c.delete_edge.result _ _ (c.delete_edge.ensures.there told) (c.delete_edge.ensures.gone told)) c.delete_edge.ensures.light
    c.delete_edge.ensures.writes)

pub returns-in-Node-clause-caused_after : goal.returns-in-Node-clause-caused_after
returns-in-Node-clause-caused_after g c tells =
    let t = g.S.Reads.state c.delete_node.new.space in
    let names = c.args.names.now.names in
    subst (λ (target : Target). IfErr c.delete_node.result (IsCausedAfter (commands.Delete target) t names names)) (sym c.in-Node.is)
    (c.delete_node.ensures.caused_after tells)

pub returns-in-Edge-clause-caused_after : goal.returns-in-Edge-clause-caused_after
returns-in-Edge-clause-caused_after g c tells =
    let t = g.S.Reads.state c.delete_edge.new.space in
    let names = c.args.names.now.names in
    subst (λ (target : Target). IfErr c.delete_edge.result (IsCausedAfter (commands.Delete target) t names names)) (sym c.in-Edge.is)
    (c.delete_edge.ensures.caused_after tells)

pub returns-in-Node-clause-refused : goal.returns-in-Node-clause-refused
returns-in-Node-clause-refused g c = λ tells store.
    let s = g.S.Reads.state c.args.space.now in
    subst (λ (target : Target). IfErr c.delete_node.result (IsRefusal s.shape.limit (graph_in s) (commands.Delete target))) (sym c.in-Node.is)
    (c.delete_node.ensures.refused tells store)

pub returns-in-Edge-clause-refused : goal.returns-in-Edge-clause-refused
returns-in-Edge-clause-refused g c = λ tells store.
    let s = g.S.Reads.state c.args.space.now in
    subst (λ (target : Target). IfErr c.delete_edge.result (IsRefusal s.shape.limit (graph_in s) (commands.Delete target))) (sym c.in-Edge.is)
    (c.delete_edge.ensures.refused tells store)
