use Rattle.std.proofs.Common.{ℕ, Err, List, [], Vec, ap, map, refl}
use Rattle.std.specs.declared.alloc.Global.{Global}
use Rattle.plain_graph.specs.Lines.{listed}
use Rattle.plain_graph.specs.Reply.{item_line}
use Rattle.plain_graph.specs.declared.command.Command.TheVariants as commands
use Rattle.plain_graph.specs.declared.direction.Direction.{Direction}
use Rattle.plain_graph.specs.declared.item.Item.{Item}
use Rattle.rel_store.specs.declared.edge_row.EdgeRow.{EdgeRow}
use Rattle.expand.specs.declared.expand_fault.ExpandFault.TheVariants as faults
use Rattle.store_rules.specs.Graph.{graph_of}
use Rattle.graph_session.specs.EdgeResults.{items_of}
use Rattle.graph_session.specs.EdgeResults.ReadsForEdges.{NoRead}
use Rattle.graph_session.proofs.NodeQuestions.{AsksElements, gives-told, gives-unknown, one-blamed, one-missing}
use Rattle.graph_session.proofs.Running.{is_read-none}
use Rattle.graph_session.proofs.questions.edge_results.give_edges.Goals as goal

asks : (id : ℕ) (direction : Direction) (label : List ℕ) → AsksElements (commands.Expand id direction label)
asks id direction label = record { question = tt; some = tt; reading = listed []; formed = ([], refl) }

pub returns-in_default-clause-gives : goal.returns-in_default-clause-gives
returns-in_default-clause-gives g c =
    gives-unknown (asks c.args.id c.args.direction c.args.label.now) (is_read-none g.R.Reads g.met.R.Reads.stays_onward c.args.space.now) tt faults.Memory
    (λ e. cc) (λ told store id e. cc) (λ told. tt) c.give_answer.ensures.gives

pub returns-in-Ok-edges_of-clause-gives : goal.returns-in-Ok-edges_of-clause-gives
returns-in-Ok-edges_of-clause-gives g c =
    let rows = c.in-Ok-edges_of.rows.items in
    let met = c.in-Ok-edges_of.ensures in
    gives-told (asks c.args.id c.args.direction c.args.label.now) met.read (listed (map item_line (items_of c.args.label.now rows)))
    (items_of c.args.label.now rows, refl) refl
    (λ told store. met.missing told store)
    (λ told store. ap (λ (found : List Item). listed (map item_line found)) (met.found told store))
    (rw (c.deref.ensures.value, c.in-Ok.ensures) at c.give_rows.ensures.gives)

pub returns-in-Err-clause-gives : goal.returns-in-Err-clause-gives
returns-in-Err-clause-gives g c =
    let s = g.R.Reads.state c.args.space.now in
    let met = c.in-Err.ensures in
    let fault = c.in-Err.fault in
    gives-unknown (asks c.args.id c.args.direction c.args.label.now) met.read tt fault (λ disk. met.cause.disk (ap Err disk))
    (λ told store. one-missing (Vec EdgeRow Global) fault c.args.id (graph_of s.records) (met.missing told store))
    (λ told. one-blamed s c.args.id fault (met.damaged told))
    (rw c.from.ensures at c.give_answer-in-Err.ensures.gives)

pub returns-in_default-clause-cost : goal.returns-in_default-clause-cost
returns-in_default-clause-cost g c =
    λ tells store. NoRead refl
