use Rattle.std.proofs.Common.{◌∙◌, ℕ, Option, Err, List, ap, refl}
use Rattle.plain_graph.specs.Lines.{degree_text, one_line}
use Rattle.plain_graph.specs.declared.command.Command.TheVariants as commands
use Rattle.plain_graph.specs.declared.direction.Direction.{Direction}
use Rattle.store_rules.specs.Graph.{graph_of}
use Rattle.store_rules.specs.Rows.{option_list}
use Rattle.graph_session.specs.EdgeResults.ReadsForEdges.{ByNumbers}
use Rattle.graph_session.proofs.Expansion.{is_read-gets, rows-degree, unknown_numbers_in}
use Rattle.graph_session.proofs.NodeQuestions.{AsksElements, gives-told, gives-unknown, one-blamed, one-missing}
use Rattle.graph_session.proofs.questions.degrees.give_degree.Goals as goal

asks : (id : ℕ) (direction : Direction) (label : Option (List ℕ)) → AsksElements (commands.Degree id direction label)
asks id direction label = record { question = tt; some = tt; reading = one_line (degree_text 0); formed = (0, refl) }

pub returns-in-Ok-clause-gives : goal.returns-in-Ok-clause-gives
returns-in-Ok-clause-gives g c =
    let s = g.R.Reads.state c.args.space.now in
    let met = c.in-Ok.ensures in
    gives-told (asks c.args.id c.args.direction c.args.label.now) (is_read-gets g.R.Reads met.at_most.count met.at_most.is met.onward met.cause.later)
    (one_line (degree_text c.in-Ok.edges)) (c.in-Ok.edges, refl) refl
    (λ told store. met.missing told store.store)
    (λ told store.
    ap (λ (edges : ℕ). one_line (degree_text edges))
    (met.rows told store.store ∙ rows-degree s.records s.shape store.store (option_list c.number_in-number.result) c.args.label.now
    (c.number_in-number.ensures.stands s.records s.shape store) c.args.direction c.args.id))
    (rw (c.as_bytes.ensures, c.degree-in-Ok.ensures) at c.give_line.ensures.gives)

pub returns-in-Err-clause-gives : goal.returns-in-Err-clause-gives
returns-in-Err-clause-gives g c =
    let s = g.R.Reads.state c.args.space.now in
    let met = c.in-Err.ensures in
    gives-unknown (asks c.args.id c.args.direction c.args.label.now) (is_read-gets g.R.Reads met.at_most.count met.at_most.is met.onward met.cause.later) tt
    c.in-Err.fault (λ disk. met.cause.disk (ap Err disk))
    (λ told store. one-missing ℕ c.in-Err.fault c.args.id (graph_of s.records) (met.missing told store.store))
    (λ told. one-blamed s c.args.id c.in-Err.fault (met.damaged told))
    (rw c.from.ensures at c.give_answer.ensures.gives)

pub returns-in-Ok-clause-cost : goal.returns-in-Ok-clause-cost
returns-in-Ok-clause-cost g c =
    λ tells store.
    let s = g.R.Reads.state c.args.space.now in
    let met = c.in-Ok.ensures.reads tells store.store in
    let stand = c.number_in-number.ensures.stands s.records s.shape store in
    ByNumbers (option_list c.number_in-number.result) stand (record { count = met.count; within = met.within; is = met.is })
    (λ unknown.
    let one = c.in-Ok.ensures.unknown
    (unknown_numbers_in s.records c.number_in-number.result c.args.label.now c.number_in-number.ensures.given stand unknown) in
    record { count = one.count; within = one.within; is = one.is })

pub returns-in-Err-clause-cost : goal.returns-in-Err-clause-cost
returns-in-Err-clause-cost g c =
    λ tells store.
    let s = g.R.Reads.state c.args.space.now in
    let met = c.in-Err.ensures.reads tells store.store in
    let stand = c.number_in-number.ensures.stands s.records s.shape store in
    ByNumbers (option_list c.number_in-number.result) stand (record { count = met.count; within = met.within; is = met.is })
    (λ unknown.
    let one = c.in-Err.ensures.unknown
    (unknown_numbers_in s.records c.number_in-number.result c.args.label.now c.number_in-number.ensures.given stand unknown) in
    record { count = one.count; within = one.within; is = one.is })
