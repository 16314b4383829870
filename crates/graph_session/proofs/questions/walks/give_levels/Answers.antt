use Rattle.std.proofs.Common.{ℕ, Option, Err, List, [], ap, map, refl}
use Rattle.plain_graph.specs.Lines.{level_text, listed}
use Rattle.plain_graph.specs.Reply.{Told, end_text}
use Rattle.plain_graph.specs.declared.command.Command.TheVariants as commands
use Rattle.plain_graph.specs.declared.direction.Direction.{Direction}
use Rattle.store_rules.specs.Graph.{graph_of}
use Rattle.path_find.specs.declared.answer.Answer.{Answer}
use Rattle.graph_session.specs.Walks.{CostsLevels}
use Rattle.graph_session.proofs.NodeQuestions.{AsksElements, end-blamed, end-missing, gives-told, gives-unknown}
use Rattle.graph_session.proofs.WalkReads.{costs-fault}
use Rattle.graph_session.proofs.questions.walks.give_levels.Goals as goal

asks : (from to : ℕ) (direction : Direction) (label : Option (List ℕ)) → AsksElements (commands.Levels from to direction label)
asks from to direction label = record { question = tt; some = tt; reading = listed []; formed = ([], refl) }

pub returns-in-Ok-clause-gives : goal.returns-in-Ok-clause-gives
returns-in-Ok-clause-gives g c =
    let met = c.in-Ok.ensures in
    let walk = c.in-Ok.answer.walk in
    let levels = c.in-Ok.answer.levels in
    gives-told (asks c.args.route.from c.args.route.to c.args.route.direction c.args.route.label.now) met.read
    (listed (map level_text levels)) (levels, refl) refl
    (λ told store. met.missing told store)
    (λ told store. (walk, levels, met.found told store, refl)) (rw c.as_slice.ensures at c.give_node_levels.ensures.gives)

pub returns-in-Err-clause-gives : goal.returns-in-Err-clause-gives
returns-in-Err-clause-gives g c =
    let met = c.in-Err.ensures in
    let fault = c.in-Err.fault in
    let a = c.args in
    gives-unknown (asks a.route.from a.route.to a.route.direction a.route.label.now) met.read tt fault (λ disk. met.cause.disk (ap Err disk))
    (λ told store. end-missing Answer fault a.route.from a.route.to (graph_of (g.R.Reads.state c.args.space.now).records) (met.missing told store))
    (λ told. end-blamed (g.R.Reads.state a.space.now) a.route.from a.route.to fault (met.damaged told)) (rw c.from.ensures at c.give_answer.ensures.gives)

pub returns-in-Ok-clause-cost : goal.returns-in-Ok-clause-cost
returns-in-Ok-clause-cost g c = λ told store.
    let met = c.in-Ok.ensures in
    let walk = c.in-Ok.answer.walk in
    let levels = c.in-Ok.answer.levels in
    record {
      reply = Told (map level_text levels) end_text;
      gives = rw c.as_slice.ensures at c.give_node_levels.ensures.gives;
      costs = (walk, levels, met.found told store, refl, met.cost told store);
    }

pub returns-in-Err-clause-cost : goal.returns-in-Err-clause-cost
returns-in-Err-clause-cost g c = λ told store.
    let met = c.in-Err.ensures in
    let old = g.R.Reads.state c.args.space.now in
    let new = g.R.Reads.state c.found_levels.new.space in
    costs-fault (CostsLevels c.args.route old new) old new c.args.context.names.now.names store c.args.route.from c.args.route.to c.in-Err.fault
    met.missing_cost (met.damaged told) (rw c.from.ensures at c.give_answer.ensures.gives)
