use Rattle.std.proofs.Common.{◌≡◌, ℕ, List, rules, subst, sym}
use Rattle.stream_io.specs.declared.streams.Sink.{Ghosts as SinkGhosts}
use Rattle.plain_graph.specs.declared.command.Command.{Command}
use Rattle.rec_bytes.specs.declared.space.Reads.{Ghosts as SpaceGhosts}
use Rattle.graph_session.specs.Questions.{GivesReading}
use Rattle.graph_session.specs.declared.turn.Turn.{Turn}
use Rattle.graph_session.proofs.questions.reply_question.Goals as goal

-- what was given to the sink that was lent was given to it
given_back : {R K : Type 0} {space : SpaceGhosts R} {sink : SinkGhosts K} {names : List (List ℕ)} {command : Command} {prefix : List ℕ} {a b : R} {before : K}
    {turn : Turn} (now new : K) → new ≡ now → GivesReading space sink names command prefix a b before now turn
    → GivesReading space sink names command prefix a b before new turn
given_back {space = space} {sink = sink} {names = names} {command = command} {prefix = prefix} {a = a} {b = b} {before = before}
    {turn = turn} now new same given =
    subst (λ k. GivesReading space sink names command prefix a b before k turn) (sym same) given

pub returns : goal.returns
returns g c =
    let name = sym c.answer_question.ensures.same_sink in
    given_back _ _ (search rules) c.answer_question.ensures.gives
