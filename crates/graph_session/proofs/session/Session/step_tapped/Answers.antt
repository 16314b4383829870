use Rattle.std.proofs.Common.{◌≡◌, Option, Some, subst}
use Rattle.disk_model.specs.declared.disk.Disk.{Ghosts as DiskGhosts}
use Rattle.stream_io.specs.Lines.{InputLine}
use Rattle.stream_io.specs.declared.streams.Sink.{Ghosts as SinkGhosts}
use Rattle.rec_bytes.specs.Pairs.{Held}
use Rattle.graph_session.specs.Answer.{Terminal}
use Rattle.graph_session.specs.Tapping.{Takes, Taps, TapsAnswer, TapsLine}
use Rattle.graph_session.specs.declared.turn.Turn.{Turn}
use Rattle.graph_session.proofs.session.Session.step_tapped.Goals as goal

-- the set that is handed back has what was taken
tapped-line : {D K : Type 0} (disk : DiskGhosts D) (sink : SinkGhosts K) (line : InputLine) (old new : Terminal D K) (turn : Turn) (was set : Held)
    (now : Option Held) → TapsAnswer disk sink line old new turn (Some was) now → now ≡ Some set
    → TapsLine disk sink line old new turn set.pairs
tapped-line disk sink line old new turn was set now both is =
    record {
      answers = both.0;
      taps = λ _. subst (λ (left : Option Held). Takes (Taps disk line old.session both.0.reply new.session) (Some was) left)
          is both.1;
    }

pub returns-in-Some-clause-answers : goal.returns-in-Some-clause-answers
returns-in-Some-clause-answers g c = tapped-line g.D.Disk g.K.Sink _ _ _ _ c.replace.result c.in-Some.set c.answer_line-turn.new.tap
    c.answer_line-turn.ensures.answers c.in-Some.is
