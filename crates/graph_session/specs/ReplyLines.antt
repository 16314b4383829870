-- The lines of a reply on their way to the sink.
use Rattle.std.specs.Prelude.{◌≡◌, List, [], ℕ, ◌++◌}
use Rattle.stream_io.specs.declared.streams.Sink.{Ghosts}
use Rattle.graph_session.specs.LineBuffer.{Adds}
use Rattle.graph_session.specs.declared.reply_lines.ReplyLines.{ReplyLines}
use Rattle.graph_session.specs.declared.turn.Turn.{Turn}

module _ {K : Type 0} where
  -- both are on their way to one sink
  abbrev pub HaveSameSink : ReplyLines K → ReplyLines K → Type 0
  HaveSameSink old new = new.output.ghost_name ≡ old.output.ghost_name

  -- No line is gathered, and the sink is as it was.
  pub record BeginsLines (old new : ReplyLines K) : Type 0 where
    pub empty : new.buffer.now.bytes ≡ []
    pub prefix : new.prefix.now ≡ old.prefix.now
    pub output : new.output.now ≡ old.output.now
    pub same_sink : HaveSameSink old new

  -- A line was gathered after the prefix, which is that of the next line too.
  pub record AddsLine (sink : Ghosts K) (line : List ℕ) (old new : ReplyLines K) (turn : Turn)
      : Type 0 where
    pub adds : Adds sink (old.prefix.now ++ line) old.buffer.now.bytes new.buffer.now.bytes
        old.output.now new.output.now turn
    pub prefix : new.prefix.now ≡ old.prefix.now
    pub same_sink : HaveSameSink old new
