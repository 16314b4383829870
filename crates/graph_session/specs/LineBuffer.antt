-- What a text that is gathered leaves of a sink.
use Rattle.std.specs.Prelude.{◌≡◌, ◌≢◌, ◌≤◌, ℕ, List, ◌++◌}
use Rattle.fault_count.specs.Cause.{Rose}
use Rattle.stream_io.specs.Streams.{TakesFront}
use Rattle.stream_io.specs.declared.streams.Sink.{Ghosts}
use Rattle.graph_session.specs.declared.turn.Turn.{Turn}
use Rattle.graph_session.specs.declared.turn.Turn.TheVariants.{Go, Quit, SinkFault}

-- What a sink took and what is held beside it: with the text more, or where the sink failed a
-- prefix of what was held and of the text.
abbrev pub Gathers : Turn → (before after : List ℕ) → (old new : List ℕ) → List ℕ → Type 0
Gathers Go before after old new text =
    (given : List ℕ) × (after ≡ before ++ given) × (given ++ new ≡ old ++ text)
Gathers Quit before after old new text = ⊥
Gathers SinkFault before after old new text = TakesFront before after (old ++ text)

-- A text was gathered, and what was held before it went to the sink where it had no room.
pub record Adds {K : Type 0} (sink : Ghosts K) (text old new : List ℕ) (before after : K)
    (turn : Turn) : Type 0 where
  pub gathers : sink.tells → Gathers turn (sink.taken before) (sink.taken after) old new text
  pub runs : turn ≢ Quit
  pub cause : turn ≡ SinkFault → Rose (sink.faults before) (sink.faults after)
  pub later : sink.faults before ≤ sink.faults after
