-- How a session goes from one state to another, and which contents a crash may leave meanwhile.
use Rattle.disk_model.specs.Spans.{AtEachMoment}
use Rattle.disk_model.specs.declared.disk.Disk.{Ghosts}
use Rattle.graph_session.specs.Console.{IsAt, SessionView, TellsAll}
use Rattle.graph_session.specs.Stands.{IsAdmittedByEither}
use Rattle.graph_session.specs.State.{State}

-- A session went from one state to another. It is at the second, which admits what a crash then
-- leaves. At each moment between, a crash leaves what one of the two admits. What a crash leaves is
-- said where the disk tells it.
pub record ComesTo {D : Type 0} (g : Ghosts D) (old new : SessionView D) (before after : State)
    : Type 0 where
  pub is_at : IsAt g new after
  pub crash : TellsAll g → AtEachMoment g old.disk new.disk (IsAdmittedByEither before after)
