-- A run over any disk, as far as the program's loop has come.
use Rattle.std.proofs.Common.{◌≡◌, ℕ, List, Option, ◌++◌, sym, subst}
use Rattle.disk_model.specs.declared.disk.Disk.{Ghosts as DiskGhosts}
use Rattle.stream_io.specs.declared.streams.Sink.{Ghosts as SinkGhosts}
use Rattle.stream_io.specs.declared.streams.Source.{Ghosts as SourceGhosts}
use Rattle.console_words.specs.declared.run_options.RunOptions.{RunOptions}
use Rattle.graph_session.specs.Exchange.{Exchange}
use Rattle.graph_session.specs.SnapshotEffects.{SharedView}
use Rattle.graph_console.specs.AnyDisk.{EndsOver, over_disk, terms_on, terms_over}
use Rattle.graph_console.specs.Sending.{OpensSession}
use Rattle.graph_console.specs.Program.{Serves, Writes, config_for}
use Rattle.graph_console.specs.Serve.{IsViewedAs, Loop, TurnSays, TurnsOver, progress}
use Rattle.graph_console.specs.declared.exit.Exit.{Exit}
use Rattle.graph_console.proofs.Opened.{serves_wider}
use Rattle.graph_console.proofs.Runs.{Carries}

-- the session has the view that the run has come to
abbrev pub IsViewed : {D : Type 0} → DiskGhosts D → SharedView D → List Exchange → SharedView D → Type 0
IsViewed disk session run view = IsViewedAs disk session view

-- a turn carries it on
pub walks_on : {D : Type 0} (disk : DiskGhosts D) (new : SharedView D) (run : List Exchange) (view : SharedView D)
    → Carries (over_disk disk) run view (IsViewedAs disk new) (IsViewed disk new)
walks_on disk new run view = record { on = λ x last step comes. comes; stays = λ comes. comes }

-- what a turn says from the view that the session has, it says from the one that the run has come to
pub turn_from : {S K D : Type 0} (source : SourceGhosts S) (sink : SinkGhosts K) (disk : DiskGhosts D) (exit : Option Exit) (old new : Loop S K D)
    → TurnsOver source sink disk exit old new
    → (view : SharedView D) → IsViewedAs disk old.session view → source.tells → sink.tells
    → TurnSays (over_disk disk) view (IsViewedAs disk new.session) (progress source sink disk old) (progress source sink disk new) exit
turn_from {D = D} source sink disk exit old new turns view viewed s k =
    subst (λ (v : SharedView D). TurnSays (over_disk disk) v (IsViewedAs disk new.session) (progress source sink disk old) (progress source sink disk new) exit)
    (sym viewed.is)
    (turns viewed.state viewed.is_at s k)

-- What a session served from the view that opening left is served by the program that opened it, with what then holds at the end.
pub walks_opened : {D : Type 0} (disk : DiskGhosts D) (options : RunOptions) (old new : D) (first : SharedView D)
    → OpensSession disk (config_for options) old first
    → ((run : List Exchange) (last : SharedView D) → last.session.disk ≡ new → EndsOver disk old new first run last)
    → (exit : Exit) (old_taken new_taken input left : List ℕ) → Writes old_taken new_taken (Serves (terms_on disk first new) exit input left)
    → Writes old_taken new_taken (Serves (terms_over disk options old new) exit input left)
walks_opened {D} disk options old new first starts ends exit old_taken new_taken input left w = (
  w.0,
  w.1,
  serves_wider (terms_on disk first new) (terms_over disk options old new)
      (λ view is. subst (λ (v : SharedView D). OpensSession disk (config_for options) old v) (sym is) starts)
      (λ view run last is steps arrives.
      subst (λ (v : SharedView D). EndsOver disk old new v run last) (sym is) (ends run last arrives))
      (λ why never. absurd never) exit input left w.0 w.2,
)
