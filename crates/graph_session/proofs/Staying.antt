-- A session over a disk that was only read.
use Rattle.std.proofs.Common.{◌≡◌, ◌∙◌, true, Some, is_some, [], inl, refl, sym, ap}
use Rattle.disk_model.specs.Contents.{Files, Same}
use Rattle.disk_model.specs.Spans.{AtEachMoment, OnlyReads}
use Rattle.disk_model.specs.declared.disk.Disk.{Ghosts}
use Rattle.disk_model.proofs.Spans.{OnlyNow, at_each_moment_weaker, only_reads_none}
use Rattle.record_file.proofs.Redone.{Redoes-kept}
use Rattle.graph_session.specs.Console.{IsAt, SessionView, TellsAll}
use Rattle.graph_session.specs.Effects.{Stays}
use Rattle.graph_session.specs.Moments.{ComesTo}
use Rattle.graph_session.specs.Stands.{AreAdmitted, HoldsAdmitted, IsAdmittedByEither}
use Rattle.graph_session.specs.State.{State, Transaction}

-- what is read stays admitted
pub held-kept : (state : State) (old new : Files) → Same old new → HoldsAdmitted state old → HoldsAdmitted state new
held-kept state old new same (graph, admits, made) = (
  graph,
  admits,
  record {
    space = made.space;
    redoes = Redoes-kept made.space old new made.redoes same;
    store = made.store;
    graph_is = made.graph_is;
  },
)

module _ {D : Type 0} {g : Ghosts D} where
  -- nothing was called
  pub stays-none : OnlyNow g → (session : SessionView D) → session.console.draft ≡ [] → Stays g session session
  stays-none only session no_draft = record {
    beneath = record { shape = refl; is_live = refl; committed = λ told. refl; no_draft = no_draft; disk = only_reads_none g session.disk only };
    health = refl;
    is_open = refl;
    weight = λ opened. refl;
    names = refl;
    written = refl;
    working = λ told. refl;
  }

  module _ {old : SessionView D} {state : State} (at : IsAt g old state) where
    -- what the disk holds is what it held
    pub reads-kept : (disk : D) → OnlyReads g old.disk disk → g.tells_reads → HoldsAdmitted state (g.reads disk)
    reads-kept disk reads told = held-kept state (g.reads old.disk) (g.reads disk) reads.keeps (at.reads told)

    pub images-kept : (disk : D) → OnlyReads g old.disk disk → TellsAll g → AreAdmitted state (g.may_leave disk)
    images-kept disk reads told image left = at.images told image (reads.crash told.1 image left)

    -- at each moment a crash leaves what the state before admits
    pub crash-kept : (after : State) (disk : D) → OnlyReads g old.disk disk → TellsAll g → AtEachMoment g old.disk disk (IsAdmittedByEither state after)
    crash-kept after disk reads told =
        at_each_moment_weaker g old.disk disk (g.may_leave old.disk) (IsAdmittedByEither state after) (reads.time told.1)
        (λ image left. inl (at.images told image left))

    pub open_as : (transaction : Transaction) → state.open_one ≡ Some transaction → old.console.is_open ≡ true
    open_as transaction is = sym at.opened ∙ ap is_some is

  module _ {old new : SessionView D} {state : State} (at : IsAt g old state) (stays : Stays g old new) where
    pub stays-at : IsAt g new state
    stays-at = record {
      shape = at.shape ∙ sym stays.beneath.shape;
      health = stays.health ∙ at.health;
      opened = at.opened ∙ sym stays.is_open;
      weight = λ transaction is. stays.weight (open_as at transaction is) ∙ at.weight transaction is;
      no_draft = stays.beneath.no_draft;
      closed = at.closed;
      holds = λ told live.
          let held = at.holds told live in
          record {
            live = stays.beneath.is_live ∙ held.live;
            committed = rw (stays.beneath.committed told) held.committed;
            committed_graph = rw (stays.beneath.committed told) held.committed_graph;
            working = rw (stays.working told) held.working;
            working_graph = rw (stays.working told) held.working_graph;
            names = stays.names ∙ held.names;
            brought = (held.brought.0, stays.names ∙ held.brought.1);
          };
      known = λ told failed graph admits. let had = at.known told failed graph admits in (had.0, stays.names ∙ had.1);
      reads = reads-kept at new.disk stays.beneath.disk;
      images = images-kept at new.disk stays.beneath.disk;
    }

    -- it comes to the state that it was at
    pub comes-stays : ComesTo g old new state state
    comes-stays = record { is_at = stays-at; crash = crash-kept at state new.disk stays.beneath.disk }
