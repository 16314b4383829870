-- What clauses see of a session.
use Rattle.std.specs.Prelude.{◌≡◌}
use Rattle.disk_model.specs.declared.disk.Disk.{Ghosts}
use Rattle.txn_core.specs.Store.{committed, working}
use Rattle.graph_session.specs.Answer.{Terminal}
use Rattle.graph_session.specs.Console.{SessionView}
use Rattle.graph_session.specs.SnapshotEffects.{SharedView}
use Rattle.graph_session.specs.declared.session.Session.{Session}

module _ {D : Type 0} {g : Ghosts D} where
  -- what it has in memory, the records beneath it, and its disk as it is now
  abbrev pub view : Session D g → SessionView D
  view session = record {
    console = record {
      shape = session.store.base.shape;
      health = session.health;
      is_live = session.store.base.live;
      is_open = session.store.base.in_transaction;
      weight = session.weight;
      names = session.names.names;
      committed = committed session.store;
      working = working session.store;
      written = session.store.base.own.pairs;
      draft = session.store.draft.pairs;
    };
    disk = session.store.base.disk.now;
  }

  -- the same with what it keeps of old records
  abbrev pub shared_view : Session D g → SharedView D
  shared_view session = record { session = view session; held = session.snaps }

  -- the session with the sink of its replies
  abbrev pub with_sink : {K : Type 0} → Session D g → K → Terminal D K
  with_sink session output = record {
    session = view session;
    held = session.snaps;
    output = output;
  }

  -- both are over one disk
  abbrev pub HaveSameDisk : Session D g → Session D g → Type 0
  HaveSameDisk old new = new.store.base.disk.ghost_name ≡ old.store.base.disk.ghost_name
