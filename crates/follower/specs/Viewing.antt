-- What callers see of a follower.
use Rattle.std.specs.Prelude.{◌≡◌}
use Rattle.disk_model.specs.declared.disk.Disk.{Ghosts}
use Rattle.txn_core.specs.Store.{committed}
use Rattle.follower.specs.Follower.{View}
use Rattle.follower.specs.declared.follower.Follower.{Follower}

module _ {D : Type 0} {g : Ghosts D} where
  -- the disk and the shape of its store, what is committed, the number and whether it is live
  abbrev pub view : Follower D g → View D
  view follower = record {
    disk = follower.store.base.disk.now;
    shape = follower.store.base.shape;
    records = committed follower.store;
    have = follower.have;
    live = follower.live;
  }

  -- both are over one disk
  abbrev pub HaveSameDisk : Follower D g → Follower D g → Type 0
  HaveSameDisk old new = new.store.base.disk.ghost_name ≡ old.store.base.disk.ghost_name
