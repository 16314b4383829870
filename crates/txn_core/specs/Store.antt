-- What a store stands for.
use Rattle.std.specs.Prelude.{false, is_some}
use Rattle.disk_model.specs.Contents.{Files}
use Rattle.disk_model.specs.declared.disk.Disk.{Ghosts}
use Rattle.rec_bytes.specs.declared.key.Key.{Key}
use Rattle.rec_bytes.specs.declared.record.Rec.{Rec}
use Rattle.rec_bytes.specs.Pairs.{find_pair}
use Rattle.rec_bytes.specs.Space.{State, laid_over}
use Rattle.txn_core.specs.declared.store.Store.{Store}
use Rattle.txn_core.specs.Base as base

module _ {D : Type 0} {g : Ghosts D} where
  -- what is read of the disk
  abbrev pub content : Store D g → Files
  content s = base.content s.base

  -- the records of the last commit
  abbrev pub committed : Store D g → Key → Rec
  committed s = base.committed s.base

  -- the records as the open transaction has them
  abbrev pub working : Store D g → Key → Rec
  working s = base.working s.base

  -- the records with those of the draft
  abbrev pub drafted : Store D g → Key → Rec
  drafted s = laid_over (working s) s.draft.pairs

  -- what the store is as a space: the records with those of the draft, which are the written ones
  abbrev pub state_of : Store D g → State
  state_of s = record {
    records = drafted s;
    written = λ key. is_some (find_pair s.draft.pairs key);
    reads = s.reads;
    shape = s.base.shape;
  }

  -- what it is as a space where only what is committed is read
  abbrev pub committed_state : Store D g → State
  committed_state s = record {
    records = committed s;
    written = λ key. false;
    reads = s.reads;
    shape = s.base.shape;
  }
