-- Calls that read what a store has committed, one after the other.
use Rattle.std.specs.Prelude.{◌≡◌}
use Rattle.std.proofs.Common.{◌∙◌, refl}
use Rattle.disk_model.proofs.Spans.{OnlyNow}
use Rattle.disk_model.specs.declared.disk.Disk.{Ghosts}
use Rattle.txn_core.specs.Base.{OnlyReadsBase}
use Rattle.txn_core.specs.OnlyReading.{only_reads_base_none, only_reads_base_on}
use Rattle.txn_core.specs.declared.committed.Committed.{Committed}
use Rattle.txn_core.specs.declared.store.Store.{Store}

module _ {D : Type 0} {g : Ghosts D} where
  -- the store was only read
  pub record OnlyReadsStore (old new : Store D g) : Type 0 where
    pub base : OnlyReadsBase old.base new.base
    pub draft : new.draft ≡ old.draft

  pub store_none : OnlyNow g → (s : Store D g) → OnlyReadsStore s s
  store_none only s = record { base = only_reads_base_none only s.base; draft = refl }

  pub store_more : {a b c : Store D g} → OnlyReadsStore a b → OnlyReadsStore b c
      → OnlyReadsStore a c
  store_more first more = record {
    base = only_reads_base_on first.base more.base;
    draft = more.draft ∙ first.draft;
  }

  -- the same store was only read
  pub record OnwardCommitted (old new : Committed D g) : Type 0 where
    pub same : new.store.ghost_name ≡ old.store.ghost_name
    pub reads : OnlyReadsStore old.store.now new.store.now

  pub committed_none : OnlyNow g → (c : Committed D g) → OnwardCommitted c c
  committed_none only c = record { same = refl; reads = store_none only c.store.now }

  pub committed_more : (a b c : Committed D g) → OnwardCommitted a b → OnwardCommitted b c
      → OnwardCommitted a c
  committed_more a b c first more = record {
    same = more.same ∙ first.same;
    reads = store_more first.reads more.reads;
  }
