-- What an entry that is added makes of the records.
use Rattle.std.specs.Prelude.{◌≡◌, ℕ}
use Rattle.id_freelist.specs.declared.take_fault.TakeFault.{TakeFault}
use Rattle.id_freelist.specs.declared.take_fault.TakeFault.TheVariants as takes
use Rattle.plain_graph.specs.declared.value.Value.{Value}
use Rattle.rec_bytes.specs.declared.fault.Fault.{Fault}
use Rattle.rec_bytes.specs.declared.fault.Fault.TheVariants as faults
use Rattle.rec_bytes.specs.Format as format
use Rattle.rec_bytes.specs.RecordFiles.{room_of}
use Rattle.rec_bytes.specs.Space.{State, meta_of}
use Rattle.store_rules.specs.Hashes.{hash_of}
use Rattle.store_rules.specs.IndexChange.{IsEntryMade}
use Rattle.store_rules.specs.Indexes.{Entry}
use Rattle.store_rules.specs.Views.{Records}
use Rattle.prop_index.specs.Heads.{BeginsRight}
use Rattle.prop_index.specs.declared.entry_row.Content.{Content}
use Rattle.prop_index.specs.declared.heads.Bucket.{Bucket}

-- the entry of a value that a node has
abbrev pub entry_of : ℕ → ℕ → ℕ → Value → Entry
entry_of label key node value =
    record { label = label; key = key; node = node; hash = hash_of value }

-- An entry was put in front of the bucket, where the one that stood first was an entry.
abbrev pub IsMade : Records → Records → Bucket → Content → Type 0
IsMade s t bucket content =
    BeginsRight s bucket
    → (id : ℕ) × IsEntryMade s t id bucket.slot.id bucket.slot.place content.node content.hash

-- where there is room for the entry, only memory or the disk is to blame
abbrev pub IsMishap : TakeFault → Type 0
IsMishap (takes.Full file live) = ⊥
IsMishap takes.Memory = Unit {0}
IsMishap takes.Disk = Unit {0}
IsMishap (takes.Damaged damage) = ⊥

-- The file is full where as many records of the index are live as there is room for.
abbrev pub IsIndexFull : State → TakeFault → Type 0
IsIndexFull s (takes.Full file live) =
    (file ≡ format.index_file) × (live ≡ (meta_of s format.index_file).live)
    × (live ≡ room_of s.shape format.index_file)
IsIndexFull s takes.Memory = Unit {0}
IsIndexFull s takes.Disk = Unit {0}
IsIndexFull s (takes.Damaged damage) = Unit {0}

-- a fault of records that are read as one of a change
abbrev pub of_read : Fault → TakeFault
of_read faults.Memory = takes.Memory
of_read faults.Disk = takes.Disk
of_read (faults.Damaged damage) = takes.Damaged damage

-- the file is not said to be full
abbrev pub IsNotFull : TakeFault → Type 0
IsNotFull (takes.Full file live) = ⊥
IsNotFull takes.Memory = Unit {0}
IsNotFull takes.Disk = Unit {0}
IsNotFull (takes.Damaged damage) = Unit {0}
