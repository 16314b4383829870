-- What a change of one file of records leaves of the others.
use Rattle.std.specs.Prelude.{◌≡◌, ◌≢◌, ℕ, ◌+◌, ◌<◌, ◌/◌, List, [], length}
use Rattle.rec_bytes.specs.declared.key.Key.{Key}
use Rattle.rec_bytes.specs.Format as format
use Rattle.rec_bytes.specs.RecordFiles.{meta_key_of, room_of}
use Rattle.rec_bytes.specs.Space.{State, meta_in, meta_of}
use Rattle.store_rules.specs.Properties.{AreBlocks, AreOnce, head_of}
use Rattle.store_rules.specs.PropertyChange.{ChangesFile}
use Rattle.store_rules.specs.Views.{Records, rec_at}
use Rattle.id_freelist.specs.declared.take_fault.TakeFault.{TakeFault}
use Rattle.id_freelist.specs.declared.take_fault.TakeFault.TheVariants.{Damaged, Disk, Full, Memory}

-- records of other files are the same
abbrev pub IsSameBeside : ℕ → Records → Records → Type 0
IsSameBeside file old new =
    (key : Key) → key.file ≢ file → key ≢ meta_key_of file → new key ≡ old key

-- The file keeps its rules.
abbrev pub KeepsFile : State → ℕ → Type 0
KeepsFile s file = ChangesFile s.records s.records s.shape file [] []

-- how many blocks a text of so many bytes takes
abbrev pub blocks_for : ℕ → ℕ
blocks_for size = (size + 47) / 48

-- The text stands in new blocks from this first one on.
pub record HasWritten (old new : State) (text : List ℕ) (first : ℕ) : Type 0 where
  pub blocks : List ℕ
  pub first_is : first ≡ head_of blocks
  pub are : AreBlocks (rec_at new.records format.strings_file) text blocks
  pub once : AreOnce blocks
  pub count : length blocks ≡ blocks_for (length text)
  pub changes : ChangesFile old.records new.records old.shape format.strings_file [] blocks

-- There is no room for so many records more; else the machine failed.
abbrev pub IsWriteFault : State → ℕ → ℕ → TakeFault → Type 0
IsWriteFault s file needed (Full full live) =
    (full ≡ file) × (room_of s.shape file < (meta_of s file).live + needed)
IsWriteFault s file needed Memory = Unit {0}
IsWriteFault s file needed Disk = Unit {0}
IsWriteFault s file needed (Damaged damage) = ⊥

-- so many fewer are live
abbrev pub HasFewer : State → State → ℕ → ℕ → Type 0
HasFewer old new file count =
    (meta_in new.records file).live + count ≡ (meta_in old.records file).live
