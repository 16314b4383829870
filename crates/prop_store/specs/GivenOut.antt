-- Identifiers that were given out.
use Rattle.std.specs.Prelude.{ℕ, ◌<◌, ◌≤◌, List, [], ◌∷◌}
use Rattle.rec_bytes.specs.Format.{meta_file, most_ids}
use Rattle.rec_bytes.specs.RecordFiles.{room_of}
use Rattle.rec_bytes.specs.Space.{State}
use Rattle.rec_bytes.specs.declared.damage.Damage.{Damage}
use Rattle.rec_bytes.specs.declared.fault.Fault.{Fault}
use Rattle.rec_bytes.specs.declared.fault.Fault.TheVariants.{Memory, Disk, Damaged}
use Rattle.rec_bytes.specs.declared.key.Key.{Key}
use Rattle.store_rules.specs.Breaking.{damage}
use Rattle.store_rules.specs.Chains.{In}
use Rattle.store_rules.specs.Views.{Records, high, key_in}

-- it is below the mark of its file, and a store can have a record of it
pub record IsGivenOut (records : Records) (file id : ℕ) : Type 0 where
  pub low : id < high records file
  pub small : id < most_ids

-- so is each of them
abbrev pub AreGivenOut : Records → ℕ → List ℕ → Type 0
AreGivenOut records file ids = (x : ℕ) → In x ids → IsGivenOut records file x

-- A link leads past the mark of its file, and the record that holds it is blamed. Or the mark is
-- above the room, and the file's meta record is.
pub data IsLinkDamage (s : State) (from : Key) (file id : ℕ) : Damage → Type 0 where
  PastMark : high s.records file ≤ id → IsLinkDamage s from file id (damage from.file from.id 1)
  HighMark : room_of s.shape file < high s.records file
      → IsLinkDamage s from file id (damage meta_file file 1)

abbrev pub IsLinkFault : State → Key → ℕ → ℕ → Fault → Type 0
IsLinkFault s from file id Memory = ⊥
IsLinkFault s from file id Disk = ⊥
IsLinkFault s from file id (Damaged d) = IsLinkDamage s from file id d

-- the record that holds the link behind these, the first of which a link of this record leads to
abbrev pub holder_of : ℕ → Key → List ℕ → Key
holder_of file from [] = from
holder_of file from (x ∷ xs) = holder_of file (key_in file x) xs
