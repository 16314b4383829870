-- Room in the files of a store.
use Rattle.std.specs.Prelude.{◌≡◌, ℕ, ◌+◌, ◌<◌, ◌≤◌}
use Rattle.rec_bytes.specs.Format.{nodes_file, properties_file, relationships_file, strings_file}
use Rattle.rec_bytes.specs.RecordFiles.{room_of}
use Rattle.rec_bytes.specs.Space.{State, meta_of}
use Rattle.change_parts.specs.declared.change_fault.ChangeFault.{ChangeFault}
use Rattle.change_parts.specs.declared.change_fault.ChangeFault.TheVariants.{Full}

-- the file has room for so many records more
abbrev pub HasRoom : State → ℕ → ℕ → Type 0
HasRoom s file needed = (meta_of s file).live + needed ≤ room_of s.shape file

-- The file has no room for so many records more, and the fault says how many are live.
pub record LacksRoom (s : State) (file needed : ℕ) (fault : ChangeFault) : Type 0 where
  pub is : fault ≡ Full file (meta_of s file).live
  pub lacks : room_of s.shape file < (meta_of s file).live + needed

-- the meta records of all that elements are made of say what they said
pub record KeepsElementMetas (s t : State) : Type 0 where
  pub nodes : meta_of t nodes_file ≡ meta_of s nodes_file
  pub edges : meta_of t relationships_file ≡ meta_of s relationships_file
  pub properties : meta_of t properties_file ≡ meta_of s properties_file
  pub blocks : meta_of t strings_file ≡ meta_of s strings_file
