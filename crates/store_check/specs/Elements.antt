-- The properties of elements, as a check meets them.
use Rattle.std.specs.Prelude.{◌≡◌, ℕ, ◌<◌, ◌≤◌, Bool, true, nat_eq, nat_lt, List}
use Rattle.std.specs.List.{IsDistinct, list_all}
use Rattle.rec_bytes.specs.Format as format
use Rattle.rec_bytes.specs.RecordFiles.{is_record_file}
use Rattle.store_rules.specs.Views.{Records, high, is_live}
use Rattle.store_check.specs.declared.elements.ElementHeads.{ElementHeads}
use Rattle.store_check.specs.declared.elements.Named.{Named}
use Rattle.store_rules.specs.PropertyChange.{property_from}
use Rattle.store_rules.specs.Breaking.{IsPropertyList, is_element_file, label_of}
use Rattle.record_lists.specs.Lines.{LineKind, live_line}

-- the properties from one on
abbrev pub property_line : LineKind
property_line = live_line format.properties_file format.property_next

abbrev pub is_below : ℕ → ℕ → Bool
is_below mark n = nat_lt n mark

-- these numbers are those of names, and none comes twice
pub record AreKeys (names : ℕ) (keys : List ℕ) : Type 0 where
  pub named : list_all (is_below names) keys ≡ true
  pub distinct : IsDistinct nat_eq keys

-- the bits are those of the records, whose high-water mark is low
pub record AreElements (heads : ElementHeads) (records : Records) : Type 0 where
  pub known : is_element_file heads.file ≡ true
  pub file : is_record_file heads.file ≡ true
  pub elements : heads.elements ≡ high records heads.file
  pub properties : heads.properties ≡ high records format.properties_file
  pub few_elements : high records heads.file ≤ format.most_ids
  pub few_properties : high records format.properties_file ≤ format.most_ids

abbrev pub IsInUse : ElementHeads → Records → ℕ → Type 0
IsInUse heads records x = is_live records heads.file x ≡ true

abbrev pub AreItsProperties : ElementHeads → Records → ℕ → List ℕ → Type 0
AreItsProperties heads records x members =
    IsPropertyList records (property_from records heads.file x) members

-- the mark is that of the records, and low
pub record IsOnElements (sentence : Named) (records : Records) : Type 0 where
  pub file : is_record_file sentence.file ≡ true
  pub elements : sentence.elements ≡ high records sentence.file
  pub few : high records sentence.file ≤ format.most_ids

-- an element in use has a label that is a name
abbrev pub HasName : Named → Records → ℕ → Type 0
HasName sentence records x = is_live records sentence.file x ≡ true
    → label_of records sentence.file x < high records format.names_file
