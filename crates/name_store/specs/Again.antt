-- What a comparison of the names that are kept with those of a space finds.
use Rattle.std.specs.Prelude.{◌≡◌, ◌≢◌, ◌⊎◌, ℕ, ◌<◌, nat_lt, List, Some, length, slice_get}
use Rattle.std.specs.Prelude.{if◌then◌else◌}
use Rattle.rec_bytes.specs.Format as format
use Rattle.rec_bytes.specs.declared.damage.Damage.{Damage}
use Rattle.rec_bytes.specs.Space.{State, after_get}
use Rattle.rec_bytes.specs.declared.row_fault.RowFault.{RowFault}
use Rattle.rec_bytes.specs.declared.row_fault.RowFault.TheVariants.{Disk, Damaged}
use Rattle.store_rules.specs.Views.{Records}
use Rattle.name_store.specs.Loading.{name_damage, name_mark, text_at}

-- the record is the first of the space's whose name isn't the one that is kept, or is past those
pub record IsFirstOther (records : Records) (names : List (List ℕ)) (damage : Damage) : Type 0 where
  pub id : ℕ
  pub is : damage ≡ name_damage id 6
  pub below : id < name_mark records
  pub before : (x : ℕ) → x < id → slice_get names x ≡ Some (text_at records x)
  pub other : slice_get names id ≢ Some (text_at records id)

abbrev pub IsAgainFault : Records → List (List ℕ) → RowFault → Type 0
IsAgainFault records names Disk = Unit {0}
IsAgainFault records names (Damaged damage) = IsFirstOther records names damage

-- the meta record of the names is said to break their rule, and counts fewer of them than are kept
pub record HasMore (records : Records) (names : List (List ℕ)) (damage : Damage) : Type 0 where
  pub is : damage ≡ record { file = format.meta_file; id = format.names_file; rule = 6 }
  pub more : name_mark records < length names

-- The names of the space are not those that are kept: the record is that of the first that isn't,
-- or the names' meta record where more are kept.
abbrev pub IsOtherName : Records → List (List ℕ) → Damage → Type 0
IsOtherName records names damage =
    IsFirstOther records names damage ⊎ HasMore records names damage

-- why the names of a space are not said to be those that are kept
abbrev pub IsTestFault : Records → List (List ℕ) → RowFault → Type 0
IsTestFault records names Disk = Unit {0}
IsTestFault records names (Damaged damage) = IsOtherName records names damage

-- each name of the records is kept, under its number
abbrev pub KeepsEach : Records → List (List ℕ) → Type 0
KeepsEach records names =
    (id : ℕ) → id < name_mark records → slice_get names id ≡ Some (text_at records id)

-- the name of this number isn't the one that is kept
abbrev pub HasOther : Records → List (List ℕ) → ℕ → RowFault → Type 0
HasOther records names id Disk = Unit {0}
HasOther records names id (Damaged damage) =
    (damage ≡ name_damage id 6) × (slice_get names id ≢ Some (text_at records id))

-- a name past those that are kept isn't read
abbrev pub after_compare : State → List (List ℕ) → ℕ → State
after_compare s names id = if nat_lt id (length names) then after_get s else s
