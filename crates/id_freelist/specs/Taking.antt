-- What taking an identifier makes of a space.
use Rattle.std.specs.Prelude.{◌≡◌, ◌≢◌, ◌⊎◌, ℕ, ◌+◌, ◌<◌, ◌≤◌, nat_eq, nat_le, nat_lt, Bool, ◌&&◌}
use Rattle.std.specs.Prelude.{◌||◌, if◌then◌else◌, List, [], ◌∷◌}
use Rattle.rec_bytes.specs.declared.damage.Damage.{Damage}
use Rattle.rec_bytes.specs.declared.key.Key.{Key}
use Rattle.rec_bytes.specs.declared.meta.Meta.{Meta}
use Rattle.rec_bytes.specs.Format as format
use Rattle.rec_bytes.specs.Meta.{with_meta}
use Rattle.rec_bytes.specs.RecordFiles.{meta_key_of, room_of}
use Rattle.rec_bytes.specs.Space.{State, after_get, after_meta, meta_in, meta_of}
use Rattle.store_rules.specs.Chains.{In}
use Rattle.store_rules.specs.Rules.{next_free}
use Rattle.store_rules.specs.Views.{Records, high, kind_at}
use Rattle.id_freelist.specs.FreeLists.{IsFreeList}
use Rattle.id_freelist.specs.declared.take_fault.TakeFault.{TakeFault}
use Rattle.id_freelist.specs.declared.take_fault.TakeFault.TheVariants.{Full, Memory, Disk, Damaged}

-- how many identifiers the file has room for
abbrev pub room : State → ℕ → ℕ
room s file = room_of s.shape file

-- ---- what is tested first

-- the mark and the first free identifier are ones that may stand there
abbrev pub is_ranged : Meta → ℕ → Bool
is_ranged meta most =
    nat_le meta.high most && (nat_eq meta.free format.nil || nat_lt meta.free meta.high)

-- all below the mark are live where none is free, else fewer are
abbrev pub is_counted : Meta → Bool
is_counted meta =
    if nat_eq meta.free format.nil then nat_eq meta.live meta.high else nat_lt meta.live meta.high

-- none is free, and fewer are counted than were given out
abbrev pub is_undercounted : Meta → Bool
is_undercounted meta = nat_eq meta.free format.nil && nat_lt meta.live meta.high

-- ---- what is made of the space

-- the identifier that is taken: the first free one, or else the mark
abbrev pub taken_id : Meta → ℕ
taken_id meta = if nat_eq meta.free format.nil then meta.high else meta.free

-- after the mark was taken
unfoldable pub mark_taken : State → ℕ → State
mark_taken s file =
    let m = meta_of s file in
    after_meta s file (record { high = m.high + 1; free = format.nil; live = m.live + 1 })

-- after the first free identifier was taken
unfoldable pub free_taken : State → ℕ → State
free_taken s file =
    let m = meta_of s file in
    after_meta (after_get s) file
    (record { high = m.high; free = next_free s.records file m.free; live = m.live + 1 })

abbrev pub taken : State → ℕ → State
taken s file =
    if nat_eq (meta_of s file).free format.nil then mark_taken s file else free_taken s file

-- ---- the same by the free list

-- the first free identifier, or else the mark
abbrev pub first_of : List ℕ → ℕ → ℕ
first_of [] mark = mark
first_of (x ∷ later) mark = x

abbrev pub rest_of : List ℕ → List ℕ
rest_of [] = []
rest_of (x ∷ later) = later

abbrev pub mark_after : List ℕ → ℕ → ℕ
mark_after [] mark = mark + 1
mark_after (x ∷ later) mark = mark

-- The identifier was taken, and is counted as live. No record but the file's meta record changed.
pub record HasTaken (old new : Records) (file id : ℕ) (free : List ℕ) : Type 0 where
  pub is : id ≡ first_of free (high old file)
  pub list : IsFreeList new file (rest_of free)
  pub mark : high new file ≡ mark_after free (high old file)
  pub live : (meta_in new file).live ≡ (meta_in old file).live + 1
  pub meta : new (meta_key_of file) ≡ with_meta (old (meta_key_of file)) (meta_in new file)
  pub others : (key : Key) → key ≢ meta_key_of file → new key ≡ old key

-- all below the mark are live where none is free, else fewer are
abbrev pub IsCounted : List ℕ → ℕ → ℕ → Type 0
IsCounted [] live mark = live ≡ mark
IsCounted (x ∷ later) live mark = live < mark

-- The mark is within the room. The identifiers on the free list are below the mark and not in use,
-- and the count of the others goes with them.
pub record CanTake (s : State) (file : ℕ) (free : List ℕ) : Type 0 where
  pub list : IsFreeList s.records file free
  pub low : (x : ℕ) → In x free → x < high s.records file
  pub unused : (x : ℕ) → In x free → kind_at s.records file x ≡ format.free_kind
  pub count : IsCounted free (meta_of s file).live (high s.records file)
  pub mark : high s.records file ≤ room s file

-- ---- damage

abbrev pub meta_damage : ℕ → ℕ → Damage
meta_damage file rule = record { file = format.meta_file; id = file; rule = rule }

abbrev pub record_damage : ℕ → ℕ → ℕ → Damage
record_damage file id rule = record { file = file; id = id; rule = rule }

-- the mark is within the room, and the first free identifier is below the mark, by the first rule
pub record IsRanged (meta : Meta) (most : ℕ) : Type 0 where
  pub mark : meta.high ≤ most
  pub first : (meta.free ≡ format.nil) ⊎ (meta.free < meta.high)

-- The record is below the mark and not in use.
pub record IsUnused (records : Records) (file x : ℕ) : Type 0 where
  pub low : x < high records file
  pub free : kind_at records file x ≡ format.free_kind

-- all below the mark are in use
abbrev pub AreAllUsed : Records → ℕ → Type 0
AreAllUsed records file =
    (x : ℕ) → x < high records file → kind_at records file x ≢ format.free_kind

-- The record that is said to be damaged breaks the rule. The meta record has a number that can't
-- stand there. With an empty free list and a low count, a record is not in use and so not on the
-- list, or else the count is wrong; the count is too high for the free list; or the list begins
-- with a record in use. Or the first free record names a next one that can't stand there.
pub data IsTakeDamage (s : State) (file : ℕ) : Damage → Type 0 where
  Unranged : (IsRanged (meta_of s file) (room s file) → ⊥)
      → IsTakeDamage s file (meta_damage file 1)
  Unlisted : (x : ℕ) → (meta_of s file).free ≡ format.nil
      → (meta_of s file).live < (meta_of s file).high → IsUnused s.records file x
      → IsTakeDamage s file (record_damage file x 2)
  Undercounted : (meta_of s file).free ≡ format.nil
      → (meta_of s file).live < (meta_of s file).high → AreAllUsed s.records file
      → IsTakeDamage s file (meta_damage file 2)
  Overcounted : (meta_of s file).high ≤ (meta_of s file).live
      → ((meta_of s file).free ≡ format.nil → (meta_of s file).high < (meta_of s file).live)
      → IsTakeDamage s file (meta_damage file 2)
  InUse : (meta_of s file).free ≢ format.nil
      → kind_at s.records file (meta_of s file).free ≢ format.free_kind
      → IsTakeDamage s file (meta_damage file 2)
  BadNext : (meta_of s file).free ≢ format.nil
      → IsUnused s.records file (meta_of s file).free
      → next_free s.records file (meta_of s file).free ≢ format.nil
      → high s.records file ≤ next_free s.records file (meta_of s file).free
      → IsTakeDamage s file (record_damage file (meta_of s file).free 1)

-- no record that a take reads breaks a rule
abbrev pub IsUndamaged : State → ℕ → Type 0
IsUndamaged s file = (damage : Damage) → IsTakeDamage s file damage → ⊥

-- the record after the first free one is none, or below the mark
abbrev pub IsNextLow : State → ℕ → Type 0
IsNextLow s file =
    let next = next_free s.records file (meta_of s file).free in
    (next ≡ format.nil) ⊎ (next < high s.records file)

abbrev pub IsTakeFault : State → ℕ → TakeFault → Type 0
IsTakeFault s file (Full full live) =
    (full ≡ file) × (live ≡ (meta_of s file).live) × (live ≡ room s file)
IsTakeFault s file Memory = Unit {0}
IsTakeFault s file Disk = Unit {0}
IsTakeFault s file (Damaged damage) = IsTakeDamage s file damage
